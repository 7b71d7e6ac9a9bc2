-- `audit_problem` answers question 15, and then the questions about the tables.
use mathlib.Core.Path.{◌∙◌}
use Rattle.auditing.proofs.Stops.{stop_values, stop_picks, asks_tables}
use Rattle.auditing.proofs.asking.audit_problem.Goals as goal

pub returns-then-values-states : goal.returns-then-values-states
returns-then-values-states c =
    c.refused.ensures ∙ stop_values _ _ _ c.layout_of-states.ensures.states_are c.if-values-states.true

pub returns-then-picks-states : goal.returns-then-picks-states
returns-then-picks-states c =
    c.refused-then-picks-states.ensures
    ∙ stop_picks _ _ _ c.layout_of-states.ensures.states_are c.if-values-states.false c.if-picks-states.true

pub returns : goal.returns
returns c =
    asks_tables _ _ _ c.layout_of-states.ensures.states_are c.if-values-states.false c.if-picks-states.false
    c.table_questions.ensures
