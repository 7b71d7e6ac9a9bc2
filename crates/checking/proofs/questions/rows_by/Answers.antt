-- `rows_by` answers a state's rows as a part of the file: the index gives its ends.
use Rattle.std.proofs.Common.{◌∙◌, sym, ap}
use Rattle.model.specs.Answers.{verdict_of}
use Rattle.checking.proofs.Looking.{refused_rows, no_state_rows, stretch_is}
use Rattle.checking.proofs.questions.rows_by.Goals as goal

pub returns-in_default : goal.returns-in_default
returns-in_default c = refused_rows _ _ _ _ (sym c.questions.ensures.verdict ∙ ap verdict_of c.in_default.is)

pub returns-then-l-state : goal.returns-then-l-state
returns-then-l-state c =
    let e = sym c.questions.ensures.verdict ∙ ap verdict_of c.in-Ok.is in
    no_state_rows _ _ e (rw (← c.layout_of-l.ensures.states_are) c.if-l-state.true)

pub returns : goal.returns
returns c =
    let y = c.questions.ensures.ready (ap verdict_of c.in-Ok.is) in
    stretch_is c.layout_of-l.ensures y c.if-l-state.false (sym c.questions.ensures.verdict ∙ ap verdict_of c.in-Ok.is)
