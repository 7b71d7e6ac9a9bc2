-- `is_close` answers the test of question 19: yes where the state is not reached or a goal, else whether its pick's
-- value is near.
use mathlib.Core.Path.{refl, sym, ◌∙◌}
use Rattle.model.specs.Audit.{pick_value}
use Rattle.auditing.proofs.plan.Plan.is_close.Goals as goal

pub returns-else-not-is_open : goal.returns-else-not-is_open
unfolding pick_value
returns-else-not-is_open c =
    let opened = sym c.is_open.ensures ∙ c.if-not-is_open.false in
    rw (opened, c.pick_value.ensures.result_value, c.requires.1) refl
