-- `lower` makes the model's step at a marked state that is no goal; the check finds the other way by itself.
use mathlib.Core.Path.{sym, ◌∙◌}
use native.Mathlib.Omega.{arith}
use borrow.Author.Tests.{ne_eqb}
use Rattle.walking.specs.Walkable.{problem_walkable}
use Rattle.walking.proofs.Costing.{cost_is}
use Rattle.walking.proofs.least.lower.Goals as goal

pub returns : goal.returns
returns c =
    let p = c.args.problem in
    let picks = c.args.picks.now in
    let goal = sym c.is_goal.ensures ∙ c.if-is_goal.false in
    let said = c.requires.0.costs _ c.requires.2 goal c.if-marks-s-eq0.false in
    let costs = cost_is (problem_walkable p) picks c.args.s said c.requires.1 c.pick_cost.ensures in
    rw (goal, ne_eqb _ _ c.if-marks-s-eq0.false, ← costs) (omega arith)
