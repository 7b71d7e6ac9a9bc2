-- `least_cost` answers the model's least over the states passed, one step of it a turn.
use Rattle.walking.specs.Walkable.{problem_walkable}
use Rattle.walking.proofs.Costing.{start_least, least_more}
use Rattle.walking.proofs.least.least_cost.Goals as goal

pub loop-s-init : goal.loop-s-init
loop-s-init c =
    start_least (problem_walkable c.args.problem) c.requires.0 c.requires.2 c.start.ensures
    c.give_up_cost-limit.ensures c.pick_cost-least.ensures

pub loop-s-preserved : goal.loop-s-preserved
loop-s-preserved c =
    least_more c.args.problem.file.now c.args.picks.now c.args.marks.now _ c.loop-s.invariant c.lower-least.ensures
