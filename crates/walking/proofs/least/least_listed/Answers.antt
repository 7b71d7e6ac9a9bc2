-- `least_listed` answers the least over the states of the list passed, one state more a turn.
use native.Mathlib.Omega.{arith}
use Rattle.model.specs.Sections.{problem_of}
use Rattle.model.specs.Value.{by_state}
use Rattle.walking.proofs.Costing.{least_over-none, costed_row, listed_picked, list_more}
use Rattle.walking.proofs.least.least_listed.Goals as goal

pub loop-s-init : goal.loop-s-init
loop-s-init c = least_over-none (problem_of c.args.problem.file.now) (by_state c.args.picks.now) c.args.list.now _

pub bounds-picks-s : goal.bounds-picks-s
bounds-picks-s c = listed_picked c.requires _ c.loop-s-test.true

pub pick_cost-cost-requires : goal.pick_cost-cost-requires
pick_cost-cost-requires c = costed_row c.requires.walkable (c.requires.costs _ c.loop-s-test.true)

pub loop-s-preserved : goal.loop-s-preserved
loop-s-preserved c =
    list_more c.requires _ c.loop-s-test.true c.give_up_cost-limit.ensures _ c.loop-s.invariant
    c.pick_cost-cost.ensures (omega arith)
