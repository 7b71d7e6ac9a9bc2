-- `least_listed` answers the least over the states of the list passed, one state more a turn.
use mathlib.Core.Path.{◌≡◌}
use lib.ListN.{take}
use Rattle.model.specs.Sections.{problem_of}
use Rattle.model.specs.Value.{by_state}
use Rattle.guarantee.specs.Leasts.{least_over}
use Rattle.walking.specs.Costs.{no_cost}
use Rattle.walking.proofs.least.least_listed.Given as goal

abbrev pub invariant-loop-s : goal.invariant-loop-s
invariant-loop-s l =
    l.least ≡ least_over (problem_of l.problem.file.now) (by_state l.picks) (take l.s-index l.list) no_cost
