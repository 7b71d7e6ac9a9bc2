-- `least_cost` answers the model's least over the states passed, one step of it a turn.
use mathlib.Core.Path.{◌≡◌}
use Rattle.model.specs.Sections.{problem_of}
use Rattle.model.specs.Value.{by_state}
use Rattle.model.specs.Walk.{least_to}
use Rattle.walking.proofs.least.least_cost.Given as goal

abbrev pub invariant-loop-s : goal.invariant-loop-s
invariant-loop-s l = l.least ≡ least_to (problem_of l.problem.file.now) (by_state l.picks) l.marks l.s
