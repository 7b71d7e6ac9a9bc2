-- `run` makes the model's run: what is left of it gives the same as the whole, in both parts of a finishing run. A list is walked anew
-- where a pick changed, so that each round finds the walk of its picks.
use Rattle.std.proofs.Common.{◌≡◌, true, []}
use Rattle.model.specs.Rounds.{run_from, goes_on}
use Rattle.backing.specs.Scanned.{problem_in, machine_of, Same}
use Rattle.solving.specs.Runs.{tables_with}
use Rattle.solving.proofs.Running.{RunLeft}
use Rattle.solving.proofs.run.run.Given as goal

abbrev pub invariant-loop-rounds : goal.invariant-loop-rounds
invariant-loop-rounds l =
    RunLeft l.terms.problem l.budget
    (goes_on l.fn.kind (problem_in l.terms.problem) l.budget
    (run_from (problem_in l.terms.problem) l.terms.tolerance l.budget true 0 (machine_of l.initial.values l.initial.memory [] 0 true)))
    (tables_with l.values l.memory l.list) l.memory.entries.now l.left l.by.tolerance l.rounds l.standing
    × (l.by.problem ≡ l.terms.problem) × Same l.initial.memory l.memory
