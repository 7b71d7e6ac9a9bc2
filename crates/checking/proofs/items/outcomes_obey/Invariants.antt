-- `outcomes_obey` answers question 10 of one row. What is left obeys exactly where all do, and the weights so far and those
-- left add to the sum of all.
use Rattle.std.proofs.Common.{◌≡◌, ◌≤◌, ◌-◌, ◌+◌, ◌*◌, ◌/◌, length}
use Rattle.reading.specs.Bounds.{short_bound}
use Rattle.model.specs.Questions.{outcomes_obey}
use Rattle.model.specs.Sections.{outcomes_from}
use Rattle.model.specs.Value.{total_weight}
use Rattle.checking.proofs.items.outcomes_obey.Given as goal

abbrev pub invariant-loop-i : goal.invariant-loop-i
invariant-loop-i l =
    let all = length l.part / 4 in
    (l.sum ≤ short_bound * l.i)
    × (outcomes_obey l.states l.total (outcomes_from l.part 0 all) ≡ outcomes_obey l.states l.total (outcomes_from l.part l.i (all - l.i)))
    × (total_weight (outcomes_from l.part 0 all) ≡ l.sum + total_weight (outcomes_from l.part l.i (all - l.i)))
