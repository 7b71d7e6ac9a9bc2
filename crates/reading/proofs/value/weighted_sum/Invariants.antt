-- `weighted_sum` answers the weighted sum of a part's outcomes: what is summed and what is left add to the whole. Each product
-- is below 2 ^ 48, and a row has few outcomes.
use Prim.Native.Nat.{◌≤◌, ◌-◌, ◌+◌, ◌*◌}
use mathlib.Core.Path.{◌≡◌}
use Rattle.model.specs.Limits.{value_bound}
use Rattle.model.specs.Sections.{outcomes_from}
use Rattle.model.specs.Value.{weighted_sum, by_state}
use Rattle.reading.specs.Bounds.{short_bound}
use Rattle.reading.proofs.value.weighted_sum.Given as goal

abbrev pub invariant-loop-i : goal.invariant-loop-i
invariant-loop-i l =
    (l.i ≤ l.count)
    × (l.sum ≤ short_bound * value_bound * l.i)
    × (weighted_sum (outcomes_from l.part 0 l.count) (by_state l.values)
    ≡ l.sum + weighted_sum (outcomes_from l.part l.i (l.count - l.i)) (by_state l.values))

abbrev pub decreases-loop-i : goal.decreases-loop-i
decreases-loop-i l = l.count - l.i
