-- `index_rows` fills in the rows. So far the total is the sum and the entries are made; a row's number of outcomes is a byte.
use Prim.Native.Nat.{◌≤◌, ◌*◌, ◌+◌}
use mathlib.Core.Path.{◌≡◌}
use Rattle.model.specs.Search.{sum_to}
use Rattle.reading.specs.Bounds.{max_byte}
use Rattle.reading.specs.Tests.{outcome_count_at, ticks_at, row_entries}
use Rattle.reading.proofs.index.index_rows.Given as goal

abbrev pub invariant-loop-r : goal.invariant-loop-r
invariant-loop-r l =
    (l.total ≤ max_byte * l.r)
    × (l.total ≡ sum_to (outcome_count_at l.file l.at) l.r)
    × (l.index ≡ row_entries (λ k. l.at3 + 4 * sum_to (outcome_count_at l.file l.at) k) (ticks_at l.file l.at) l.initial.index l.r)
