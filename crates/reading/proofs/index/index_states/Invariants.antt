-- `index_states` fills in the first rows. So far the total is the sum and the table is filled; a state's row number is a byte.
use Prim.Native.Nat.{◌≤◌, ◌*◌}
use mathlib.Core.Path.{◌≡◌}
use Rattle.model.specs.Search.{sum_to}
use Rattle.model.specs.Rounds.{fill_to}
use Rattle.reading.specs.Bounds.{max_byte}
use Rattle.reading.specs.Tests.{row_count_at}
use Rattle.reading.proofs.index.index_states.Given as goal

abbrev pub invariant-loop-s : goal.invariant-loop-s
invariant-loop-s l =
    (l.total ≤ max_byte * l.s)
    × (l.total ≡ sum_to (row_count_at l.file l.at) l.s)
    × (l.index ≡ fill_to (sum_to (row_count_at l.file l.at)) l.initial.index l.s)
