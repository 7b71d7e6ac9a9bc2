-- The value of a row from the part of the file that the index gives to it.
use mathlib.Core.Path.{◌≡◌, refl, ap}
use Prim.Native.Nat.{ℕ, ◌+◌, ◌-◌, ◌*◌, ◌/◌, ◌%◌, ◌≤◌, ◌<◌}
use native.Mathlib.Omega.{arith}
use mathlib.Core.Bool.{false}
use mathlib.Core.List.{List}
use borrow.Author.Tests.{le-ltb}
use lib.Dec.{ltb}
use lib.ListN.{length, get_or, drop}
use Rattle.model.specs.Bytes.{u16_at}
use Rattle.model.specs.Limits.{max_rows}
use Rattle.model.specs.Sections.{problem_of}
use Rattle.model.specs.Sections.{outcome_count_of}
use Rattle.model.specs.Value.{weighted_sum, row_value, row_remainder}
use Rattle.guarantee.specs.Parts.{outcomes_count}
use Rattle.guarantee.specs.ReadsBack.{u16_front}
use Rattle.reading.specs.Ready.{Indexed, Ready, RowReady, SumThere, PartThere}
use Rattle.reading.specs.RowParts.{part_size, part_begins, part_spans, part_inside, part_holds, part_from, part_to, rows_end}
use Rattle.reading.specs.Tests.{rows_base, part_of, part_bytes, outcomes_in}

-- the part of row r
module _ {f index : List ℕ} (h : Indexed f index) (r : ℕ) (l : r < (problem_of f).rows) where
  part_bytes_lem : length (part_of f index r) ≡ 4 * outcome_count_of f r
  part_bytes_lem = part_size f (part_from index r) (part_to index r) (outcome_count_of f r) (part_spans h r l) (part_inside h r l)

  pub part_is : part_of f index r ≡ part_bytes f r
  part_is =
      let size : part_to index r - part_from index r ≡ 4 * outcome_count_of f r = omega (arith, part_spans h r l) in
      rw (size, part_begins h r l) refl

  pub part_long : length (part_of f index r) ≡ 4 * length ((problem_of f).outcomes r)
  part_long =
      let count = ap length (part_holds h r l) in
      omega (arith, part_bytes_lem, outcomes_count (part_of f index r) 0 (length (part_of f index r) / 4))

-- what the value of row r asks
pub row_stands : {f index : List ℕ} {entries r : ℕ} → Ready f index → (problem_of f).states ≤ entries → r < (problem_of f).rows
    → RowReady f index entries r
row_stands ready long l = record { ready = ready; entries_there = long; row_there = l }

module _ {f index : List ℕ} {entries r : ℕ} (h : RowReady f index entries r) where
  part_successor : (i : ℕ) → i < outcome_count_of f r → u16_at (part_of f index r) (4 * i) < entries
  part_successor i l =
      let size : 4 * i + 2 ≤ part_to index r - part_from index r = omega (arith, part_spans h.ready.indexed r h.row_there) in
      let begins = part_begins h.ready.indexed r h.row_there in
      rw (u16_front (part_to index r - part_from index r) (drop (part_from index r) f) (4 * i) size, begins)
      (omega (arith, h.ready.successor_there r i h.row_there l))

  sum_there : SumThere (part_of f index r) entries
  sum_there =
      let size = part_bytes_lem h.ready.indexed r h.row_there in
      record {
        few = omega (arith, h.ready.indexed.outcomes_few r);
        there = λ i l. part_successor i (omega arith);
      }

  pub row_part_there : PartThere f entries (part_from index r) (part_to index r)
  row_part_there =
      record {
        ordered = omega (arith, part_spans h.ready.indexed r h.row_there);
        inside = part_inside h.ready.indexed r h.row_there;
        sums = sum_there;
      }

  pub row_value_is
      : (v : ℕ → ℕ) → get_or index (rows_base + 2 * r + 1) 0 + weighted_sum (outcomes_in (part_of f index r)) v / (problem_of f).total
      ≡ row_value (problem_of f) v r
  unfolding row_value
  row_value_is v = rw (part_holds h.ready.indexed r h.row_there, h.ready.indexed.ticks r h.row_there)

  pub row_remainder_is
      : (v : ℕ → ℕ) → weighted_sum (outcomes_in (part_of f index r)) v % (problem_of f).total ≡ row_remainder (problem_of f) v r
  unfolding row_remainder
  row_remainder_is v = rw (part_holds h.ready.indexed r h.row_there)

  -- a row's value is at least its cost
  pub cost_passes : (v : ℕ → ℕ) (x : ℕ) → x ≤ get_or index (rows_base + 2 * r + 1) 0 → ltb (row_value (problem_of f) v r) x ≡ false
  cost_passes v x l = le-ltb (row_value (problem_of f) v r) x (omega (arith, row_value_is v))

-- the rows of a state, as the index has them
module _ {f index : List ℕ} (h : Ready f index) (s : ℕ) (l : s < (problem_of f).states) where
  pub last_row_high : get_or index (s + 1) 0 ≤ max_rows
  last_row_high = omega (arith, rows_end f index h s l, h.indexed.within.rows_within_lem s l, h.indexed.within.rows_high)
