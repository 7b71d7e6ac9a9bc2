-- The entries of a run, two for each state: the code of its picked row's part of the file, and a number that its backups keep.
-- A code is 256 times the byte at which the outcomes begin, and their number, so that it tells where they end too.
use Rattle.std.specs.Prelude.{◌≡◌, ℕ, ◌+◌, ◌-◌, ◌*◌, ◌/◌, ◌%◌, ◌≤◌, ◌<◌, Bool, true, false, List, length, get_or}
use Rattle.std.proofs.Common.{arith}
use Rattle.model.specs.Sections.{problem_of, outcome_count_of}
use Rattle.guarantee.specs.WellFormed.{sectioned}
use Rattle.reading.specs.Bounds.{byte_bound}
use Rattle.reading.specs.Ready.{Indexed}
use Rattle.reading.specs.RowParts.{part_from, part_to, part_begins, part_spans, part_inside}
use Rattle.reading.specs.Tests.{rows_base, own_at}

-- the two entries of state s
abbrev pub code_in : List ℕ → ℕ → ℕ
code_in entries s = get_or entries (2 * s) 0

abbrev pub rest_in : List ℕ → ℕ → ℕ
rest_in entries s = get_or entries (2 * s + 1) 0

-- where the part of a code begins and ends: of 25,602 from byte 100 up to byte 108
abbrev pub code_from : ℕ → ℕ
code_from c = c / byte_bound

abbrev pub code_to : ℕ → ℕ
code_to c = c / byte_bound + 4 * (c % byte_bound)

-- the code of row r, and of a pick: 0 where it is not one of the state's own rows
abbrev pub row_code : List ℕ → ℕ → ℕ
row_code index r = byte_bound * part_from index r + (part_to index r - part_from index r) / 4

abbrev pub code_on : Bool → List ℕ → ℕ → ℕ
code_on true index r = row_code index r
code_on false index r = 0

abbrev pub pick_code : List ℕ → ℕ → ℕ → ℕ
pick_code index s pick = code_on (own_at index s pick) index pick

-- what the code of row r asks: its entries of the index, and a part that ends early enough for a code of 32 bits
pub record Coded (index : List ℕ) (r : ℕ) : Type 0 where
  pub there : rows_base + 2 * r + 2 < length index
  pub ordered : part_from index r ≤ part_to index r
  pub near : part_to index r < byte_bound * byte_bound * byte_bound

-- each state's code is that of its pick
pub record Entered (f index picks entries : List ℕ) : Type 0 where
  pub long : 2 * (problem_of f).states ≤ length entries
  pub codes : (s : ℕ) → s < (problem_of f).states → code_in entries s ≡ pick_code index s (get_or picks s 0)

-- the code of a row tells the row's part, and is not 0
module _ {f index : List ℕ} (h : Indexed f index) (r : ℕ) (l : r < (problem_of f).rows) where
  count_is : (part_to index r - part_from index r) / 4 ≡ outcome_count_of f r
  count_is = omega (arith, part_spans h r l)

  pub code_from_lem : code_from (row_code index r) ≡ part_from index r
  code_from_lem = omega (arith, count_is, h.outcomes_few r)

  pub code_to_lem : code_to (row_code index r) ≡ part_to index r
  code_to_lem = omega (arith, count_is, h.outcomes_few r, part_spans h r l)

  pub code_some : row_code index r ≡ 0 → ⊥
  code_some z = omega (arith, z, part_begins h r l)

  -- a file is short enough for its codes
  pub row_coded : Coded index r
  row_coded =
      let laid = sectioned f h.whole in
      record {
        there = omega (arith, h.size);
        ordered = omega (arith, part_spans h r l);
        near =
            omega (
              arith,
              part_inside h r l,
              laid.end_at,
              laid.outcomes_at_lem,
              laid.rows_at_lem,
              laid.states_at_lem,
              laid.settings_high,
              laid.states_high,
              laid.rows_high,
              laid.outcomes_high,
            );
      }
