-- The part of the file that the index gives to a row holds the row's outcomes, and the index gives the rows of a state.
-- By what the index holds at the row and at the next one.
use Rattle.std.specs.Prelude.{◌≡◌, refl, List, length, get_or, take, drop}
use Rattle.std.proofs.Common.{◌∙◌, add-one, length-drop, length-take-le}
use Prim.Native.Nat.{ℕ, suc, ◌+◌, ◌-◌, ◌*◌, ◌/◌, ◌≤◌, ◌<◌}
use native.Mathlib.Omega.{arith}
use Rattle.model.specs.Limits.{ticks_per_second}
use Rattle.model.specs.Problem.{end_row, own_row}
use Rattle.model.specs.Search.{sum_to}
use Rattle.model.specs.Sections.{problem_of, outcome_at, outcome_count_of, outcomes_from}
use Rattle.guarantee.specs.Parts.{outcomes_front}
use Rattle.reading.specs.Ready.{Indexed, Ready}
use Rattle.reading.specs.Tests.{rows_base, part_of, outcomes_in, own_at}

-- the length of a part of k outcomes, how many it has, and what they are
module _ (f : List ℕ) (a e k : ℕ) (h : e ≡ a + 4 * k) (l : e ≤ length f) where
  pub part_size : length (take (e - a) (drop a f)) ≡ 4 * k
  part_size =
      let d : e - a ≤ length (drop a f) = omega (arith, length-drop a f) in
      omega (arith, length-take-le (e - a) (drop a f) d)

  pub part_count : length (take (e - a) (drop a f)) / 4 ≡ k
  part_count = omega (arith, part_size)

  pub part_reads : outcomes_in (take (e - a) (drop a f)) ≡ outcomes_from (drop a f) 0 k
  part_reads = rw part_count (outcomes_front (drop a f) (e - a) 0 k (omega arith))

-- where the part of a row begins and ends, as the index has it
abbrev pub part_from : List ℕ → ℕ → ℕ
part_from index r = get_or index (rows_base + 2 * r) 0

abbrev pub part_to : List ℕ → ℕ → ℕ
part_to index r = get_or index (rows_base + 2 * r + 2) 0

-- the outcomes of a row are read from where they begin
pub outcomes_read : (f : List ℕ) (r : ℕ) → (problem_of f).outcomes r ≡ outcomes_from (drop (outcome_at f r) f) 0 (outcome_count_of f r)
unfolding problem_of
outcomes_read f r = refl

module _ {f index : List ℕ} (h : Indexed f index) (r : ℕ) (l : r < (problem_of f).rows) where
  pub part_begins : part_from index r ≡ outcome_at f r
  part_begins = h.outcomes_at_lem r (omega arith)

  pub part_ends : part_to index r ≡ outcome_at f r + 4 * outcome_count_of f r
  unfolding sum_to
  part_ends =
      let z : rows_base + 2 * r + 2 ≡ rows_base + 2 * suc r = omega arith in
      let follow : outcome_at f (suc r) ≡ outcome_at f r + 4 * outcome_count_of f r = omega arith in
      rw z (h.outcomes_at_lem (suc r) l ∙ follow)

  pub part_spans : part_to index r ≡ part_from index r + 4 * outcome_count_of f r
  part_spans = rw part_begins part_ends

  pub part_ordered : part_from index r ≤ part_to index r
  part_ordered = omega (arith, part_spans)

  pub part_inside : part_to index r ≤ length f
  part_inside = omega (arith, part_ends, h.within.outcomes_within r l)

  pub part_holds : outcomes_in (part_of f index r) ≡ (problem_of f).outcomes r
  part_holds =
      part_reads f (part_from index r) (part_to index r) (outcome_count_of f r) part_spans part_inside
      ∙ rw (part_begins, outcomes_read f r) refl

-- the rows of a state, as the index has them
module _ (f index : List ℕ) (h : Ready f index) (s : ℕ) (l : s < (problem_of f).states) where
  pub rows_begin : get_or index s 0 ≡ (problem_of f).first_row s
  rows_begin = h.indexed.first_row_lem s (omega arith)

  pub rows_end : get_or index (s + 1) 0 ≡ end_row (problem_of f) s
  rows_end = rw add-one (h.indexed.first_row_lem (suc s) l ∙ h.indexed.within.rows_follow s)

  pub own_at_lem : (r : ℕ) → own_at index s r ≡ own_row (problem_of f) s r
  own_at_lem r = rw (rows_begin, rows_end) refl

-- the seconds of a row, as the index has its cost in ticks
abbrev pub seconds_at : List ℕ → ℕ → ℕ
seconds_at index r = get_or index (rows_base + 2 * r + 1) 0 / ticks_per_second

pub index_seconds : {f index : List ℕ} → Ready f index → (r : ℕ) → r < (problem_of f).rows → seconds_at index r ≡ (problem_of f).cost r
index_seconds ready r l = omega (arith, ready.indexed.ticks r l)
