-- The lookup: the ends of a state's rows, as the index has them, lie in the file; the part between them is the stretch.
use mathlib.Core.Path.{◌≡◌}
use Prim.Native.Nat.{ℕ, ◌+◌, ◌-◌, ◌*◌, ◌≤◌, ◌<◌}
use native.Mathlib.Omega.{arith}
use mathlib.Core.List.{List, []}
use lib.ListN.{length, get_or, take, drop}
use borrow.Author.Tests.{lt-ltb, le-ltb}
use Rattle.model.specs.Limits.{max_rows}
use Rattle.model.specs.Lookup.{rows_of, rows_within, rows_on, stretch}
use Rattle.model.specs.Questions.{passes, fails, file_questions}
use Rattle.model.specs.Sections.{problem_of}
use Rattle.reading.specs.declared.layout.Layout.{Layout}
use Rattle.reading.specs.Laid.{LaidOut}
use Rattle.reading.specs.Ready.{Ready}
use Rattle.reading.specs.RowParts.{rows_begin, rows_end}

-- a file that is refused has no stretch, and a number that is no state has none
pub refused_rows : (f : List ℕ) (s q i : ℕ) → file_questions f ≡ fails q i → [] ≡ rows_of f s
unfolding rows_within rows_on
refused_rows f s q i e = rw e

pub no_state_rows : (f : List ℕ) (s : ℕ) → file_questions f ≡ passes → (problem_of f).states ≤ s → [] ≡ rows_of f s
unfolding rows_within rows_on
no_state_rows f s e h = rw (e, le-ltb _ _ h)

-- the ends of a state's rows
pub record StretchEnds (f index : List ℕ) (at2 s : ℕ) : Type 0 where
  pub state_there : s + 1 < length index
  pub ordered : get_or index s 0 ≤ get_or index (s + 1) 0
  pub low : get_or index s 0 ≤ max_rows
  pub high : get_or index (s + 1) 0 ≤ max_rows
  pub inside : at2 + 4 * get_or index (s + 1) 0 ≤ length f

module _ {f index : List ℕ} {l : Layout} (laid : LaidOut f l) (h : Ready f index) {s : ℕ} (low : s < l.states) where
  below : s < (problem_of f).states
  below = rw (← laid.states_are) low

  pub stretch_ends : StretchEnds f index l.at2 s
  stretch_ends =
      let a = rows_begin f index h s below in
      let b = rows_end f index h s below in
      let c = h.indexed.within.rows_within_lem s below in
      let o : get_or index s 0 ≤ get_or index (s + 1) 0 = omega arith in
      let t : get_or index (s + 1) 0 ≤ l.rows = omega (arith, laid.rows_are) in
      record {
        state_there = omega (arith, laid.states_are, laid.states_high, h.indexed.size);
        ordered = o;
        low = omega (arith, laid.rows_high);
        high = omega (arith, laid.rows_high);
        inside = omega (arith, laid.rows_there);
      }

  -- where the stretch begins and ends
  abbrev rows_from : ℕ
  rows_from = l.at2 + 4 * get_or index s 0

  abbrev rows_to : ℕ
  rows_to = l.at2 + 4 * get_or index (s + 1) 0

  pub stretch_is : file_questions f ≡ passes → take (rows_to - rows_from) (drop rows_from f) ≡ rows_of f s
  unfolding rows_within rows_on stretch
  stretch_is e =
      let a = rows_begin f index h s below in
      let b = rows_end f index h s below in
      let d : rows_to - rows_from ≡ 4 * (problem_of f).row_count s = omega arith in
      rw (e, lt-ltb _ _ below, d, laid.rows_at_lem, a)
