-- The layout of a file whose sections are whole: the counts lie in the file, and so do the items that they announce.
use mathlib.Core.Path.{◌≡◌}
use Prim.Native.Nat.{ℕ, ◌+◌, ◌*◌, ◌≤◌}
use native.Mathlib.Omega.{arith}
use mathlib.Core.List.{List}
use lib.ListN.{length}
use Rattle.model.specs.Bytes.{u16_at}
use Rattle.model.specs.Questions.{passes, layout_questions}
use Rattle.model.specs.Sections.{section_end, states_at, rows_at, outcomes_at, problem_of}
use Rattle.guarantee.specs.WellFormed.{sectioned}
use Rattle.reading.specs.declared.layout.Layout.{Layout}
use Rattle.reading.specs.Laid.{LaidOut}

-- the counts of all four sections lie in the file
pub record CountsThere (f : List ℕ) : Type 0 where
  pub settings : 2 ≤ length f
  pub states : states_at f + 2 ≤ length f
  pub rows : rows_at f + 2 ≤ length f
  pub outcomes : outcomes_at f + 2 ≤ length f

pub counts_there : (f : List ℕ) → layout_questions f ≡ passes → CountsThere f
counts_there f h =
    let s = sectioned f h in
    let o : outcomes_at f + 2 ≤ length f = omega (arith, s.end_at) in
    let r : rows_at f + 2 ≤ length f = omega (arith, s.outcomes_at_lem) in
    let t : states_at f + 2 ≤ length f = omega (arith, s.rows_at_lem) in
    record { settings = omega (arith, s.states_at_lem); states = t; rows = r; outcomes = o }

-- where the counts stand, found one after the other, and the layout that stands in the record, from what the counts say
module _ (f : List ℕ) (whole : layout_questions f ≡ passes) where
  pub settings_count : 2 ≤ length f
  settings_count = (counts_there f whole).settings

  module _ {i : ℕ} (at_states : i ≡ section_end 4 f 0) where
    pub states_count : i + 2 ≤ length f
    unfolding states_at
    states_count = rw at_states (counts_there f whole).states

    module _ {j : ℕ} (at_rows : j ≡ section_end 6 f i) where
      pub rows_count : j + 2 ≤ length f
      unfolding states_at rows_at
      rows_count = rw (at_rows, at_states) (counts_there f whole).rows

      module _ {k : ℕ} (at_outcomes : k ≡ section_end 4 f j) where
        pub outcomes_count : k + 2 ≤ length f
        unfolding states_at rows_at outcomes_at
        outcomes_count = rw (at_outcomes, at_rows, at_states) (counts_there f whole).outcomes

        pub laid_out
            : {l : Layout} → l.at1 ≡ i + 2 → l.states ≡ u16_at f i → l.at2 ≡ j + 2 → l.rows ≡ u16_at f j → l.at3 ≡ k + 2
            → l.outcomes ≡ u16_at f k → LaidOut f l
        unfolding problem_of states_at rows_at outcomes_at
        laid_out {l} a1 n a2 m a3 o =
            let s = sectioned f whole in
            let at1 : i ≡ states_at f = at_states in
            let at2 : j ≡ rows_at f = rw at1 at at_rows in
            let at3 : k ≡ outcomes_at f = rw at2 at at_outcomes in
            let states : l.states ≡ u16_at f (states_at f) = rw at1 at n in
            let rows : l.rows ≡ u16_at f (rows_at f) = rw at2 at m in
            let outcomes : l.outcomes ≡ u16_at f (outcomes_at f) = rw at3 at o in
            let e2 : l.at2 ≡ l.at1 + 6 * l.states + 2 = omega (arith, s.rows_at_lem) in
            let e3 : l.at3 ≡ l.at2 + 4 * l.rows + 2 = omega (arith, s.outcomes_at_lem) in
            let end : l.at3 + 4 * l.outcomes ≡ length f = omega (arith, s.end_at) in
            record {
              states_are = states;
              rows_are = rows;
              outcomes_are = outcomes;
              states_at_lem = omega arith;
              rows_at_lem = omega arith;
              outcomes_at_lem = omega arith;
              states_there = omega arith;
              rows_there = omega arith;
              outcomes_there = end;
              states_low = omega (arith, s.states_low);
              states_high = omega (arith, s.states_high);
              rows_high = omega (arith, s.rows_high);
              outcomes_high = omega (arith, s.outcomes_high);
              outcomes_near = omega (arith, s.states_at_lem, s.settings_high, s.states_high, s.rows_high);
            }
