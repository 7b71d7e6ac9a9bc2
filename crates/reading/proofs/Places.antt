-- Where the numbers of a file stand whose sections are whole: settings and states lie in the file, and the problem reads them
-- there. The problem is opened here and where the index is built.
use mathlib.Core.Path.{◌≡◌, refl}
use Prim.Native.Nat.{ℕ, ◌+◌, ◌*◌, ◌≤◌, ◌<◌}
use native.Mathlib.Omega.{arith}
use mathlib.Core.List.{List}
use lib.Dec.{eqb}
use lib.ListN.{length, get_or}
use borrow.Author.Tests.{ne_eqb}
use Rattle.model.specs.Bytes.{u16_at, u32_at}
use Rattle.model.specs.Limits.{min_settings, thousandths}
use Rattle.model.specs.Questions.{passes, layout_questions}
use Rattle.model.specs.Sections.{states_at, state_at, problem_of}
use Rattle.guarantee.specs.WellFormed.{sectioned}
use Rattle.reading.specs.Laid.{first_setting, first_state}

pub start_at : (f : List ℕ) → u32_at f first_setting ≡ (problem_of f).start
unfolding problem_of
start_at f = refl

pub tolerance_at : (f : List ℕ) → u32_at f (first_setting + 4) ≡ (problem_of f).tolerance
unfolding problem_of
tolerance_at f = refl

pub penalty_at : (f : List ℕ) → u32_at f (first_setting + 8) ≡ (problem_of f).penalty
unfolding problem_of
penalty_at f = refl

-- the total: "With count 3, W is 1,000", and else the fourth setting
pub no_fourth : (f : List ℕ) → u16_at f 0 ≡ min_settings → thousandths ≡ (problem_of f).total
unfolding problem_of
no_fourth f three = rw three refl

pub fourth_at : (f : List ℕ) → (u16_at f 0 ≡ min_settings → ⊥) → u32_at f (first_setting + 12) ≡ (problem_of f).total
unfolding problem_of
fourth_at f more = rw (ne_eqb (u16_at f 0) min_settings more) refl

pub states_begin : (f : List ℕ) → first_state f ≡ states_at f + 2
unfolding states_at
states_begin f = omega arith

module _ (f : List ℕ) (whole : layout_questions f ≡ passes) where
  pub state_there : (s : ℕ) → s < (problem_of f).states → state_at f s + 6 ≤ length f
  unfolding problem_of
  state_there s l = (sectioned f whole).state_in s l

  -- all settings that the count announces lie in the file, and there are 3 at least
  all_settings : first_setting + 4 * u16_at f 0 ≤ length f
  all_settings =
      let s = sectioned f whole in
      omega (arith, s.states_at_lem, s.state_in 0 (omega (arith, s.states_low)))

  pub settings_there : first_setting + 12 ≤ length f
  settings_there = omega (arith, all_settings, (sectioned f whole).settings_low)

  pub fourth_there : (u16_at f 0 ≡ min_settings → ⊥) → first_setting + 16 ≤ length f
  fourth_there more = omega (arith, all_settings, (sectioned f whole).settings_low, more)

-- the items of a state, at its place
module _ (f : List ℕ) (s : ℕ) where
  pub goal_at : eqb (get_or f (state_at f s + 5) 0) 1 ≡ (problem_of f).goal s
  unfolding problem_of
  goal_at = refl

  pub estimate_at : u32_at f (state_at f s) ≡ (problem_of f).estimate s
  unfolding problem_of
  estimate_at = refl

  pub row_count_at_lem : get_or f (state_at f s + 4) 0 ≡ (problem_of f).row_count s
  unfolding problem_of
  row_count_at_lem = refl
