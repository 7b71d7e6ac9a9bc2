-- A state's own rows: what the test says, that they are rows of the file, and that the marks for no row are none of them.
-- Read off the test and the order of the rows in the file.
use Rattle.std.specs.Prelude.{◌≡◌, refl, ℕ, suc, ◌≤◌, ◌<◌, Bool, true, false, leb}
use Rattle.std.proofs.Math.Decide.{dec_le}
use Rattle.std.proofs.Common.{arith, leb-true, ltb-true, le-leb, lt-ltb}
use Rattle.model.specs.Limits.{give_up, no_pick}
use Rattle.model.specs.Problem.{Problem, end_row, own_row}
use Rattle.guarantee.specs.WellFormed.{WellFormed}
use Rattle.guarantee.specs.Searches.{and_left, and_right, and_both}
use Rattle.guarantee.specs.Walks.{rows_rise, rows_within_lem, own_row_lem}

module _ (p : Problem) (s r : ℕ) where
  pub own_low : own_row p s r ≡ true → p.first_row s ≤ r
  own_low h = leb-true _ _ (and_left _ _ h)

  pub own_high : own_row p s r ≡ true → r < end_row p s
  own_high h = ltb-true _ _ (and_right (leb (p.first_row s) r) _ h)

  pub own_within : p.first_row s ≤ r → r < end_row p s → own_row p s r ≡ true
  own_within low high = and_both (le-leb _ _ low) (lt-ltb _ _ high)

module _ (p : Problem) (formed : WellFormed p) where
  -- an own row of a state is a row of the file
  pub row_of_file : (s r : ℕ) → s < p.states → r < end_row p s → r < p.rows
  row_of_file s r l h = omega (arith, rows_within_lem p formed s l)

  -- 65,535 and 65,534 are no rows
  pub row_no_mark : (s r : ℕ) → s < p.states → own_row p s r ≡ true → r < no_pick
  row_no_mark s r l h = omega (arith, own_row_lem p formed s r l h, formed.rows_high)

  pub give_up-not_own : (s : ℕ) → s < p.states → own_row p s give_up ≡ false
  give_up-not_own s l = go (own_row p s give_up) refl
    where
      go : (b : Bool) → own_row p s give_up ≡ b → b ≡ false
      go true e = absurd (omega (arith, row_no_mark s give_up l e))
      go false e = refl

  pub no_pick-not_own : (s : ℕ) → s < p.states → own_row p s no_pick ≡ true → ⊥
  no_pick-not_own s l e = omega (arith, row_no_mark s no_pick l e)

  -- a row is one state's own
  pub own_once : (s t r : ℕ) → (s ≡ t → ⊥) → own_row p s r ≡ true → own_row p t r ≡ true → ⊥
  own_once s t r off here there = go (dec_le s t)
    where
      before : (i k : ℕ) → i < k → own_row p i r ≡ true → own_row p k r ≡ true → ⊥
      before i k l at_i at_k =
          omega (arith, own_high p i r at_i, own_low p k r at_k, formed.rows_follow i, rows_rise p formed (suc i) k l)

      go : Dec (s ≤ t) → ⊥
      go (yes l) = before s t (omega (arith, off)) here there
      go (no l) = before t s (omega arith) there here
