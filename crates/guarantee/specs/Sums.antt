-- Sums of two functions below a count, compared place by place and added, and quotients that fall by one.
-- By induction on the count.
use Rattle.std.specs.Prelude.{◌≡◌, ◌⊎◌}
use Rattle.std.proofs.Math.Path.{refl}
use Prim.Native.Nat.{ℕ, zero, suc, ◌+◌, ◌/◌, ◌≤◌, ◌<◌}
use Rattle.std.proofs.Common.{eq-or-lt_of_le, inl, inr}
use Rattle.std.proofs.Math.Nat.{add-div_right}
use native.Mathlib.Omega.{arith}
use Rattle.model.specs.Search.{sum_to}
use Rattle.guarantee.specs.Values.{quotient_rises}

pub sum_zero : (g : ℕ → ℕ) (k : ℕ) → ((j : ℕ) → j < k → g j ≡ 0) → sum_to g k ≡ 0
unfolding sum_to
sum_zero g zero zeros = refl
sum_zero g (suc k) zeros = omega (arith, sum_zero g k (λ j l. zeros j (omega arith)), zeros k (omega arith))

module _ (g h : ℕ → ℕ) where
  pub sum_same : (k : ℕ) → ((j : ℕ) → j < k → g j ≡ h j) → sum_to g k ≡ sum_to h k
  unfolding sum_to
  sum_same zero same = refl
  sum_same (suc k) same = rw (sum_same k (λ j l. same j (omega arith)), same k (omega arith)) refl

  pub sum_both : (k : ℕ) → sum_to (λ j. g j + h j) k ≡ sum_to g k + sum_to h k
  unfolding sum_to
  sum_both zero = refl
  sum_both (suc k) = omega (arith, sum_both k)

  pub sum_below : (k : ℕ) → ((j : ℕ) → j < k → g j ≤ h j) → sum_to g k ≤ sum_to h k
  unfolding sum_to
  sum_below zero below = omega arith
  sum_below (suc k) below = omega (arith, sum_below k (λ j l. below j (omega arith)), below k (omega arith))

  pub sum_less : (k i : ℕ) → i < k → ((j : ℕ) → j < k → g j ≤ h j) → g i < h i → sum_to g k < sum_to h k
  unfolding sum_to
  sum_less zero i l below less = absurd (omega arith)
  sum_less (suc k) i l below less = go (eq-or-lt_of_le l) (λ a. sum_less k i a (λ j b. below j (omega arith)) less)
    where
      go : (suc i ≡ suc k) ⊎ (suc i < suc k) → (i < k → sum_to g k < sum_to h k) → sum_to g k + g k < sum_to h k + h k
      go (inl at) ih =
          let here : i ≡ k = omega arith in
          omega (arith, sum_below k (λ j b. below j (omega arith)), rw here at less)
      go (inr a) ih = omega (arith, ih (omega arith), below k (omega arith))

pub quotient_less : (d a b : ℕ) → 0 < d → a + d ≤ b → a / d < b / d
quotient_less d a b pos h = omega (arith, add-div_right a pos, quotient_rises d (a + d) b pos h)
