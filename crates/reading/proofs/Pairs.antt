-- The sum over outcomes that are taken two a step: where their number is odd, the last one is added apart.
-- By induction on the outcomes before it.
use mathlib.Core.Path.{◌≡◌, ap}
use Prim.Native.Nat.{ℕ, zero, suc, ◌+◌, ◌-◌, ◌*◌, ◌/◌, ◌%◌}
use native.Mathlib.Omega.{arith}
use mathlib.Core.List.{List}
use Rattle.model.specs.Bytes.{u16_at}
use Rattle.model.specs.Sections.{outcomes_from}
use Rattle.model.specs.Value.{weighted_sum}

module _ (b : List ℕ) (v : ℕ → ℕ) where
  -- what outcome i adds, and what k of them do from outcome i on
  abbrev adds : ℕ → ℕ
  adds i = u16_at b (4 * i + 2) * v (u16_at b (4 * i))

  abbrev sums : ℕ → ℕ → ℕ
  sums i k = weighted_sum (outcomes_from b i k) v

  last_added : (i k : ℕ) → sums i (suc k) ≡ adds (i + k) + sums i k
  unfolding outcomes_from weighted_sum
  last_added i zero = let at : i ≡ i + 0 = omega arith in omega (arith, ap adds at)
  last_added i (suc k) = let at : suc i + k ≡ i + suc k = omega arith in omega (arith, last_added (suc i) k, ap adds at)

  pub odd_sum : (n : ℕ) → n % 2 ≡ 1 → sums 0 n ≡ adds (n - 1) + sums 0 (2 * (n / 2) - 0)
  odd_sum n odd =
      let whole : n ≡ suc (n - 1) = omega arith in
      let at : 0 + (n - 1) ≡ n - 1 = omega arith in
      let pairs : n - 1 ≡ 2 * (n / 2) - 0 = omega arith in
      omega (arith, ap (sums 0) whole, last_added 0 (n - 1), ap adds at, ap (sums 0) pairs)

  pub even_sum : (n : ℕ) → (n % 2 ≡ 1 → ⊥) → sums 0 n ≡ sums 0 (2 * (n / 2) - 0)
  even_sum n even = let pairs : n ≡ 2 * (n / 2) - 0 = omega arith in ap (sums 0) pairs
