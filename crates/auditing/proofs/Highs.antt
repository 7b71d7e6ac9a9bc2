-- Row values are less than twice what fits in 32 bits, under any table of 32-bit numbers.
use Prim.Native.Nat.{ℕ, ◌-◌, ◌*◌, ◌<◌}
use native.Mathlib.Omega.{arith}
use Rattle.model.specs.Limits.{value_bound}
use Rattle.model.specs.Problem.{Problem}
use Rattle.model.specs.Value.{row_value}
use Rattle.guarantee.specs.WellFormed.{WellFormed}
use Rattle.guarantee.specs.Values.{row_value-bound}

module _ {p : Problem} (formed : WellFormed p) (v : ℕ → ℕ) (narrow : (s : ℕ) → v s < value_bound) where
  pub row_value_low : (r : ℕ) → r < p.rows → row_value p v r < 2 * value_bound
  row_value_low r l =
      let bound = row_value-bound p r v (value_bound - 1) (formed.weights r l) (λ o i. omega (arith, narrow o.successor)) in
      omega (arith, bound, formed.cost_high r l)
