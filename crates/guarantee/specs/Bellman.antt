-- The Bellman backup as the greatest number that is at most 1000 × D and at most every own row's value, and that a choice ends at it.
-- By induction on the number of rows; a choice is below all of these and equal to one of them.
use Rattle.std.specs.Prelude.{◌≡◌, ◌⊎◌}
use Prim.Native.Nat.{ℕ, zero, suc, ◌+◌, ◌≤◌, ◌<◌, min}
use Rattle.std.proofs.Common.{eq-or-lt_of_le, le_antisymm, inl, inr}
use native.Mathlib.Omega.{arith}
use Rattle.model.specs.Problem.{Problem, give_up_cost, end_row}
use Rattle.model.specs.Value.{row_value}
use Rattle.model.specs.Rounds.{Chosen, choice, least_value, bellman}
use Rattle.guarantee.specs.WellFormed.{WellFormed}
use Rattle.guarantee.specs.Rows.{own_low, own_high}
use Rattle.guarantee.specs.Choosing.{Landed, at_giving_up, at_row, choice_high, choice_under, choice_landed}

module _ (p : Problem) (v : ℕ → ℕ) where
  pub least_value-high : (k r : ℕ) → least_value p v r k ≤ give_up_cost p
  unfolding least_value
  least_value-high zero r = omega arith
  least_value-high (suc k) r = omega (arith, least_value-high k (suc r))

  pub least_value-under : (k r i : ℕ) → r ≤ i → i < r + k → least_value p v r k ≤ row_value p v i
  unfolding least_value
  least_value-under zero r i low high = absurd (omega arith)
  least_value-under (suc k) r i low high = go (eq-or-lt_of_le low) (least_value-under k (suc r) i)
    where
      go : (r ≡ i) ⊎ (r < i) → (suc r ≤ i → i < suc r + k → least_value p v (suc r) k ≤ row_value p v i)
          → min (row_value p v r) (least_value p v (suc r) k) ≤ row_value p v i
      go (inl at) ih = rw (← at) (omega arith)
      go (inr l) ih = omega (arith, ih l (omega arith))

  pub least_value-greatest
      : (x k r : ℕ) → x ≤ give_up_cost p → ((i : ℕ) → r ≤ i → i < r + k → x ≤ row_value p v i) → x ≤ least_value p v r k
  unfolding least_value
  least_value-greatest x zero r top rows = top
  least_value-greatest x (suc k) r top rows =
      let rest = least_value-greatest x k (suc r) top (λ i low high. rows i (omega arith) (omega arith)) in
      omega (arith, rows r (omega arith) (omega arith), rest)

  module _ (s : ℕ) where
    pub bellman_high : bellman p v s ≤ give_up_cost p
    unfolding bellman
    bellman_high = least_value-high (p.row_count s) (p.first_row s)

    pub bellman_under : (r : ℕ) → p.first_row s ≤ r → r < end_row p s → bellman p v s ≤ row_value p v r
    unfolding bellman
    bellman_under = least_value-under (p.row_count s) (p.first_row s)

    pub bellman_greatest
        : (x : ℕ) → x ≤ give_up_cost p → ((r : ℕ) → p.first_row s ≤ r → r < end_row p s → x ≤ row_value p v r) → x ≤ bellman p v s
    unfolding bellman
    bellman_greatest x = least_value-greatest x (p.row_count s) (p.first_row s)

    landed_bellman : (c : Chosen) → Landed p v s c → bellman p v s ≤ c.best
    landed_bellman c (at_giving_up e b) = omega (arith, bellman_high)
    landed_bellman c (at_row own b less) = omega (arith, bellman_under c.pick (own_low p s c.pick own) (own_high p s c.pick own))

    -- whatever was picked before, a choice's best is the Bellman backup
    pub choice_bellman : WellFormed p → s < p.states → (prev : ℕ) → (choice p v s prev).best ≡ bellman p v s
    choice_bellman formed state prev =
        le_antisymm (bellman_greatest (choice p v s prev).best (choice_high p v s prev) (choice_under p formed v s state prev))
        (landed_bellman (choice p v s prev) (choice_landed p v s prev))
