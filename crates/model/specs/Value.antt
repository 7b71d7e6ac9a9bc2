-- The row value and its remainder. "1000 × c plus the sum of w × V(successor) divided by 1,000, rounded down once, after the sum."
-- Request E7: "W replaces 1,000 in .. the division of the row value. .. Remainders run below W."
use Rattle.std.specs.Prelude.{ℕ, ◌+◌, ◌*◌, ◌/◌, ◌%◌, Bool, true, false, List, [], ◌∷◌, eqb, get_or}
use Rattle.model.specs.Limits.{ticks_per_second, give_up}
use Rattle.model.specs.Problem.{Problem, Outcome}

-- a table V, read as a function of the state
abbrev pub by_state : List ℕ → ℕ → ℕ
by_state l = λ s. get_or l s 0

-- the sum of w × V(successor); no product is rounded
unfoldable pub weighted_sum : List Outcome → (ℕ → ℕ) → ℕ
weighted_sum [] v = 0
weighted_sum (o ∷ os) v = o.weight * v o.successor + weighted_sum os v

-- the sum of the weights
unfoldable pub total_weight : List Outcome → ℕ
total_weight [] = 0
total_weight (o ∷ os) = o.weight + total_weight os

abbrev pub row_ticks : Problem → ℕ → ℕ
row_ticks p r = ticks_per_second * p.cost r

unfoldable pub row_value : Problem → (ℕ → ℕ) → ℕ → ℕ
row_value p v r = row_ticks p r + weighted_sum (p.outcomes r) v / p.total

-- Request E3: "The row value shall come with its remainder, 0 to 999, wherever it is computed." It is what the division leaves of the sum
unfoldable pub row_remainder : Problem → (ℕ → ℕ) → ℕ → ℕ
row_remainder p v r = weighted_sum (p.outcomes r) v % p.total

-- "the remainder of its pick .., 0 for `give`"
abbrev pub pick_remainder_on : Bool → Problem → (ℕ → ℕ) → ℕ → ℕ
pick_remainder_on true p v r = 0
pick_remainder_on false p v r = row_remainder p v r

unfoldable pub pick_remainder : Problem → (ℕ → ℕ) → ℕ → ℕ
pick_remainder p v pick = pick_remainder_on (eqb pick give_up) p v pick
