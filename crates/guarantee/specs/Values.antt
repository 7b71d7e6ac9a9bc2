-- Laws of the row value: how far rounding down takes it, that it rises with the table, its bound, and that it looks at successors only.
-- Averages are treated over any weight total above 0 and any list of outcomes; the problem's total is put in once, in `row_value-average`.
use Rattle.std.specs.Prelude.{◌≡◌, ℕ, ◌+◌, ◌-◌, ◌*◌, ◌/◌, ◌%◌, ◌≤◌, ◌<◌, List, [], ◌∷◌}
use Rattle.std.proofs.Math.Path.{refl, ap}
use Rattle.std.proofs.Common.{mul-le-mul_left, le-div_iff_mul-le, div-mul-le_self, le_trans, arith, ne_eqb}
use Rattle.std.proofs.Math.Nat.{mul-div-le, lt-mul-div-succ, div-le_of_le-mul, div-add-mod, mod-lt}
use Rattle.model.specs.Limits.{value_bound, give_up}
use Rattle.model.specs.Problem.{Problem, Outcome, give_up_cost}
use Rattle.model.specs.Value.{weighted_sum, total_weight, row_ticks, row_value, row_remainder, pick_remainder}
use Rattle.model.specs.Walk.{In, here, there}
use Rattle.guarantee.specs.WellFormed.{WellFormed}

-- what a row costs where its weights add to W: its own ticks and the rounded average over its outcomes
abbrev pub average : ℕ → ℕ → List Outcome → (ℕ → ℕ) → ℕ
average W ticks os v = ticks + weighted_sum os v / W

-- a table is at most another at the successors of a list of outcomes
abbrev pub BelowAt : List Outcome → (ℕ → ℕ) → (ℕ → ℕ) → Type 0
BelowAt os v w = (o : Outcome) → In o os → v o.successor ≤ w o.successor

-- two tables agree at the successors of a list of outcomes
abbrev pub SameAt : List Outcome → (ℕ → ℕ) → (ℕ → ℕ) → Type 0
SameAt os v w = (o : Outcome) → In o os → v o.successor ≡ w o.successor

pub weighted_sum-rises : (os : List Outcome) (v w : ℕ → ℕ) → BelowAt os v w → weighted_sum os v ≤ weighted_sum os w
unfolding weighted_sum
weighted_sum-rises [] v w below = omega arith
weighted_sum-rises (o ∷ os) v w below =
    omega (arith, mul-le-mul_left o.weight (below o here), weighted_sum-rises os v w (λ a i. below a (there i)))

pub weighted_sum-same : (os : List Outcome) (v w : ℕ → ℕ) → SameAt os v w → weighted_sum os v ≡ weighted_sum os w
unfolding weighted_sum
weighted_sum-same [] v w same = refl
weighted_sum-same (o ∷ os) v w same = rw (same o here, weighted_sum-same os v w (λ a i. same a (there i))) refl

pub weighted_sum-high : (os : List Outcome) (v : ℕ → ℕ) (G : ℕ) → ((o : Outcome) → In o os → v o.successor ≤ G)
    → weighted_sum os v ≤ total_weight os * G
unfolding weighted_sum total_weight
weighted_sum-high [] v G high = omega arith
weighted_sum-high (o ∷ os) v G high =
    omega (arith, mul-le-mul_left o.weight (high o here), weighted_sum-high os v G (λ a i. high a (there i)))

pub quotient_rises : (W a b : ℕ) → 0 < W → a ≤ b → a / W ≤ b / W
quotient_rises W a b pos h = (le-div_iff_mul-le pos).1 (le_trans (div-mul-le_self a W) h)

module _ (W ticks : ℕ) (os : List Outcome) where
  pub average_low : (v : ℕ → ℕ) → W * average W ticks os v ≤ W * ticks + weighted_sum os v
  average_low v = omega (arith, mul-div-le (weighted_sum os v) W)

  pub average_high : 0 < W → (v : ℕ → ℕ) → W * ticks + weighted_sum os v < W * (average W ticks os v + 1)
  average_high pos v = omega (arith, lt-mul-div-succ (weighted_sum os v) pos)

  -- what the average takes of the sum, W times, and what the division leaves are together the sum
  pub average_exact : (v : ℕ → ℕ) → W * (average W ticks os v - ticks) + weighted_sum os v % W ≡ weighted_sum os v
  average_exact v =
      let mean : average W ticks os v - ticks ≡ weighted_sum os v / W = omega arith in
      rw mean (div-add-mod (weighted_sum os v) W)

  pub average_rises : 0 < W → (v w : ℕ → ℕ) → BelowAt os v w → average W ticks os v ≤ average W ticks os w
  average_rises pos v w below = omega (arith, quotient_rises W _ _ pos (weighted_sum-rises os v w below))

  pub average_same : (v w : ℕ → ℕ) → SameAt os v w → average W ticks os v ≡ average W ticks os w
  average_same v w same = rw (weighted_sum-same os v w same) refl

  pub average_bound : (v : ℕ → ℕ) (G : ℕ) → total_weight os ≡ W → ((o : Outcome) → In o os → v o.successor ≤ G)
      → average W ticks os v ≤ ticks + G
  average_bound v G total high =
      omega (arith, div-le_of_le-mul W {n = G} (rw total at (weighted_sum-high os v G high)))

-- the model's row value is the average over the problem's total
pub row_value-average : (p : Problem) (v : ℕ → ℕ) (r : ℕ) → row_value p v r ≡ average p.total (row_ticks p r) (p.outcomes r) v
unfolding row_value
row_value-average p v r = refl

module _ (p : Problem) (r : ℕ) where
  pub row_value-low : (v : ℕ → ℕ) → p.total * row_value p v r ≤ p.total * row_ticks p r + weighted_sum (p.outcomes r) v
  row_value-low v = rw row_value-average (average_low p.total (row_ticks p r) (p.outcomes r) v)

  pub row_value-high
      : 1 ≤ p.total → (v : ℕ → ℕ) → p.total * row_ticks p r + weighted_sum (p.outcomes r) v < p.total * (row_value p v r + 1)
  row_value-high pos v = rw row_value-average (average_high p.total (row_ticks p r) (p.outcomes r) pos v)

  -- E3: value and remainder together are the exact sum, and the remainder is less than the total
  pub row_value-exact
      : (v : ℕ → ℕ) → p.total * (row_value p v r - row_ticks p r) + row_remainder p v r ≡ weighted_sum (p.outcomes r) v
  unfolding row_remainder
  row_value-exact v = rw row_value-average (average_exact p.total (row_ticks p r) (p.outcomes r) v)

  pub row_remainder-low : 1 ≤ p.total → (v : ℕ → ℕ) → row_remainder p v r < p.total
  unfolding row_remainder
  row_remainder-low pos v = mod-lt (weighted_sum (p.outcomes r) v) pos

  pub row_value-rises : 1 ≤ p.total → (v w : ℕ → ℕ) → BelowAt (p.outcomes r) v w → row_value p v r ≤ row_value p w r
  row_value-rises pos v w below =
      rw (row_value-average p v r, row_value-average p w r)
      (average_rises p.total (row_ticks p r) (p.outcomes r) pos v w below)

  pub row_value-same : (v w : ℕ → ℕ) → SameAt (p.outcomes r) v w → row_value p v r ≡ row_value p w r
  row_value-same v w same =
      rw (row_value-average p v r, row_value-average p w r)
      (average_same p.total (row_ticks p r) (p.outcomes r) v w same)

  pub row_value-bound : (v : ℕ → ℕ) (G : ℕ) → total_weight (p.outcomes r) ≡ p.total
      → ((o : Outcome) → In o (p.outcomes r) → v o.successor ≤ G) → row_value p v r ≤ row_ticks p r + G
  row_value-bound v G total high =
      rw row_value-average (average_bound p.total (row_ticks p r) (p.outcomes r) v G total high)

-- the remainder of a pick is that of its row, and 0 for giving up
module _ (p : Problem) (v : ℕ → ℕ) where
  pub pick_remainder-give : pick_remainder p v give_up ≡ 0
  unfolding pick_remainder
  pick_remainder-give = refl

  pub pick_remainder-row : (r : ℕ) → (r ≡ give_up → ⊥) → pick_remainder p v r ≡ row_remainder p v r
  unfolding pick_remainder
  pick_remainder-row r other = rw (ne_eqb r give_up other) refl

-- on whole tables
pub row_value-rises_all
    : (p : Problem) → 1 ≤ p.total → (v w : ℕ → ℕ) → ((s : ℕ) → v s ≤ w s) → (r : ℕ) → row_value p v r ≤ row_value p w r
row_value-rises_all p pos v w below r = row_value-rises p r pos v w (λ o i. below o.successor)

-- on the states of a problem that questions 1 to 11 let through
module _ (p : Problem) (formed : WellFormed p) where
  pub row_value-same_states : (v w : ℕ → ℕ) → ((s : ℕ) → s < p.states → v s ≡ w s)
      → (r : ℕ) → r < p.rows → row_value p v r ≡ row_value p w r
  row_value-same_states v w same r l = row_value-same p r v w (λ o i. same o.successor (formed.successor_state r l o i))

  pub row_remainder-same_states : (v w : ℕ → ℕ) → ((s : ℕ) → s < p.states → v s ≡ w s)
      → (r : ℕ) → r < p.rows → row_remainder p v r ≡ row_remainder p w r
  unfolding row_remainder
  row_remainder-same_states v w same r l =
      ap (λ x. x % p.total) (weighted_sum-same (p.outcomes r) v w (λ o i. same o.successor (formed.successor_state r l o i)))

  pub row_value-bound_states : (v : ℕ → ℕ) → ((s : ℕ) → s < p.states → v s ≤ give_up_cost p)
      → (r : ℕ) → r < p.rows → row_value p v r ≤ row_ticks p r + give_up_cost p
  row_value-bound_states v high r l =
      row_value-bound p r v (give_up_cost p) (formed.weights r l) (λ o i. high o.successor (formed.successor_state r l o i))

  -- a row value under a table of values at most 1000 × D fits in 32 bits
  pub row_value-fits : (v : ℕ → ℕ) → ((s : ℕ) → s < p.states → v s ≤ give_up_cost p)
      → (r : ℕ) → r < p.rows → row_value p v r < value_bound
  row_value-fits v high r l =
      omega (arith, row_value-bound_states v high r l, formed.cost_high r l, formed.penalty_high)
