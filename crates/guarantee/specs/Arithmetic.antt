-- The arithmetic of closeness, on numbers and weighted sums alone, over any weight total W above 0.
-- A sum's slack is shared among its parts, so a full slack is full at each part; some part of a small sum is small.
use Rattle.std.specs.Prelude.{◌≡◌, ℕ, ◌+◌, ◌*◌, ◌≤◌, ◌<◌, List, [], ◌∷◌}
use Rattle.std.proofs.Common.{mul-le-mul_left, mul-pos, arith}
use Rattle.std.proofs.Math.Nat.{le_of_mul-le-mul_left}
use Rattle.std.proofs.Math.Decide.{dec_lt}
use Rattle.model.specs.Problem.{Outcome}
use Rattle.model.specs.Value.{weighted_sum, total_weight}
use Rattle.model.specs.Walk.{In, here, there}

-- K × V is at most U + M at the successors of a list of outcomes
abbrev pub SlackAt : List Outcome → (ℕ → ℕ) → (ℕ → ℕ) → ℕ → ℕ → Type 0
SlackAt os v u K M = (o : Outcome) → In o os → K * v o.successor ≤ u o.successor + M

-- an outcome whose successor has a value below x
pub record SmallAt (os : List Outcome) (u : ℕ → ℕ) (x : ℕ) : Type 0 where
  pub outcome : Outcome
  pub one : In outcome os
  pub small : u outcome.successor < x

pub weighted_sum-scale : (os : List Outcome) (v : ℕ → ℕ) (C : ℕ) → weighted_sum os (λ s. C * v s) ≡ C * weighted_sum os v
unfolding weighted_sum
weighted_sum-scale [] v C = omega arith
weighted_sum-scale (o ∷ os) v C = omega (arith, weighted_sum-scale os v C)

-- the slack of the sum is the slack of the parts
pub sum_slack : (os : List Outcome) (v u : ℕ → ℕ) (K M : ℕ) → SlackAt os v u K M
    → K * weighted_sum os v ≤ weighted_sum os u + M * total_weight os
unfolding weighted_sum total_weight
sum_slack [] v u K M slack = omega arith
sum_slack (o ∷ os) v u K M slack =
    omega (arith, mul-le-mul_left o.weight (slack o here), sum_slack os v u K M (λ a i. slack a (there i)))

-- where the sum uses the slack in full, so does each part
pub sum_full : {os : List Outcome} {o : Outcome} → In o os → (v u : ℕ → ℕ) (K M : ℕ) → SlackAt os v u K M
    → ((o : Outcome) → In o os → 1 ≤ o.weight) → weighted_sum os u + M * total_weight os ≤ K * weighted_sum os v
    → u o.successor + M ≤ K * v o.successor
unfolding weighted_sum total_weight
sum_full (here {a = o} {l = os}) v u K M slack weights full =
    let part : o.weight * (u o.successor + M) ≤ o.weight * (K * v o.successor) =
    omega (arith, sum_slack os v u K M (λ a i. slack a (there i))) in
    le_of_mul-le-mul_left part (weights o here)
sum_full (there {b = o} {l = os} i) v u K M slack weights full =
    sum_full i v u K M (λ a i. slack a (there i)) (λ a i. weights a (there i))
    (omega (arith, mul-le-mul_left o.weight (slack o here)))

-- a sum below W × x has a part below x
pub some_small : (os : List Outcome) (u : ℕ → ℕ) (x : ℕ) → weighted_sum os u < total_weight os * x → SmallAt os u x
unfolding weighted_sum total_weight
some_small [] u x h = absurd (omega arith)
some_small (o ∷ os) u x h = step (dec_lt (u o.successor) x) (some_small os u x)
  where
    step : Dec (u o.successor < x) → (weighted_sum os u < total_weight os * x → SmallAt os u x) → SmallAt (o ∷ os) u x
    step (yes l) next = record { outcome = o; one = here; small = l }
    step (no l) next =
        let high : x ≤ u o.successor = omega arith in
        let rest = next (omega (arith, mul-le-mul_left o.weight high)) in
        record { outcome = rest.outcome; one = there rest.one; small = rest.small }

-- A row of a table V with V(s) = x at most its value, and of a cover U with U(s) = y in K-ths: where K × x is y + M or more, the
-- row's sums use the slack M in full, and the cover's sum lies below W × y.
module _ (W K M ticks x y vs us : ℕ) (low : W * x ≤ W * ticks + vs) (cover : K * (W * ticks) + us ≤ W * y) where
  pub row_full : y + M ≤ K * x → us + M * W ≤ K * vs
  row_full full = omega (arith, mul-le-mul_left K low, mul-le-mul_left W full)

  pub row_small : 1 ≤ K → 1 ≤ W → 1 ≤ ticks → us < W * y
  row_small k w t = omega (arith, mul-pos k (mul-pos w t))

-- a picked row: C = K + e is at most its ticks, and its value at most x + e - 1
pub row_close : (W K e ticks x q sum : ℕ) → W * ticks + sum < W * (q + 1) → q + 1 ≤ x + e → K + e ≤ ticks
    → K * (W * ticks) + (K + e) * sum ≤ W * ((K + e) * x)
row_close W K e ticks x q sum value near cheap =
    let below : W * ticks + sum ≤ W * (x + e) = omega (arith, mul-le-mul_left W near) in
    omega (arith, mul-le-mul_left (K + e) below, mul-le-mul_left (e * W) cheap)

-- giving up: C = K + e is at most G, and G at most x + e - 1
pub give_close : (K e G x : ℕ) → G + 1 ≤ x + e → K + e ≤ G → K * G ≤ (K + e) * x
give_close K e G x near cheap = omega (arith, mul-le-mul_left (K + e) near, mul-le-mul_left e cheap)
