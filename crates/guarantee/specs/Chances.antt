-- Laws of the chances that a list of outcomes gives to each state, and of the outcomes gathered by state (request E6).
-- A sum over outcomes is a sum over states, as each outcome counts at its own successor alone; by induction on the outcomes.
use Rattle.std.specs.Prelude.{◌≡◌, refl, Bool, true, false, List, [], ◌∷◌, map, ◌⊎◌, eqb, get_or, length}
use Rattle.std.proofs.Common.{sym, ◌∙◌, ap, eq-or-lt_of_le, arith, inl, inr, ⊎_elim, eq-eqb, ne_eqb, eqb-true}
use Prim.Native.Nat.{ℕ, zero, suc, ◌+◌, ◌*◌, ◌≤◌, ◌<◌}
use Rattle.std.proofs.Math.Decide.{ℕ_discrete, dec_le}
use Rattle.std.proofs.lemmas.Bool.{eqb-false}
use Rattle.model.specs.Problem.{Outcome}
use Rattle.model.specs.Search.{sum_to}
use Rattle.model.specs.SetForm.{weight_on, weight_to, gathered_on, gathered}
use Rattle.model.specs.Value.{weighted_sum, total_weight}
use Rattle.model.specs.Walk.{In, here, there}
use Rattle.guarantee.specs.Graphs.{in_nil, in_cons, in_place}
use Rattle.guarantee.specs.Sums.{sum_same, sum_both, sum_zero}
use Rattle.guarantee.specs.Walks.{in_map}

-- every outcome leads to one of n states
abbrev pub LeadsBelow : ℕ → List Outcome → Type 0
LeadsBelow n os = (o : Outcome) → In o os → o.successor < n

-- every outcome has a weight
abbrev pub Weighs : List Outcome → Type 0
Weighs os = (o : Outcome) → In o os → 1 ≤ o.weight

-- what stands at the number a alone
module _ (a w : ℕ) (v : ℕ → ℕ) where
  abbrev at_one : ℕ → ℕ
  at_one t = weight_on (eqb a t) w * v t

  one_before : (k : ℕ) → k ≤ a → sum_to at_one k ≡ 0
  one_before k h = sum_zero at_one k (λ t l. rw (ne_eqb a t (omega arith)) (omega arith))

  sum_one : (k : ℕ) → a < k → sum_to at_one k ≡ w * v a
  unfolding sum_to
  sum_one zero h = absurd (omega arith)
  sum_one (suc k) h = step (ℕ_discrete a k) (sum_one k)
    where
      step : Dec (a ≡ k) → (a < k → sum_to at_one k ≡ w * v a) → sum_to at_one k + weight_on (eqb a k) w * v k ≡ w * v a
      step (yes e) ih = rw (eq-eqb a k e, one_before k (omega arith), e) (omega arith)
      step (no ne) ih = rw (ne_eqb a k ne) (omega (arith, ih (omega arith)))

-- the sum of w × V(successor) is the sum over the states of chance × V
pub weighted_by_chance
    : (os : List Outcome) (v : ℕ → ℕ) (n : ℕ) → LeadsBelow n os → weighted_sum os v ≡ sum_to (λ t. weight_to os t * v t) n
unfolding weighted_sum weight_to
weighted_by_chance [] v n below = sym (sum_zero (λ t. 0 * v t) n (λ t l. omega arith))
weighted_by_chance (o ∷ os) v n below =
    let own = sum_one o.successor o.weight v n (below o here) in
    let rest = weighted_by_chance os v n (λ a i. below a (there i)) in
    let parts = sum_both (at_one o.successor o.weight v) (λ t. weight_to os t * v t) n in
    let split = sum_same
    (λ t. (weight_on (eqb o.successor t) o.weight + weight_to os t) * v t)
    (λ t. at_one o.successor o.weight v t + weight_to os t * v t)
    n (λ t l. omega arith) in
    omega (arith, own, rest, parts, split)

total_weighted : (os : List Outcome) → total_weight os ≡ weighted_sum os (λ t. 1)
unfolding total_weight weighted_sum
total_weighted [] = refl
total_weighted (o ∷ os) = omega (arith, total_weighted os)

-- the weights add to the chances of the states
pub total_by_chance : (os : List Outcome) (n : ℕ) → LeadsBelow n os → total_weight os ≡ sum_to (weight_to os) n
total_by_chance os n below =
    total_weighted os
    ∙ weighted_by_chance os (λ t. 1) n below
    ∙ sum_same (λ t. weight_to os t * 1) (weight_to os) n (λ t l. omega arith)

weight_on_lem : (b : Bool) (w : ℕ) → weight_on b w ≤ w
weight_on_lem true w = omega arith
weight_on_lem false w = omega arith

-- no state has a chance above the total
pub weight_within : (os : List Outcome) (t : ℕ) → weight_to os t ≤ total_weight os
unfolding weight_to total_weight
weight_within [] t = omega arith
weight_within (o ∷ os) t = omega (arith, weight_on_lem (eqb o.successor t) o.weight, weight_within os t)

-- no outcome has a weight above it, and where there is a weight there is an outcome
pub weight_high : (os : List Outcome) (o : Outcome) → In o os → o.weight ≤ total_weight os
unfolding total_weight
weight_high [] o i = absurd (in_nil i)
weight_high (a ∷ os) o i =
    ⊎_elim (λ e. omega (arith, ap (λ (x : Outcome). x.weight) e)) (λ j. omega (arith, weight_high os o j)) (in_cons i)

pub some_outcome : (os : List Outcome) → 1 ≤ total_weight os → 1 ≤ length os
unfolding total_weight
some_outcome [] h = h
some_outcome (o ∷ os) h = omega arith

-- a state has a chance exactly where an outcome leads to it
pub leads_with_chance
    : (os : List Outcome) (t : ℕ) → Weighs os → In t (map (λ (o : Outcome). o.successor) os) → 1 ≤ weight_to os t
unfolding weight_to
leads_with_chance [] t weighs i = absurd (in_nil i)
leads_with_chance (o ∷ os) t weighs i =
    ⊎_elim
    (λ e. rw (eq-eqb o.successor t (sym e)) (omega (arith, weighs o here)))
    (λ j. omega (arith, leads_with_chance os t (λ a i. weighs a (there i)) j))
    (in_cons i)

pub chance_leads : (os : List Outcome) (t : ℕ) → 1 ≤ weight_to os t → In t (map (λ (o : Outcome). o.successor) os)
unfolding weight_to
chance_leads [] t h = absurd (omega arith)
chance_leads (o ∷ os) t h = step (ℕ_discrete t o.successor) (chance_leads os t)
  where
    step
        : Dec (t ≡ o.successor) → (1 ≤ weight_to os t → In t (map (λ (o : Outcome). o.successor) os))
        → In t (map (λ (o : Outcome). o.successor) (o ∷ os))
    step (yes e) ih = rw e here
    step (no ne) ih = there (ih (omega (arith, rw (ne_eqb o.successor t (λ e. ne (sym e))) at h)))

-- Outcomes gathered by state.

-- an outcome of one of k states from i on that carries its state's chance
abbrev Fits : (ℕ → ℕ) → ℕ → ℕ → Outcome → Type 0
Fits c i k o = (i ≤ o.successor) × (o.successor < i + k) × (o.weight ≡ c o.successor) × (1 ≤ o.weight)

pub gathered_in
    : (c : ℕ → ℕ) (i k : ℕ) (o : Outcome) → In o (gathered c i k)
    → (i ≤ o.successor) × (o.successor < i + k) × (o.weight ≡ c o.successor) × (1 ≤ o.weight)
unfolding gathered
gathered_in c i zero o h = absurd (in_nil h)
gathered_in c i (suc k) o h = step (eqb (c i) 0) refl h (gathered_in c (suc i) k o)
  where
    later : Fits c (suc i) k o → Fits c i (suc k) o
    later f = (omega (arith, f.0), omega (arith, f.1), f.2, f.3)

    step
        : (b : Bool) → eqb (c i) 0 ≡ b → In o (gathered_on b (record { successor = i; weight = c i }) (gathered c (suc i) k))
        → (In o (gathered c (suc i) k) → Fits c (suc i) k o) → Fits c i (suc k) o
    step true e j ih = later (ih j)
    step false e j ih =
        ⊎_elim
        (λ own. rw own (omega arith, omega arith, refl, omega (arith, eqb-false (c i) 0 e)))
        (λ rest. later (ih rest))
        (in_cons j)

-- the successors rise from place to place
pub gathered_rises
    : (c : ℕ → ℕ) (i k a b : ℕ) → a < b → b < length (map (λ (o : Outcome). o.successor) (gathered c i k))
    → get_or (map (λ (o : Outcome). o.successor) (gathered c i k)) a 0
    < get_or (map (λ (o : Outcome). o.successor) (gathered c i k)) b 0
unfolding gathered
gathered_rises c i zero a b l h = absurd (omega arith)
gathered_rises c i (suc k) a b l h = step (eqb (c i) 0) a b l h (gathered_rises c (suc i) k)
  where
    later : List ℕ
    later = map (λ (o : Outcome). o.successor) (gathered c (suc i) k)

    above : (b : ℕ) → b < length later → i < get_or later b 0
    above b h =
        let o = in_map (λ (o : Outcome). o.successor) (gathered c (suc i) k) (get_or later b 0) (in_place later b h) in
        omega (arith, o.2, (gathered_in c (suc i) k o.0 o.1).0)

    with_own : Bool → List ℕ
    with_own n = map (λ (o : Outcome). o.successor) (gathered_on n (record { successor = i; weight = c i }) (gathered c (suc i) k))

    step
        : (n : Bool) (a b : ℕ) → a < b → b < length (with_own n)
        → ((a b : ℕ) → a < b → b < length later → get_or later a 0 < get_or later b 0)
        → get_or (with_own n) a 0 < get_or (with_own n) b 0
    step true a b l h ih = ih a b l h
    step false a zero l h ih = absurd (omega arith)
    step false zero (suc b) l h ih = above b (omega arith)
    step false (suc a) (suc b) l h ih = ih a b (omega arith) (omega arith)

gathered_before : (c : ℕ → ℕ) (i k t : ℕ) → t < i → weight_to (gathered c i k) t ≡ 0
gathered_before c i k t l = step (dec_le 1 (weight_to (gathered c i k) t))
  where
    step : Dec (1 ≤ weight_to (gathered c i k) t) → weight_to (gathered c i k) t ≡ 0
    step (yes h) =
        let o = in_map (λ (o : Outcome). o.successor) (gathered c i k) t (chance_leads (gathered c i k) t h) in
        absurd (omega (arith, o.2, (gathered_in c i k o.0 o.1).0))
    step (no h) = omega arith

-- gathering keeps the chances
pub gathered_chance : (c : ℕ → ℕ) (i k t : ℕ) → i ≤ t → t < i + k → weight_to (gathered c i k) t ≡ c t
unfolding gathered weight_to
gathered_chance c i zero t low high = absurd (omega arith)
gathered_chance c i (suc k) t low high = step (eqb (c i) 0) refl (eq-or-lt_of_le low) (gathered_chance c (suc i) k t)
  where
    step
        : (b : Bool) → eqb (c i) 0 ≡ b → (i ≡ t) ⊎ (i < t)
        → (suc i ≤ t → t < suc i + k → weight_to (gathered c (suc i) k) t ≡ c t)
        → weight_to (gathered_on b (record { successor = i; weight = c i }) (gathered c (suc i) k)) t ≡ c t
    step true e (inl own) ih = rw (← own) (gathered_before c (suc i) k i (omega arith) ∙ sym (eqb-true (c i) 0 e))
    step true e (inr l) ih = ih l (omega arith)
    step false e (inl own) ih =
        rw (← own, eq-eqb i i refl, gathered_before c (suc i) k i (omega arith)) (omega arith)
    step false e (inr l) ih = rw (ne_eqb i t (omega arith)) (omega (arith, ih l (omega arith)))

-- it looks at the chances in range alone
pub gathered_same
    : (c d : ℕ → ℕ) (i k : ℕ) → ((t : ℕ) → i ≤ t → t < i + k → c t ≡ d t) → gathered c i k ≡ gathered d i k
unfolding gathered
gathered_same c d i zero same = refl
gathered_same c d i (suc k) same =
    rw (
      same i (omega arith) (omega arith),
      gathered_same c d (suc i) k (λ t low high. same t (omega arith) (omega arith)),
    )
    refl

gathered_longer : (b : Bool) (o : Outcome) (os : List Outcome) → length os ≤ length (gathered_on b o os)
gathered_longer true o os = omega arith
gathered_longer false o os = omega arith

gathered_by_one : (b : Bool) (o : Outcome) (os : List Outcome) → length (gathered_on b o os) ≤ suc (length os)
gathered_by_one true o os = omega arith
gathered_by_one false o os = omega arith

-- another chance at one state adds one outcome at most
gathered_one_more
    : (c d : ℕ → ℕ) (a i k : ℕ) → ((t : ℕ) → (t ≡ a → ⊥) → d t ≡ c t)
    → length (gathered d i k) ≤ suc (length (gathered c i k))
unfolding gathered
gathered_one_more c d a i zero same = omega arith
gathered_one_more c d a i (suc k) same = step (ℕ_discrete i a) (gathered_one_more c d a (suc i) k same)
  where
    step
        : Dec (i ≡ a) → length (gathered d (suc i) k) ≤ suc (length (gathered c (suc i) k))
        → length (gathered_on (eqb (d i) 0) (record { successor = i; weight = d i }) (gathered d (suc i) k))
        ≤ suc (length (gathered_on (eqb (c i) 0) (record { successor = i; weight = c i }) (gathered c (suc i) k)))
    step (yes e) ih =
        rw (gathered_same d c (suc i) k (λ t low high. same t (omega arith)))
        (omega (
          arith,
          gathered_by_one (eqb (d i) 0) (record { successor = i; weight = d i }) (gathered c (suc i) k),
          gathered_longer (eqb (c i) 0) (record { successor = i; weight = c i }) (gathered c (suc i) k),
        ))
    step (no ne) ih = rw (same i ne) (both (eqb (c i) 0))
      where
        both
            : (b : Bool)
            → length (gathered_on b (record { successor = i; weight = c i }) (gathered d (suc i) k))
            ≤ suc (length (gathered_on b (record { successor = i; weight = c i }) (gathered c (suc i) k)))
        both true = ih
        both false = omega arith

gathered_none : (i k : ℕ) → length (gathered (weight_to []) i k) ≡ 0
unfolding gathered weight_to
gathered_none i zero = refl
gathered_none i (suc k) = gathered_none (suc i) k

-- it never takes more outcomes
pub gathered_few : (os : List Outcome) (n : ℕ) → length (gathered (weight_to os) 0 n) ≤ length os
unfolding weight_to
gathered_few [] n = omega (arith, gathered_none 0 n)
gathered_few (o ∷ os) n =
    let more = gathered_one_more (weight_to os) (weight_to (o ∷ os)) o.successor 0 n
    (λ t ne. rw (ne_eqb o.successor t (λ e. ne (sym e))) (omega arith)) in
    omega (arith, more, gathered_few os n)

-- and keeps the total
pub gathered_total
    : (os : List Outcome) (n : ℕ) → LeadsBelow n os → total_weight (gathered (weight_to os) 0 n) ≡ total_weight os
gathered_total os n below =
    total_by_chance (gathered (weight_to os) 0 n) n (λ o i. omega (arith, (gathered_in (weight_to os) 0 n o i).1))
    ∙ sum_same _ (weight_to os) n (λ t l. gathered_chance (weight_to os) 0 n t (omega arith) (omega arith))
    ∙ sym (total_by_chance os n below)
