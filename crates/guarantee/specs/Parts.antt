-- Laws of the outcomes read off a part of the file: the next outcome, what a loop over them has left, and parts of a file.
-- By opening the definition once; the rest cites the one step.
use Rattle.std.specs.Prelude.{◌≡◌, refl, ℕ, zero, suc, ◌+◌, ◌-◌, ◌*◌, ◌≤◌, ◌<◌, Bool, true, false, ◌&&◌, List, [], ◌∷◌, map, ◌⊎◌, ltb, get_or, length, take}
use Rattle.std.proofs.Common.{◌∙◌, ap, eq-or-lt_of_le, arith, add-one, inl, inr, get_or-take, ltb-true}
use Rattle.model.specs.Bytes.{u16_at}
use Rattle.model.specs.Problem.{Outcome}
use Rattle.model.specs.Questions.{between, outcomes_obey}
use Rattle.model.specs.Sections.{outcomes_from}
use Rattle.model.specs.Value.{weighted_sum, total_weight}
use Rattle.guarantee.specs.Loops.{left_is}
use Rattle.guarantee.specs.Searches.{and_left, and_right}

-- the i-th outcome of a part
abbrev pub outcome_in : List ℕ → ℕ → Outcome
outcome_in b i = record { successor = u16_at b (4 * i); weight = u16_at b (4 * i + 2) }

-- whether an outcome leads to one of n states with a weight of 1 to W
abbrev pub outcome_obeys : ℕ → ℕ → Outcome → Bool
outcome_obeys n W o = ltb o.successor n && between 1 W o.weight

module _ (b : List ℕ) (n i : ℕ) (h : i < n) where
  pub outcomes_next : outcomes_from b i (n - i) ≡ outcome_in b i ∷ outcomes_from b (i + 1) (n - (i + 1))
  unfolding outcomes_from
  outcomes_next = rw (left_is n i h, add-one)

  pub obey_fails : (states W : ℕ) → outcome_obeys states W (outcome_in b i) ≡ false → outcomes_obey states W (outcomes_from b i (n - i)) ≡ false
  unfolding outcomes_obey
  obey_fails states W t = rw (outcomes_next, t)

  pub obey_goes_on
      : (states W : ℕ) → outcome_obeys states W (outcome_in b i) ≡ true
      → outcomes_obey states W (outcomes_from b i (n - i)) ≡ outcomes_obey states W (outcomes_from b (i + 1) (n - (i + 1)))
  unfolding outcomes_obey
  obey_goes_on states W t = rw (outcomes_next, t)

  pub weight_goes_on
      : total_weight (outcomes_from b i (n - i)) ≡ u16_at b (4 * i + 2) + total_weight (outcomes_from b (i + 1) (n - (i + 1)))
  unfolding total_weight
  weight_goes_on = rw outcomes_next

  pub sum_goes_on
      : (v : ℕ → ℕ) → weighted_sum (outcomes_from b i (n - i)) v
      ≡ u16_at b (4 * i + 2) * v (u16_at b (4 * i)) + weighted_sum (outcomes_from b (i + 1) (n - (i + 1))) v
  unfolding weighted_sum
  sum_goes_on v = rw outcomes_next

-- no outcome is left
pub outcomes_end : (b : List ℕ) (n i : ℕ) → n ≤ i → outcomes_from b i (n - i) ≡ []
unfolding outcomes_from
outcomes_end b n i h = let z : n - i ≡ 0 = omega arith in rw z

-- outcomes that lie in the front of a part are the front's
pub outcomes_front
    : (b : List ℕ) (m i k : ℕ) → 4 * (i + k) ≤ m → outcomes_from (take m b) i k ≡ outcomes_from b i k
unfolding outcomes_from u16_at
outcomes_front b m i zero h = refl
outcomes_front b m i (suc k) h =
    simp (
      get_or-take m b (4 * i) 0 (omega arith),
      get_or-take m b (4 * i + 1) 0 (omega arith),
      get_or-take m b (4 * i + 2) 0 (omega arith),
      get_or-take m b (4 * i + 2 + 1) 0 (omega arith),
      outcomes_front b m (suc i) k (omega arith),
    )

-- outcomes that obey lead to states
pub obey_successor
    : (n W : ℕ) (b : List ℕ) (i k j : ℕ) → outcomes_obey n W (outcomes_from b i k) ≡ true → i ≤ j → j < i + k → u16_at b (4 * j) < n
unfolding outcomes_from outcomes_obey
obey_successor n W b i zero j h low high = absurd (omega arith)
obey_successor n W b i (suc k) j h low high =
    step (eq-or-lt_of_le low) (obey_successor n W b (suc i) k j (and_right (outcome_obeys n W (outcome_in b i)) _ h))
  where
    step : (i ≡ j) ⊎ (i < j) → (suc i ≤ j → j < suc i + k → u16_at b (4 * j) < n) → u16_at b (4 * j) < n
    step (inl e) next =
        rw (← e) (ltb-true _ _ (and_left _ _ (and_left (outcome_obeys n W (outcome_in b i)) (outcomes_obey n W (outcomes_from b (suc i) k)) h)))
    step (inr l) next = next l (omega arith)

-- how many outcomes are read, and where the o-th of them leads
pub outcomes_count : (b : List ℕ) (i k : ℕ) → length (outcomes_from b i k) ≡ k
unfolding outcomes_from
outcomes_count b i zero = refl
outcomes_count b i (suc k) = ap suc (outcomes_count b (suc i) k)

successor_from
    : (b : List ℕ) (i k o s : ℕ) → o < k → u16_at b (4 * (i + o)) ≡ get_or (map (λ (x : Outcome). x.successor) (outcomes_from b i k)) o s
unfolding outcomes_from
successor_from b i zero o s h = absurd (omega arith)
successor_from b i (suc k) zero s h = ap (λ j. u16_at b (4 * j)) (omega arith)
successor_from b i (suc k) (suc o) s h = ap (λ j. u16_at b (4 * j)) (omega arith) ∙ successor_from b (suc i) k o s (omega arith)

pub successor_at
    : (b : List ℕ) (k o s : ℕ) → o < k → u16_at b (4 * o) ≡ get_or (map (λ (x : Outcome). x.successor) (outcomes_from b 0 k)) o s
successor_at b k o s h = ap (λ j. u16_at b (4 * j)) (omega arith) ∙ successor_from b 0 k o s h
