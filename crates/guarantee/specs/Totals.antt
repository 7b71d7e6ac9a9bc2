-- What question 24 gives of the weight total: it is 1 to 10,000. No other law, but that an encoded file
-- passes 24, asks more of it than that it is at least 1, or that it fits.
-- What a test says of each of a few numbers, it says of a number that is one of them.
use Rattle.std.specs.Prelude.{◌≡◌, refl, ℕ, ◌≤◌, Bool, true, ◌&&◌, List, [], ◌∷◌, ◌⊎◌, eqb}
use Rattle.std.proofs.Common.{sym, ◌∙◌, true≢false, inl, inr, eqb-true, ne_eqb}
use Rattle.std.proofs.Math.Bool.{or-false}
use Rattle.model.specs.Limits.{weight_totals, max_total}
use Rattle.model.specs.Problem.{Problem}
use Rattle.model.specs.Questions.{between}
use Rattle.model.specs.Search.{one_of}
use Rattle.guarantee.specs.Searches.{and_left, and_right, or_cases}
use Rattle.guarantee.specs.WellFormed.{WellFormed, between_low, between_high}

abbrev each_of : (ℕ → Bool) → List ℕ → Bool
each_of test [] = true
each_of test (y ∷ ys) = test y && each_of test ys

one_of_each : (test : ℕ → Bool) (x : ℕ) (l : List ℕ) → one_of x l ≡ true → each_of test l ≡ true → test x ≡ true
one_of_each test x [] h each = absurd (true≢false (sym h))
one_of_each test x (y ∷ ys) h each =
    step (or_cases (eqb x y) (one_of x ys) h) (λ k. one_of_each test x ys k (and_right (test y) (each_of test ys) each))
  where
    step : (eqb x y ≡ true) ⊎ (one_of x ys ≡ true) → (one_of x ys ≡ true → test x ≡ true) → test x ≡ true
    step (inl e) next = rw (eqb-true x y e) (and_left (test y) (each_of test ys) each)
    step (inr k) next = next k

known_between : (W : ℕ) → one_of W weight_totals ≡ true → between 1 max_total W ≡ true
known_between W known = one_of_each (between 1 max_total) W weight_totals known refl

pub known_low : (W : ℕ) → one_of W weight_totals ≡ true → 1 ≤ W
known_low W known = between_low 1 max_total W (known_between W known)

pub known_high : (W : ℕ) → one_of W weight_totals ≡ true → W ≤ max_total
known_high W known = between_high 1 max_total W (known_between W known)

-- of four numbers the last is left, where it is none of the others
module _ (x a b c d : ℕ) (not_a : x ≡ a → ⊥) (not_b : x ≡ b → ⊥) (not_c : x ≡ c → ⊥) where
  pub last_left : one_of x (a ∷ b ∷ c ∷ d ∷ []) ≡ eqb x d
  last_left = rw (ne_eqb x a not_a, ne_eqb x b not_b, ne_eqb x c not_c) (or-false (eqb x d))

  pub last_of_four : one_of x (a ∷ b ∷ c ∷ d ∷ []) ≡ true → x ≡ d
  last_of_four known = eqb-true x d (sym last_left ∙ known)

pub total_low : {p : Problem} → WellFormed p → 1 ≤ p.total
total_low {p = p} formed = known_low p.total formed.total_known

pub total_high : {p : Problem} → WellFormed p → p.total ≤ max_total
total_high {p = p} formed = known_high p.total formed.total_known
