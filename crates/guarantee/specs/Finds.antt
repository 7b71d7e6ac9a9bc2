-- A search for the first place that fails, written as a range's `find`, hands back what the model's search says.
-- One law serves all such searches.
use Rattle.std.specs.Prelude.{◌≡◌, ℕ, suc, ◌≤◌, ◌<◌, Bool, true, false, not, Option, MatchOption}
use Rattle.std.proofs.Common.{None, Some, sym, ◌∙◌, arith, true≢false}
use Rattle.std.proofs.lemmas.Bool.{not-true, not-false}
use Rattle.std.proofs.Math.Nat.{lt_of_not-le}
use Rattle.std.proofs.iter.Yields.{nat_range_steps}
use Rattle.std.proofs.lemmas.Iterator.{first_from_Range}
use Rattle.std.specs.Fn.{CalledAt}
use Rattle.std.specs.Iterator.{FindsItem}
use Rattle.std.specs.declared.ops.Range.{Range}
use denote.Param.Members.{Mut}
use denote.Ref.{Bor}
use Rattle.model.specs.Search.{first}
use Rattle.guarantee.specs.Found.{Found}
use Rattle.guarantee.specs.Searches.{all_first, first_at, first_before}

module _ (ok : ℕ → Bool) where
  clash : {i : ℕ} → ok i ≡ true → ok i ≡ false → ⊥
  clash y n = true≢false (sym y ∙ n)

  -- the search stops at the first place that fails
  stops_at : (n i : ℕ) → i < n → ok i ≡ false → ((k : ℕ) → k < i → ok k ≡ true) → first ok 0 n ≡ i
  stops_at n i l fails passes = omega (arith, low, high)
    where
      low : i < suc (first ok 0 n)
      low = lt_of_not-le (λ h. clash (passes _ h) (first_at ok 0 n (omega arith)))

      high : first ok 0 n < suc i
      high = lt_of_not-le (λ h. clash (first_before ok 0 n i (omega arith) h) fails)

  found : (n : ℕ) (r : Option ℕ)
      → MatchOption r ((k : ℕ) → 0 ≤ k → k < n → ok k ≡ true)
      (λ i. (0 ≤ i) × (i < n) × (ok i ≡ false) × ((k : ℕ) → 0 ≤ k → k < i → ok k ≡ true))
      → Found n (first ok 0 n) r
  found n None h = omega (arith, all_first ok 0 n (λ k low high. h k low (omega arith)))
  found n (Some i) h = (stops_at n i h.1 h.2 (λ k l. h.3 k (omega arith) l), h.1)

  pub first_found : {F : Type 0} {g : Mut F (Bor ℕ × Unit {0}) Bool} {n m : ℕ} {f : F} (u : Range ℕ) (r : Option ℕ)
      → n ≡ m → FindsItem nat_range_steps g (record { start = 0; end = n }) f r u
      → ((x : ℕ) (b : Bool) (q : F) → CalledAt g f x b q → (q ≡ f) × (b ≡ not (ok x)))
      → Found n (first ok 0 m) r
  first_found {n = n} {f = f} u r e ran called =
      rw (← e) (found n r (first_from_Range _ u f r (λ i. ok i ≡ false) (λ i. ok i ≡ true) ran
      (λ x q k. not-true (ok x) (sym (called x true q k).1))
      (λ x q k. ((called x false q k).0, not-false (ok x) (sym (called x false q k).1)))))
