-- What holds along the traversal of a state's rows. One induction on the rows, over two traversals side by side, in a relation that knows
-- the row that comes next; all other laws are its cases.
use Rattle.std.specs.Prelude.{◌≡◌, Bool, not}
use Rattle.std.proofs.Math.Path.{refl}
use Rattle.std.proofs.Common.{sym, ◌∙◌, ap, eq-or-lt_of_le, true≢false, ⊎_elim}
use Prim.Native.Nat.{ℕ, zero, suc, ◌+◌, ◌≤◌, ◌<◌}
use native.Mathlib.Omega.{arith}
use Rattle.std.proofs.Math.Bool.{true, false}
use Rattle.std.proofs.Math.Dec.{eqb}
use borrow.Author.Tests.{eqb-true, eqb-false}
use Rattle.model.specs.Problem.{Problem, end_row, own_row}
use Rattle.model.specs.Rounds.{taken_if, others_from, traverse}
use Rattle.guarantee.specs.Rows.{own_low, own_high, own_within}

-- the others: a row is taken, or it is the one picked before and passed over
module _ {A B : Type 0} (f : ℕ → A → A) (g : ℕ → B → B) (prev : ℕ) (R : ℕ → A → B → Type 0) where
  others_both
      : (k r : ℕ) (a : A) (b : B)
      → ((i : ℕ) (a : A) (b : B) → r ≤ i → i < r + k → (i ≡ prev → ⊥) → R i a b → R (suc i) (f i a) (g i b))
      → ((a : A) (b : B) → r ≤ prev → prev < r + k → R prev a b → R (suc prev) a b)
      → R r a b → R (r + k) (others_from f prev r k a) (others_from g prev r k b)
  unfolding others_from taken_if
  others_both zero r a b taken passed h = let end : r + 0 ≡ r = omega arith in rw end h
  others_both (suc k) r a b taken passed h =
      let end : r + suc k ≡ suc r + k = omega arith in
      rw end
      (others_both k (suc r) _ _ (λ i a b low high. taken i a b (omega arith) (omega arith))
      (λ a b low high. passed a b (omega arith) (omega arith)) (go (eqb r prev) refl))
    where
      go : (same : Bool) → eqb r prev ≡ same → R (suc r) (taken_if f (not same) r a) (taken_if g (not same) r b)
      go true e =
          let at : r ≡ prev = eqb-true r prev e in rw at (passed a b (omega arith) (omega arith) (rw at at h))
      go false e = taken r a b (omega arith) (omega arith) (eqb-false r prev e) h

-- what each of the others keeps
pub others_keep
    : {A : Type 0} (f : ℕ → A → A) (prev k r : ℕ) (a : A) (P : A → Type 0) → ((i : ℕ) (a : A) → P a → P (f i a)) → P a
    → P (others_from f prev r k a)
others_keep f prev k r a P keeps h =
    others_both f f prev (λ i a b. P a) k r a a (λ i a b low high other. keeps i a) (λ a b low high l. l) h

-- the rows of a state
module _ (p : Problem) (s prev : ℕ) where
  pub traverse_both
      : {A B : Type 0} (f : ℕ → A → A) (g : ℕ → B → B) (R : ℕ → A → B → Type 0) (a : A) (b : B)
      → (own_row p s prev ≡ true → R (p.first_row s) (f prev a) (g prev b)) → (own_row p s prev ≡ false → R (p.first_row s) a b)
      → ((i : ℕ) (a : A) (b : B) → own_row p s i ≡ true → (i ≡ prev → ⊥) → R i a b → R (suc i) (f i a) (g i b))
      → ((a : A) (b : B) → own_row p s prev ≡ true → R prev a b → R (suc prev) a b)
      → R (end_row p s) (traverse f p s prev a) (traverse g p s prev b)
  unfolding traverse taken_if
  traverse_both f g R a b first none taken passed =
      others_both f g prev R (p.row_count s) (p.first_row s) _ _ (λ i a b low high. taken i a b (own_within p s i low high))
      (λ a b low high. passed a b (own_within p s prev low high)) (go (own_row p s prev) first none)
    where
      go : (own : Bool) → (own ≡ true → R (p.first_row s) (f prev a) (g prev b)) → (own ≡ false → R (p.first_row s) a b)
          → R (p.first_row s) (taken_if f own prev a) (taken_if g own prev b)
      go true first none = first refl
      go false first none = none refl

  -- what each own row keeps of both
  pub both_keep
      : {A B : Type 0} (f : ℕ → A → A) (g : ℕ → B → B) (R : A → B → Type 0) (a : A) (b : B)
      → ((i : ℕ) (a : A) (b : B) → own_row p s i ≡ true → R a b → R (f i a) (g i b)) → R a b
      → R (traverse f p s prev a) (traverse g p s prev b)
  both_keep f g R a b keeps h =
      traverse_both f g (λ i. R) a b (λ own. keeps prev a b own h) (λ none. h) (λ i a b own other. keeps i a b own) (λ a b own k. k)

  module _ {A : Type 0} (f : ℕ → A → A) (a : A) where
    -- what holds along one
    pub traverse_along
        : (R : ℕ → A → Type 0) → (own_row p s prev ≡ true → R (p.first_row s) (f prev a)) → (own_row p s prev ≡ false → R (p.first_row s) a)
        → ((i : ℕ) (a : A) → own_row p s i ≡ true → (i ≡ prev → ⊥) → R i a → R (suc i) (f i a))
        → ((a : A) → own_row p s prev ≡ true → R prev a → R (suc prev) a) → R (end_row p s) (traverse f p s prev a)
    traverse_along R first none taken passed =
        traverse_both f f (λ i a b. R i a) a a first none (λ i a b. taken i a) (λ a b. passed a)

    -- what each own row keeps
    pub traverse_keeps
        : (P : A → Type 0) → ((i : ℕ) (a : A) → own_row p s i ≡ true → P a → P (f i a)) → P a → P (traverse f p s prev a)
    traverse_keeps P keeps h = both_keep f f (λ a b. P a) a a (λ i a b. keeps i a) h

    -- what holds of a row once it is taken, and stays, holds of every own row
    pub traverse_every
        : (P : ℕ → A → Type 0) → ((i : ℕ) (a : A) → own_row p s i ≡ true → P i (f i a))
        → ((i j : ℕ) (a : A) → own_row p s j ≡ true → P i a → P i (f j a)) → (i : ℕ) → own_row p s i ≡ true
        → P i (traverse f p s prev a)
    traverse_every P taken stays i own =
        (traverse_along
        (λ j a. (own_row p s prev ≡ true → P prev a) × ((i : ℕ) → p.first_row s ≤ i → i < j → P i a))
        (λ own. (λ o. taken prev a own, λ i low high. absurd (omega arith)))
        (λ none. (λ o. absurd (true≢false (sym o ∙ none)), λ i low high. absurd (omega arith)))
        (λ j a own other h. (
          λ o. stays prev j a own (h.0 o),
          λ i low high.
              ⊎_elim (λ at. let same : i ≡ j = omega (arith, at) in rw same (taken j a own))
              (λ l. stays i j a own (h.1 i low (omega arith))) (eq-or-lt_of_le high),
        ))
        (λ a own h. (
          h.0,
          λ i low high.
              ⊎_elim (λ at. let same : i ≡ prev = omega (arith, at) in rw same (h.0 own)) (λ l. h.1 i low (omega arith))
              (eq-or-lt_of_le high),
        ))
        ).1 i (own_low p s i own) (own_high p s i own)

    -- rows that change nothing, once the one picked before was taken
    pub traverse_idle
        : {b : A} → (own_row p s prev ≡ true → f prev a ≡ b) → (own_row p s prev ≡ false → a ≡ b)
        → ((i : ℕ) → own_row p s i ≡ true → (i ≡ prev → ⊥) → f i b ≡ b) → traverse f p s prev a ≡ b
    traverse_idle {b} first none idle =
        traverse_along (λ i x. x ≡ b) first none (λ i x own other e. ap (f i) e ∙ idle i own other) (λ x own e. e)
