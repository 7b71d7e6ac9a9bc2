-- Laws of tables, read with default 0: what holds of all entries after a store, what a filled table holds, and a rule of a table
-- that is tested over the whole of it. No index bound is asked where a store beyond the end changes nothing.
use Rattle.std.specs.Prelude.{◌≡◌, refl, ℕ, zero, suc, ◌+◌, ◌-◌, ◌≤◌, ◌<◌, Bool, true, ◌&&◌, List, [], ◌∷◌, ◌++◌, eqb, get_or, set, length, take, drop}
use Rattle.std.proofs.Common.{sym, ap, ◌∙◌, add-one, arith, eqb-true, length-set, get_or-set_same, get_or-set_other, drop-drop, get_or-take, take-suc-set}
use Rattle.std.proofs.Math.Decide.{ℕ_discrete, dec_lt}
use Rattle.std.proofs.Math.Seq.{set_out}
use Rattle.model.specs.Rounds.{fill_to}
use Rattle.guarantee.specs.Searches.{and_left, and_right}

-- what holds of every entry, and of x at place i, holds of every entry after x is stored at i
pub stored : (P : ℕ → ℕ → Type 0) (l : List ℕ) (i x : ℕ) → ((j : ℕ) → P j (get_or l j 0)) → P i x → (j : ℕ) → P j (get_or (set l i x) j 0)
stored P l i x all one j = go (ℕ_discrete j i) (dec_lt i (length l))
  where
    go : Dec (j ≡ i) → Dec (i < length l) → P j (get_or (set l i x) j 0)
    go (no ne) d = rw (get_or-set_other l i j x 0 ne) (all j)
    go (yes e) (yes h) = rw e (rw (get_or-set_same l i x 0 h) one)
    go (yes e) (no h) = rw (set_out l i x (omega arith)) (all j)

-- what is the same from m on is the same further on
pub same_further : (a b : List ℕ) (m n : ℕ) → m ≤ n → drop m b ≡ drop m a → drop n b ≡ drop n a
same_further a b m n l e =
    let d : m + (n - m) ≡ n = omega arith in
    rw d at (sym (drop-drop (n - m) m b) ∙ ap (drop (n - m)) e ∙ drop-drop (n - m) m a)

pub fill_length : (g : ℕ → ℕ) (l : List ℕ) (k : ℕ) → length (fill_to g l k) ≡ length l
unfolding fill_to
fill_length g l zero = refl
fill_length g l (suc k) = length-set (fill_to g l k) k (g k) ∙ fill_length g l k

pub fill_entry : (g : ℕ → ℕ) (l : List ℕ) (k j : ℕ) → k ≤ length l → j < k → get_or (fill_to g l k) j 0 ≡ g j
unfolding fill_to
fill_entry g l zero j long h = absurd (omega arith)
fill_entry g l (suc k) j long h = go (ℕ_discrete j k) (λ b. fill_entry g l k j (omega arith) b)
  where
    go : Dec (j ≡ k) → (j < k → get_or (fill_to g l k) j 0 ≡ g j) → get_or (set (fill_to g l k) k (g k)) j 0 ≡ g j
    go (yes e) ih = rw e (get_or-set_same (fill_to g l k) k (g k) 0 (omega (arith, fill_length g l k)))
    go (no ne) ih = get_or-set_other (fill_to g l k) k j (g k) 0 ne ∙ ih (omega arith)

-- one entry more
pub fill_next : (g : ℕ → ℕ) (l : List ℕ) (k : ℕ) → fill_to g l (k + 1) ≡ set (fill_to g l k) k (g k)
unfolding fill_to
fill_next g l k = rw add-one

-- where the first n entries are the same, each of them is
pub front_entry : (n : ℕ) (l l' : List ℕ) → take n l ≡ take n l' → (i : ℕ) → i < n → get_or l i 0 ≡ get_or l' i 0
front_entry n l l' e i h = sym (get_or-take n l i 0 h) ∙ ap (λ a. get_or a i 0) e ∙ get_or-take n l' i 0 h

-- what is filled is the same in all tables that are long enough
pub fill_front
    : (g : ℕ → ℕ) (l l' : List ℕ) (k : ℕ) → k ≤ length l → k ≤ length l' → take k (fill_to g l k) ≡ take k (fill_to g l' k)
unfolding fill_to
fill_front g l l' zero h h' = refl
fill_front g l l' (suc k) h h' =
    take-suc-set (fill_to g l k) k (g k) (omega (arith, fill_length g l k))
    ∙ ap (λ a. a ++ (g k ∷ [])) (fill_front g l l' k (omega arith) (omega arith))
    ∙ sym (take-suc-set (fill_to g l' k) k (g k) (omega (arith, fill_length g l' k)))

-- two stores side by side
module _ (l : List ℕ) (i x y : ℕ) where
  pub pair_first : i < length l → get_or (set (set l i x) (i + 1) y) i 0 ≡ x
  pair_first h = get_or-set_other (set l i x) (i + 1) i y 0 (omega arith) ∙ get_or-set_same l i x 0 h

  pub pair_second : i + 1 < length l → get_or (set (set l i x) (i + 1) y) (i + 1) 0 ≡ y
  pair_second h = get_or-set_same (set l i x) (i + 1) y 0 (omega (arith, length-set l i x))

  pub pair_other : (j : ℕ) → (j ≡ i → ⊥) → (j ≡ i + 1 → ⊥) → get_or (set (set l i x) (i + 1) y) j 0 ≡ get_or l j 0
  pair_other j ne ne' = get_or-set_other (set l i x) (i + 1) j y 0 ne' ∙ get_or-set_other l i j x 0 ne

-- a test to compute over a whole table: its entries are g i, g (i + 1) and so on
abbrev pub tabulates : (ℕ → ℕ) → ℕ → List ℕ → Bool
tabulates g i [] = true
tabulates g i (x ∷ l) = eqb x (g i) && tabulates g (suc i) l

-- a table that passes it has the rule at each entry
pub tabulated : (g : ℕ → ℕ) (i : ℕ) (l : List ℕ) → tabulates g i l ≡ true → (k : ℕ) → k < length l → get_or l k 0 ≡ g (i + k)
tabulated g i [] t k h = absurd (omega arith)
tabulated g i (x ∷ l) t zero h = eqb-true _ _ (and_left (eqb x (g i)) _ t) ∙ ap g (omega arith)
tabulated g i (x ∷ l) t (suc k) h =
    tabulated g (suc i) l (and_right (eqb x (g i)) _ t) k (omega arith) ∙ ap g (omega arith)
