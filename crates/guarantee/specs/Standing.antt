-- A part stands at a place of a file: numbers read back, and of parts in a row each stands at its own place.
-- What is left of the file from the place on begins with the part; so a read asks for no bound of an index.
use Rattle.std.specs.Prelude.{◌≡◌, refl, ℕ, zero, suc, ◌+◌, ◌*◌, ◌/◌, ◌%◌, ◌<◌, List, [], ◌∷◌, ◌++◌, ◌⊎◌, length, get_or, drop}
use Rattle.std.proofs.Common.{sym, ◌∙◌, ap, ap₂, subst, eq-or-lt_of_le, le_of_suc-le-suc, add-one, arith, append-nil, append_assoc, inl, inr, length-append, drop-drop, get_or-drop}
use Rattle.std.proofs.Math.Seq.{drop-append_seam}
use Rattle.model.specs.Bytes.{u16_at, u32_at, number_bytes}
use Rattle.model.specs.Encoding.{parts_to}
use Rattle.guarantee.specs.ReadsBack.{number_length}

pub record At (f : List ℕ) (i : ℕ) (l : List ℕ) : Type 0 where
  rest : List ℕ
  begins : drop i f ≡ l ++ rest

pub at_whole : (f : List ℕ) → At f 0 f
at_whole f = record { rest = []; begins = sym (append-nil f) }

-- what is left of a file from the place on is a file too
pub at_inside : {f l : List ℕ} {i : ℕ} → At f i l → At (drop i f) 0 l
at_inside h = record { rest = h.rest; begins = h.begins }

pub at_moved : {f l : List ℕ} {i : ℕ} → At f i l → (j : ℕ) → i ≡ j → At f j l
at_moved {f} {l} h j e = subst (λ n. At f n l) e h

-- two parts in a row

pub at_left : {f : List ℕ} {i : ℕ} (a b : List ℕ) → At f i (a ++ b) → At f i a
at_left a b h = record { rest = b ++ h.rest; begins = h.begins ∙ append_assoc a b h.rest }

pub at_right : {f : List ℕ} {i : ℕ} (a b : List ℕ) (j : ℕ) → i + length a ≡ j → At f i (a ++ b) → At f j b
at_right {f} {i} a b j e h =
    record {
      rest = h.rest;
      begins =
          ap (λ n. drop n f) (sym e) ∙ sym (drop-drop (length a) i f)
          ∙ ap (drop (length a)) (h.begins ∙ append_assoc a b h.rest) ∙ drop-append_seam a (b ++ h.rest);
    }

-- a byte, and what follows it
module _ {f : List ℕ} {i : ℕ} (x : ℕ) (l : List ℕ) (h : At f i (x ∷ l)) where
  pub byte_read : get_or f i 0 ≡ x
  byte_read =
      let e : i ≡ i + 0 = omega arith in
      ap (λ n. get_or f n 0) e ∙ sym (get_or-drop i f 0 0) ∙ ap (λ b. get_or b 0 0) h.begins

  pub byte_then : At f (i + 1) l
  byte_then = at_right (x ∷ []) l (i + 1) refl h

-- a number in so many bytes, and what follows it
module _ (width x : ℕ) (l : List ℕ) where
  pub number_here : {f : List ℕ} {i : ℕ} → At f i (number_bytes width x ++ l) → At f i (number_bytes width x)
  number_here = at_left (number_bytes width x) l

  pub number_then : {f : List ℕ} {i : ℕ} → At f i (number_bytes width x ++ l) → At f (i + width) l
  number_then {f} {i} = at_right (number_bytes width x) l (i + width) (ap (λ n. i + n) (number_length width x))

-- numbers read back

two_bytes : {f : List ℕ} {i : ℕ} (a b : ℕ) (l : List ℕ) → At f i (a ∷ b ∷ l) → u16_at f i ≡ a + 256 * b
unfolding u16_at
two_bytes a b l h = ap₂ (λ x y. x + 256 * y) (byte_read a (b ∷ l) h) (byte_read b l (byte_then a (b ∷ l) h))

pub u16_at_lem : {f : List ℕ} {i : ℕ} (x : ℕ) → At f i (number_bytes 2 x) → x < 65536 → u16_at f i ≡ x
unfolding number_bytes
u16_at_lem x h l = omega (arith, two_bytes (x % 256) (x / 256 % 256) [] h)

pub u32_at_lem : {f : List ℕ} {i : ℕ} (x : ℕ) → At f i (number_bytes 4 x) → x < 4294967296 → u32_at f i ≡ x
unfolding number_bytes u32_at
u32_at_lem {f} {i} x h l =
    let a = x % 256 in
    let b = x / 256 % 256 in
    let c = x / 256 / 256 % 256 in
    let d = x / 256 / 256 / 256 % 256 in
    let high = at_right (a ∷ b ∷ []) (c ∷ d ∷ []) (i + 2) refl h in
    omega (arith, two_bytes a b (c ∷ d ∷ []) h, two_bytes c d [] high)

-- parts in a row

pub parts_next : (g : ℕ → List ℕ) (k : ℕ) → parts_to g (k + 1) ≡ parts_to g k ++ g k
unfolding parts_to
parts_next g k = rw (add-one k) refl

pub parts_length
    : (g : ℕ → List ℕ) (size : ℕ → ℕ) → size 0 ≡ 0 → ((j : ℕ) → size (suc j) ≡ size j + length (g j)) → (k : ℕ)
    → length (parts_to g k) ≡ size k
unfolding parts_to
parts_length g size none next zero = sym none
parts_length g size none next (suc k) =
    omega (arith, parts_length g size none next k, next k, length-append (parts_to g k) (g k))

part_stands
    : {f : List ℕ} {i : ℕ} (g : ℕ → List ℕ) (k : ℕ) → At f i (parts_to g k) → (j : ℕ) → j < k
    → At f (i + length (parts_to g j)) (g j)
unfolding parts_to
part_stands g zero h j l = absurd (omega arith)
part_stands {f} {i} g (suc k) h j l =
    go (eq-or-lt_of_le (le_of_suc-le-suc l)) (part_stands g k (at_left (parts_to g k) (g k) h) j)
  where
    go : (j ≡ k) ⊎ (j < k) → (j < k → At f (i + length (parts_to g j)) (g j)) → At f (i + length (parts_to g j)) (g j)
    go (inl e) before =
        subst (λ n. At f (i + length (parts_to g n)) (g n)) (sym e)
        (at_right (parts_to g k) (g k) (i + length (parts_to g k)) refl h)
    go (inr m) before = before m

pub parts_same : (g h : ℕ → List ℕ) (k : ℕ) → ((j : ℕ) → j < k → g j ≡ h j) → parts_to g k ≡ parts_to h k
unfolding parts_to
parts_same g h zero same = refl
parts_same g h (suc k) same = ap₂ ◌++◌ (parts_same g h k (λ j l. same j (omega arith))) (same k (omega arith))

-- a section: its count, and parts in a row behind it

pub count_read
    : {f : List ℕ} {i j : ℕ} (n : ℕ) (l : List ℕ) → j ≡ i → n < 65536 → At f i (number_bytes 2 n ++ l) → u16_at f j ≡ n
count_read {f} n l e small h = ap (u16_at f) e ∙ u16_at_lem n (number_here 2 n l h) small

pub item_stands
    : {f : List ℕ} {i : ℕ} (n : ℕ) (g : ℕ → List ℕ) (k : ℕ) → At f i (number_bytes 2 n ++ parts_to g k) → (j : ℕ) → j < k
    → At f (i + 2 + length (parts_to g j)) (g j)
item_stands n g k h = part_stands g k (number_then 2 n (parts_to g k) h)

pub section_same
    : (g h : ℕ → List ℕ) {m n k l : ℕ} → m ≡ n → k ≡ l → ((j : ℕ) → j < k → g j ≡ h j)
    → number_bytes 2 m ++ parts_to g k ≡ number_bytes 2 n ++ parts_to h l
section_same g h {k = k} counts e same = rw (counts, ← e, parts_same g h k same) refl
