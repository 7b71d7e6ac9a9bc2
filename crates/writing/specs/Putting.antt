-- Laws of text that is put after text into a lent buffer, cut where the buffer ends, and of text for which there is room.
-- What is cut once is not cut again: the cut of a cut text with more after it is the cut of the whole.
use Rattle.std.specs.Prelude.{◌≡◌, refl, ℕ, zero, suc, ◌+◌, ◌-◌, ◌*◌, ◌/◌, ◌≤◌, ◌<◌, min, List, [], ◌∷◌, ◌++◌, length, set, take, drop}
use Rattle.std.proofs.Common.{sym, ◌∙◌, ap, ap₂, mul-le-mul_left, arith, add-one, append_assoc, append-nil, length-append, length-take, length-drop, take-append-drop, take_all, take_at, take-take, drop_at, drop-drop, length-take-le}
use Rattle.std.proofs.Math.Seq.{slice, append_snoc, take-append-add, drop-append-add}
use Rattle.std.proofs.Math.Nat.{min_comm}
use Rattle.std.proofs.lemmas.List.{take-append-le, take_min, drop_all, set_split}
use borrow.Rule.Slice.PartMut.{put_mid, mid_of}
use Rattle.std.specs.Int.{w32, to_le_bytes}
use Rattle.model.specs.Buffers.{Holds, copied}
use Rattle.model.specs.Bytes.{number_bytes}
use Rattle.guarantee.specs.Tables.{same_further}
use Rattle.guarantee.specs.ReadsBack.{number_length}

cut_again : (n : ℕ) (x y : List ℕ) → take n (take n x ++ y) ≡ take n (x ++ y)
cut_again zero x y = refl
cut_again (suc n) [] y = refl
cut_again (suc n) (a ∷ x) y = ap (λ r. a ∷ r) (cut_again n x y)

-- where a text ends that was put from a place on: after it, or where the buffer ends
pub ends : {a b : List ℕ} (at : ℕ) (l : List ℕ) {n : ℕ} → Holds a b n (take at a ++ l) → n ≡ min (length a) (at + length l)
ends {a} {b} at l {n} h =
    let size = sym (length-take-le n b h.within) ∙ ap length h.front ∙ length-take (length b) (take at a ++ l) in
    omega (arith, size, h.long, length-append (take at a) l, length-take at a)

-- text that is another's equal
pub same : {a b x y : List ℕ} {n : ℕ} → x ≡ y → Holds a b n x → Holds a b n y
same e h = rw e at h

-- nothing
pub nothing : (a : List ℕ) (at : ℕ) {l : List ℕ} → l ≡ [] → at ≤ length a → Holds a a at (take at a ++ l)
nothing a at e h =
    let stands : Holds a a at (take at a) =
    record {
      long = refl;
      within = h;
      front = sym (take_all (length a) (take at a) (omega (arith, length-take-le at a h)));
      rest = refl;
    } in
    same (sym (append-nil (take at a)) ∙ ap (λ t. take at a ++ t) (sym e)) stands

-- text after text
pub more : {a b c x : List ℕ} (y : List ℕ) {m n : ℕ} → Holds a b m x → Holds b c n (take m b ++ y) → Holds a c n (x ++ y)
more {a} {b} {c} {x} y {m} {n} h k =
    record {
      long = k.long ∙ h.long;
      within = k.within;
      front = k.front ∙ rw (h.front, k.long) (cut_again (length b) x y);
      rest = k.rest ∙ same_further a b m n (omega (arith, ends m y k, h.within)) h.rest;
    }

-- text after text that was put from a place on
pub after
    : {a b c : List ℕ} (at : ℕ) (x y : List ℕ) {m n : ℕ} → Holds a b m (take at a ++ x) → Holds b c n (take m b ++ y)
    → Holds a c n (take at a ++ (x ++ y))
after {a} at x y h k = same (append_assoc (take at a) x y) (more y h k)

-- where the buffer is full, more text changes nothing
pub full : {a b x : List ℕ} (y : List ℕ) {n : ℕ} → Holds a b n x → length b ≤ n → Holds a b n (x ++ y)
full {a} {b} {x} y {n} h l =
    record {
      long = h.long;
      within = h.within;
      front = h.front ∙ sym (take-append-le (length b) x y (omega (arith, ends 0 x h, h.long)));
      rest = h.rest;
    }

-- text for which there is room

-- a buffer that is the text and, behind it, what stood there
pub parted : {a b : List ℕ} (text : List ℕ) {n : ℕ} → n ≡ length text → n ≤ length a → b ≡ text ++ drop n a → Holds a b n text
parted {a} {b} text {n} e l is =
    let long : length b ≡ length a = ap length is ∙ length-append text (drop n a) ∙ omega (arith, length-drop n a) in
    record {
      long = long;
      within = omega arith;
      front = (ap (take n) is ∙ take_at text (drop n a) n (sym e)) ∙ sym (take_all (length b) text (omega arith));
      rest = ap (drop n) is ∙ drop_at text (drop n a) n (sym e);
    }

-- one entry
pub one : (a : List ℕ) (i x : ℕ) → i < length a → Holds a (set a i x) (i + 1) (take i a ++ (x ∷ []))
one a i x l =
    parted (take i a ++ (x ∷ [])) (omega (arith, length-append (take i a) (x ∷ []), length-take-le i a (omega arith))) (omega arith)
    (set_split a i x l ∙ ap (λ n. take i a ++ (x ∷ drop n a)) (sym (add-one i)) ∙ sym (append_snoc (take i a) x (drop (i + 1) a)))

module _ {a b text : List ℕ} {n : ℕ} (h : Holds a b n text) where
  -- it is not cut
  pub uncut : length text ≤ length a → take n b ≡ text
  uncut room = h.front ∙ take_all (length b) text (omega (arith, h.long))

  -- the buffer is the model's
  pub is_copied : length text ≤ length a → b ≡ copied text a
  is_copied room =
      let end : n ≡ length text = omega (arith, ends 0 text h) in
      sym (take-append-drop n b)
      ∙ ap₂ ◌++◌ (uncut room ∙ sym (take_all (length a) text room)) (h.rest ∙ ap (λ k. drop k a) end)

  -- it is all there is
  pub filled : length text ≡ length a → b ≡ text
  filled e = sym (take_all n b (omega (arith, ends 0 text h, h.long))) ∙ uncut (omega arith)

module _ {a b : List ℕ} (at : ℕ) (l : List ℕ) {n : ℕ} (h : Holds a b n (take at a ++ l)) (room : at + length l ≤ length a) where
  front_is : take n b ≡ take at a ++ l
  front_is = uncut h (omega (arith, length-append (take at a) l, length-take at a))

  front_length : length (take at a) ≡ at
  front_length = length-take-le at a (omega arith)

  -- what stands from the place on
  pub held_text : slice at n b ≡ l
  held_text = ap (drop at) front_is ∙ drop_at (take at a) l at front_length

  -- another text in its place, as far or further
  pub over : {c : List ℕ} (m : List ℕ) {k : ℕ} → Holds b c k (take at b ++ m) → n ≤ k → Holds a c k (take at a ++ m)
  over {c} m {k} g far =
      let before : take at b ≡ take at a =
      sym (take-take at n b (omega (arith, ends at l h))) ∙ ap (take at) front_is ∙ take_at (take at a) l at front_length in
      record {
        long = g.long ∙ h.long;
        within = g.within;
        front = g.front ∙ ap (λ t. take (length c) (t ++ m)) before;
        rest = g.rest ∙ same_further a b n k far h.rest;
      }

-- where a number ends
pub number_ends
    : {a b : List ℕ} (at width x : ℕ) {n : ℕ} → Holds a b n (take at a ++ number_bytes width x)
    → (n ≡ min (length a) (at + width)) × (length b ≡ length a)
number_ends at width x h = (omega (arith, ends at (number_bytes width x) h, number_length width x), h.long)

-- a loop that puts part after part: k of n parts are put, and the text of so many stands after the front of `out₀`. The parts 1 and 2, 3
-- put from 1 on into 7, 8, 8, 8, 8 are 7, 1, 2, 3, 8, and `to` is 4
pub record Grown (text : ℕ → List ℕ) (n : ℕ) (out₀ : List ℕ) (at : ℕ) (out : List ℕ) (to k : ℕ) : Type 0 where
  pub there : k ≤ n
  pub put : Holds out₀ out to (take at out₀ ++ text k)

module _ {text : ℕ → List ℕ} {n : ℕ} {out₀ : List ℕ} {at : ℕ} where
  pub grown_starts : text 0 ≡ [] → at ≤ length out₀ → Grown text n out₀ at out₀ at 0
  grown_starts none h = record { there = omega arith; put = nothing out₀ at none h }

  module _ {out : List ℕ} {to k : ℕ} (h : Grown text n out₀ at out to k) where
    pub grown_goes_on
        : {out' : List ℕ} {to' : ℕ} (part : List ℕ) → k < n → text (k + 1) ≡ text k ++ part → Holds out out' to' (take to out ++ part)
        → Grown text n out₀ at out' to' (k + 1)
    grown_goes_on part l next g =
        record { there = omega arith; put = rw next (after at (text k) part h.put g) }

    -- there is room for the next part where there is for all, of so many bytes each
    pub grown_room : (width : ℕ) → length (text k) ≡ width * k → k < n → at + width * n ≤ length out₀ → to + width ≤ length out
    grown_room width size l room =
        omega (arith, ends at (text k) h.put, h.put.long, size, mul-le-mul_left width l)

    pub grown_ends : n ≤ k → Holds out₀ out to (take at out₀ ++ text n)
    grown_ends l = let e : k ≡ n = omega (arith, h.there) in rw e at h.put

    -- the buffer is full before all are put
    pub grown_full : (rest : List ℕ) → text n ≡ text k ++ rest → length out ≤ to → Holds out₀ out to (take at out₀ ++ text n)
    grown_full rest e l = rw e (same (append_assoc (take at out₀) (text k) rest) (full rest h.put l))

-- as much of a text as there is room for, stored from a place on
pub stored
    : (a : List ℕ) (at k n : ℕ) (text part : List ℕ) → at ≤ length a → k ≡ n → n ≡ min (length text) (length a - at)
    → part ≡ take n text
    → Holds a (put_mid at k a part) (at + n) (take at a ++ text)
stored a at k n text part h e size is =
    let m = length a - at in
    let front : length (take at a) ≡ at = length-take-le at a h in
    let long : length part ≡ n = ap length is ∙ length-take n text ∙ omega (arith, size) in
    let whole : take m part ≡ take m text =
    ap (take m) (is ∙ ap (λ j. take j text) (size ∙ min_comm (length text) m) ∙ take_min m text) ∙ take-take m m text (omega arith) in
    let cut : (l : List ℕ) → take (length a) (take at a ++ l) ≡ take at a ++ take m l =
    λ l. ap (λ j. take j (take at a ++ l)) (omega (arith, front)) ∙ take-append-add (take at a) l m in
    let rest : drop k (drop at a) ≡ drop (at + n) a = drop-drop k at a ∙ ap (λ j. drop j a) (omega (arith, e)) in
    let p = parted (take at a ++ part) (omega (arith, length-append (take at a) part, front, long)) (omega (arith, size))
    (ap (λ l. take at a ++ (part ++ l)) rest ∙ sym (append_assoc (take at a) part (drop (at + n) a))) in
    record {
      long = p.long;
      within = p.within;
      front =
          p.front ∙ ap (λ j. take j (take at a ++ part)) p.long
          ∙ cut part ∙ ap (λ l. take at a ++ l) whole ∙ sym (cut text)
          ∙ ap (λ j. take j (take at a ++ text)) (sym p.long);
      rest = p.rest;
    }

-- a text that was put on what stands from a place on
pub behind
    : (a : List ℕ) (at k : ℕ) {part text : List ℕ} {n : ℕ} → at + k ≡ length a → Holds (mid_of at k a) part n text
    → Holds a (put_mid at k a part) (at + n) (take at a ++ text)
behind a at k {part} {text} {n} e h =
    let all : mid_of at k a ≡ drop at a = take_all k (drop at a) (omega (arith, length-drop at a)) in
    let none : drop k (drop at a) ≡ [] = drop_all k (drop at a) (omega (arith, length-drop at a)) in
    let b : List ℕ = take at a ++ part in
    let same : put_mid at k a part ≡ b = ap (λ l. take at a ++ (part ++ l)) none ∙ ap (λ l. take at a ++ l) (append-nil part) in
    let front : length (take at a) ≡ at = length-take-le at a (omega arith) in
    let size : length part ≡ k = h.long ∙ ap length all ∙ omega (arith, length-drop at a) in
    let long : length b ≡ length a = omega (arith, length-append (take at a) part, front, size) in
    let is : Holds a b (at + n) (take at a ++ text) =
    record {
      long = long;
      within = omega (arith, long, h.within, size);
      front =
          ap (λ j. take j b) (omega (arith, front)) ∙ take-append-add (take at a) part n
          ∙ ap (λ l. take at a ++ l) h.front
          ∙ sym (ap (λ j. take j (take at a ++ text)) (omega (arith, front, long, size)) ∙ take-append-add (take at a) text (length part));
      rest =
          ap (λ j. drop j b) (omega (arith, front)) ∙ drop-append-add (take at a) part n
          ∙ h.rest ∙ ap (drop n) all ∙ drop-drop n at a;
    } in
    rw (← same) at is

-- the lowest bytes of a number, of which there are no more than so many
third : (x : ℕ) → x / 65536 ≡ x / 256 / 256
third x = omega arith

fourth : (x : ℕ) → x / 16777216 ≡ x / 256 / 256 / 256
fourth x = omega arith

pub low_bytes : (width x : ℕ) → width ≤ 4 → take width (to_le_bytes w32 x) ≡ take width (number_bytes width x)
unfolding number_bytes
low_bytes zero x h = refl
low_bytes (suc zero) x h = refl
low_bytes (suc (suc zero)) x h = refl
low_bytes (suc (suc (suc zero))) x h = rw (third x) refl
low_bytes (suc (suc (suc (suc zero)))) x h = rw (third x, fourth x) refl
low_bytes (suc (suc (suc (suc (suc n))))) x h = absurd (omega arith)
