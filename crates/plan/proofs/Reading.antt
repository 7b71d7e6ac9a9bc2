-- Laws of a file of which as much was read as there was room for: that tells whether it is just as long as anything shorter than the room.
use mathlib.Core.Path.{◌≡◌, refl, sym, ◌∙◌, ap}
use Prim.Native.Nat.{ℕ, ◌*◌, ◌<◌, min}
use native.Mathlib.Omega.{arith}
use mathlib.Core.Bool.{Bool, true, false}
use mathlib.Core.List.{List}
use lib.Dec.{eqb}
use lib.ListN.{length, take, length-take}
use borrow.Author.Tests.{eq-eqb, ne_eqb, eqb-true, eqb-false}
use Rattle.model.specs.Buffers.{ReadOf}
use Rattle.model.specs.Limits.{max_states}
use Rattle.plan.specs.Names.{Shows}
use Rattle.std.specs.Prelude.{Some, Ok}

-- two numbers that are m together have one answer to whether they are
same_answer : (a b m : ℕ) → (a ≡ m → b ≡ m) → (b ≡ m → a ≡ m) → eqb a m ≡ eqb b m
same_answer a b m there back = go (eqb a m) refl
  where
    go : (t : Bool) → eqb a m ≡ t → eqb a m ≡ eqb b m
    go true e = e ∙ sym (eq-eqb b m (there (eqb-true a m e)))
    go false e = e ∙ sym (ne_eqb b m (λ k. eqb-false a m e (back k)))

module _ (f buffer : List ℕ) (n : ℕ) (read : ReadOf f buffer n) where
  as_long : (m : ℕ) → m < length buffer → eqb (length (take n buffer)) m ≡ eqb (length f) m
  as_long m l =
      let cut : min (length buffer) (length f) ≡ length (take n buffer) = sym (length-take (length buffer) f) ∙ ap length read in
      same_answer (length (take n buffer)) (length f) m (λ e. omega (arith, cut)) (λ e. omega (arith, cut))

  pub shows : 4 * max_states < length buffer → Shows f (Ok (Some (length (take n buffer))))
  shows wide =
      record {
        takes_as_long = λ m l. as_long m (omega arith);
        clears_as_long = λ m l. rw (as_long 0 (omega arith), as_long m (omega arith)) refl;
      }
