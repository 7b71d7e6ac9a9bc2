-- What a page holds after something was put, and laws of it for functions that put more than one thing.
-- A page's text is what was put on it, cut where its buffer ends.
use Rattle.std.specs.Prelude.{◌≡◌, refl, ℕ, ◌+◌, ◌%◌, ◌≤◌, ◌<◌, List, [], ◌∷◌, ◌++◌, length, min, take}
use Rattle.std.proofs.Common.{◌∙◌, arith, length-append}
use Rattle.model.specs.Buffers.{Holds}
use Rattle.model.specs.Bytes.{number_bytes}
use Rattle.guarantee.specs.ReadsBack.{number_length}
use Rattle.writing.specs.Putting.{after, ends, nothing}
use Rattle.writing.specs.declared.page.Page.{Page}

-- the text stands after what the page held, in the same buffer
pub record Puts (before after : Page) (text : List ℕ) : Type 0 where
  pub buffer : after.out.ghost_name ≡ before.out.ghost_name
  pub held : Holds before.out.now after.out.now after.at (take before.at before.out.now ++ text)

-- there is room for so many bytes more
abbrev pub Room : Page → ℕ → Type 0
Room a n = a.at + n ≤ length a.out.now

-- nothing
pub puts_nothing : (a : Page) {text : List ℕ} → text ≡ [] → Puts a a text
puts_nothing a e = record { buffer = refl; held = nothing a.out.now a.at e a.within }

-- text after text
pub puts_more : {a b c : Page} {x y : List ℕ} → Puts a b x → Puts b c y → Puts a c (x ++ y)
puts_more {a} {x = x} {y = y} p q = record { buffer = q.buffer ∙ p.buffer; held = after a.at x y p.held q.held }

-- text that is another's equal
pub puts_same : {a b : Page} {x y : List ℕ} → x ≡ y → Puts a b x → Puts a b y
puts_same e p = rw e at p

-- where it ends
pub puts_ends : {a b : Page} {text : List ℕ} → Puts a b text → b.at ≡ min (length a.out.now) (a.at + length text)
puts_ends {a} {text = text} p = ends a.at text p.held

-- there is room for what follows where there was for both
pub puts_room : {a b : Page} {text : List ℕ} {m : ℕ} (n : ℕ) → Puts a b text → length text ≡ m → Room a (m + n) → Room b n
puts_room n p size room = omega (arith, puts_ends p, p.held.long, size)

pub puts_rest : {a b : Page} (x y : List ℕ) → Puts a b x → Room a (length (x ++ y)) → Room b (length y)
puts_rest x y p room = puts_room (length y) p refl (rw (length-append x y) at room)

-- and for the first of two
pub room_first : (a : Page) (x y : List ℕ) → Room a (length (x ++ y)) → Room a (length x)
room_first a x y room = omega (arith, length-append x y)

-- numbers: what follows one, and one of a single byte
pub number_room : {a b : Page} (width x n : ℕ) → Puts a b (number_bytes width x) → Room a (width + n) → Room b n
number_room width x n p room = puts_room n p (number_length width x) room

pub puts_byte : {a b : Page} {x y : ℕ} → Puts a b (number_bytes 1 x) → x < 256 → x ≡ y → Puts a b (y ∷ [])
unfolding number_bytes
puts_byte {x = x} p l e = let same : x % 256 ≡ x = omega arith in puts_same (rw (same, e) refl) p

-- what was put on a page that was begun on a buffer stands at the buffer's front
pub puts_whole
    : {out text : List ℕ} {a b : Page} {n : ℕ} → a.out.now ≡ out → a.at ≡ 0 → Puts a b text → n ≡ b.at
    → Holds out b.out.now n text
puts_whole value empty p size = rw (← size, value, empty) at p.held
