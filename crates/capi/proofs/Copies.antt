-- Copying the front of one list over the front of another: one element more, and the end.
use mathlib.Core.Path.{◌≡◌, ◌∙◌, sym, ap}
use Prim.Native.Nat.{ℕ, suc, ◌+◌, ◌≤◌, ◌<◌, min}
use native.Mathlib.Omega.{arith}
use native.Mathlib.Numerals.{add-one}
use mathlib.Core.List.{List, ◌++◌}
use lib.ListN.{length, get_or, set, take, drop}
use lib.Seq.{take-suc, drop-cons, set_at, length-take-le, append_snoc}
use Rattle.std.proofs.Common.{ap₂}
use Rattle.std.proofs.lemmas.List.{take_min, drop_min}
use Rattle.model.specs.Buffers.{copied}

-- the front i of `from` stands at the front of `to`
abbrev pub copied_to : List ℕ → List ℕ → ℕ → List ℕ
copied_to from to i = take i from ++ drop i to

pub copy_more
    : (from to : List ℕ) (i : ℕ) → i < length from → i < length to → set (copied_to from to i) i (get_or from i 0) ≡ copied_to from to (i + 1)
copy_more from to i h l =
    rw (drop-cons to i 0 l)
    (set_at (take i from) (get_or to i 0) (drop (suc i) to) (get_or from i 0) i (length-take-le i from (omega arith))
    ∙ rw (add-one i, take-suc from i 0 h) (sym (append_snoc (take i from) (get_or from i 0) (drop (suc i) to))))

-- the copy ends where one of the two does
pub copy_end : (from to : List ℕ) (i : ℕ) → i ≡ min (length from) (length to) → copied_to from to i ≡ copied from to
copy_end from to i e =
    let other : i ≡ min (length to) (length from) = omega arith in
    ap₂ ◌++◌ (ap (λ n. take n from) other ∙ take_min (length to) from) (ap (λ n. drop n to) e ∙ drop_min (length from) to)
