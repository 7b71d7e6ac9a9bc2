-- Laws of the lent tables: tables filled from the front, and what the walk list gets.
-- A filled table hangs on the filling values below its count only; the library's fill of a table's front is the same table.
use mathlib.Core.Path.{◌≡◌, refl, sym}
use Prim.Native.Nat.{ℕ, zero, suc, ◌-◌, ◌≤◌, ◌<◌}
use native.Mathlib.Omega.{arith}
use mathlib.Core.List.{List, ◌++◌}
use lib.ListN.{length, take, drop, replicate}
use lib.Seq.{length-take-le}
use borrow.Author.Fill.{fill_none, fill_more}
use borrow.Rule.Slice.PartMut.{put_mid}
use Rattle.std.proofs.Common.{rules, add-one}
use Rattle.std.proofs.lemmas.Slice.{overwrites}
use Rattle.model.specs.Limits.{list_end}
use Rattle.model.specs.Rounds.{fill_to, list_table}

-- filling with the same values gives the same table
pub fill_same : (g h : ℕ → ℕ) (l : List ℕ) (k : ℕ) → ((j : ℕ) → j < k → g j ≡ h j) → fill_to g l k ≡ fill_to h l k
unfolding fill_to
fill_same g h l zero same = refl
fill_same g h l (suc k) same = rw (fill_same g h l k (λ j b. same j (omega arith)), same k (omega arith)) refl

-- a front of n times x, and the rest of l, is l filled with x up to n
pub fill_with : (x : ℕ) (l : List ℕ) (n : ℕ) → n ≤ length l → replicate n x ++ drop n l ≡ fill_to (λ s. x) l n
unfolding fill_to
fill_with x l zero h = sym (fill_none l x)
fill_with x l (suc n) h = rw (← fill_with x l n (omega arith)) (sym (rw add-one at (fill_more n x l (omega arith))))

-- a table of which nothing is filled
pub fill_start : (g : ℕ → ℕ) (l : List ℕ) → l ≡ fill_to g l 0
unfolding fill_to
fill_start g l = refl

-- a list that was copied to the front of l and then ended: its first k entries, the mark of the end up to n, and the rest of l
pub list_put
    : (a l : List ℕ) (k n : ℕ) → k ≤ n → n ≤ length a → n ≤ length l
    → put_mid k (n - k) (take k a ++ drop k l) (replicate (n - k) list_end) ≡ list_table n (take k a) l
unfolding list_table
list_put a l k n h room long =
    let size : length (take k a) ≡ k = length-take-le k a (omega arith) in rw size (search (rules, overwrites))
