-- Laws for the loops that search: what is left of a search gives the same answer as the whole, one law per event of a loop.
use Rattle.std.specs.Prelude.{◌≡◌, ℕ, suc, ◌+◌, ◌-◌, ◌≤◌, ◌<◌, Bool, true, false}
use Rattle.std.proofs.Common.{arith, add-one}
use Rattle.model.specs.Search.{first}
use Rattle.guarantee.specs.Searches.{first_yes, first_no}

-- a difference that is not 0, as the definition recurses by it
pub left_is : (n i : ℕ) → i < n → n - i ≡ suc (n - (i + 1))
left_is n i h = omega arith

pub search_starts : (ok : ℕ → Bool) (n : ℕ) → first ok 0 n ≡ first ok 0 (n - 0)
search_starts ok n = let z : n - 0 ≡ n = omega arith in rw z

pub search_goes_on : (ok : ℕ → Bool) (n i : ℕ) → i < n → ok i ≡ true → first ok i (n - i) ≡ first ok (i + 1) (n - (i + 1))
search_goes_on ok n i h t = rw (left_is n i h, add-one) (first_yes ok i (n - suc i) t)

pub search_stops : (ok : ℕ → Bool) (n i : ℕ) → i < n → ok i ≡ false → first ok i (n - i) ≡ i
search_stops ok n i h t = rw (left_is n i h) (first_no ok i (n - (i + 1)) t)

pub search_ends : (ok : ℕ → Bool) (n i : ℕ) → i ≤ n → n ≤ i → first ok i (n - i) ≡ n
unfolding first
search_ends ok n i h l = let z : n - i ≡ 0 = omega arith in let e : i ≡ n = omega arith in rw z e
