-- The first place that fails, sums over the places before one, and whether a number is one of a few.
use Rattle.std.specs.Prelude.{ℕ, zero, suc, ◌+◌, Bool, true, false, ◌||◌, List, [], ◌∷◌, eqb}

abbrev pub first_on : Bool → ℕ → ℕ → ℕ
first_on true i rest = rest
first_on false i rest = i

-- "Places are the first that fails": the first number from i on, of k, at which the test says no; i + k where it says yes at each
unfoldable pub first : (ℕ → Bool) → ℕ → ℕ → ℕ
first ok i zero = i
first ok i (suc k) = first_on (ok i) i (first ok (suc i) k)

-- g 0 + g 1 + .. + g (k - 1)
unfoldable pub sum_to : (ℕ → ℕ) → ℕ → ℕ
sum_to g zero = 0
sum_to g (suc k) = sum_to g k + g k

-- whether x is one of these: 3 is one of 1, 3
abbrev pub one_of : ℕ → List ℕ → Bool
one_of x [] = false
one_of x (y ∷ ys) = eqb x y || one_of x ys
