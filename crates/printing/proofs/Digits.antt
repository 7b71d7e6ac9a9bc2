-- The decimal of the model is std's: both write a digit alone, or the digits of n / 10 and then the last one. It is the fewest digits in
-- base 10 that hold the number: by induction on the fuel, a number below ten is one digit, and a longer one is the digits of n / 10 and the
-- last digit.
use mathlib.Core.Path.{◌≡◌, refl}
use Prim.Native.Nat.{ℕ, zero, suc, ◌-◌, ◌*◌, ◌/◌, ◌%◌, ◌^◌, ◌≤◌, ◌<◌}
use native.Mathlib.Omega.{arith}
use native.Mathlib.Nat.{pow-suc}
use borrow.Author.Tests.{lt-ltb, le-ltb}
use Rattle.io.specs.Digits.{last_digits, IsDigitCount}
use Rattle.std.specs.Fmt.{decimal as std_decimal}
use Rattle.std.proofs.lemmas.Fmt.{AppendsLastDigit, decimal_from_appends, length-decimal-le_succ}
use Rattle.model.specs.Lines.{decimal, decimal_from}

appends : AppendsLastDigit decimal_from
unfolding decimal_from
appends = record { one = λ k n small. rw (lt-ltb n 10 small) refl; more = λ k n large. rw (le-ltb n 10 large) refl }

pub decimal_std : (n : ℕ) → n < 2 ^ 64 → decimal n ≡ std_decimal n
unfolding decimal
decimal_std n fits = decimal_from_appends decimal_from appends (suc n) n fits (omega (arith, length-decimal-le_succ n fits))

ten_power : (k : ℕ) → 1 ≤ 10 ^ k
ten_power zero = omega arith
ten_power (suc k) = rw (pow-suc 10 k) (omega (arith, ten_power k))

digits_from : (fuel k n : ℕ) → n < fuel → n < 10 ^ suc k → (0 < k → 10 ^ k ≤ n) → last_digits 10 (suc k) n ≡ decimal_from fuel n
unfolding decimal_from
digits_from zero k n f high low = absurd (omega arith)
digits_from (suc fuel) zero n f high low =
    let small : n < 10 = high in
    let e : n % 10 ≡ n = omega arith in
    rw (e, lt-ltb n 10 small) refl
digits_from (suc fuel) (suc k) n f high low =
    let P = 10 ^ k in
    let top : n < P * 10 * 10 = rw (pow-suc 10 (suc k), pow-suc 10 k) at high in
    let bottom : P * 10 ≤ n = rw (pow-suc 10 k) at (low (omega arith)) in
    let first : last_digits 10 (suc k) (n / 10) ≡ decimal_from fuel (n / 10) =
    digits_from fuel k (n / 10) (omega (arith, ten_power k)) (rw (pow-suc 10 k) (omega arith)) (λ z. omega arith) in
    rw (le-ltb n 10 (omega (arith, ten_power k)), lt-ltb (n % 10) 10 (omega arith), first) refl

pub decimal_digits : (n k : ℕ) → IsDigitCount 10 1 n k → last_digits 10 k n ≡ decimal n
unfolding decimal
decimal_digits n zero h = absurd (omega (arith, h.0))
decimal_digits n (suc k) h =
    let e : suc k - 1 ≡ k = omega arith in
    digits_from (suc n) k n (omega arith) h.1 (λ z. rw e at (h.2 (omega arith)))
