-- How long the lines can be: a number below 10 ^ k has at most k digits, and the lines add up their parts.
-- The longest text of a plan, and all sheets, fit in the room that is told.
use mathlib.Core.Path.{◌≡◌, refl}
use Prim.Native.Nat.{ℕ, zero, suc, ◌+◌, ◌*◌, ◌/◌, ◌%◌, ◌^◌, ◌≤◌, ◌<◌}
use native.Mathlib.Omega.{arith}
use native.Mathlib.Nat.{pow-suc}
use native.Mathlib.Numerals.{add-one}
use mathlib.Core.Bool.{Bool, true, false}
use mathlib.Core.List.{List, [], ◌∷◌, ◌++◌}
use lib.Dec.{ltb, eqb}
use lib.IntN.{ℤ, pos, negsuc}
use lib.ListN.{length, get_or, length-append}
use lib.Signed.{mag}
use borrow.Author.Tests.{ltb-false}
use Rattle.model.specs.Limits.{give_up, max_states, max_seconds, max_total}
use Rattle.model.specs.Limits.{min_rate, max_rate, rate_count, file_stick, stick_lengths}
use Rattle.model.specs.Lines.{codes, decimal_on, decimal_from, decimal, blank_number, blank_signed, pick_on, line_on}
use Rattle.model.specs.Audit.{Audited, accepted}
use Rattle.model.specs.Lines.{state_line, audit_line}
use Rattle.model.specs.Sections.{length_seconds}
use Rattle.model.specs.Sheets.{rate_line, rate_lines, sheet_text, sheets_to, all_sheets}
use Rattle.model.specs.Buffers.{line_most, state_most}
use Rattle.guarantee.specs.Rates.{seconds_high}
use Rattle.printing.specs.Texts.{numbered}
use Rattle.printing.proofs.Sheeting.{no_rates, rates_next, no_sheets, sheets_next}

-- a number of so many digits, by induction on the fuel, and one of 64 bits
digits_most : (fuel k n : ℕ) → n < 10 ^ suc k → length (decimal_from fuel n) ≤ suc k
unfolding decimal_from
digits_most zero k n h = omega arith
digits_most (suc fuel) k n h = go (ltb n 10) refl k h (λ j. digits_most fuel j (n / 10))
  where
    go
        : (b : Bool) → ltb n 10 ≡ b → (k : ℕ) → n < 10 ^ suc k
        → ((j : ℕ) → n / 10 < 10 ^ suc j → length (decimal_from fuel (n / 10)) ≤ suc j)
        → length (decimal_on b n (decimal_from fuel)) ≤ suc k
    go true e k h most = omega arith
    go false e zero h most = absurd (omega (arith, ltb-false n 10 e))
    go false e (suc k) h most =
        let small : n < 10 ^ suc k * 10 = rw (pow-suc 10 (suc k)) at h in
        omega (arith, length-append (decimal_from fuel (n / 10)) ((48 + n % 10) ∷ []), most k (omega arith))

pub decimal_most : (k n : ℕ) → n < 10 ^ suc k → length (decimal n) ≤ suc k
unfolding decimal
decimal_most k n h = digits_most (suc n) k n h

wide_most : (n : ℕ) → n < 2 ^ 64 → length (decimal n) ≤ 20
wide_most n h = decimal_most 19 n (omega arith)

pub three_most : (a b c : List ℕ) (n m k : ℕ) → length a ≤ n → length b ≤ m → length c ≤ k → length (a ++ b ++ c) ≤ n + m + k
three_most a b c n m k p q r = omega (arith, length-append (a ++ b) c, length-append a b)

-- numbers after a word
pub numbered_most : (ns word : List ℕ) → ((i : ℕ) → get_or ns i 0 < 2 ^ 64) → length (numbered word ns) ≤ length word + 21 * length ns
numbered_most [] word fits = omega arith
numbered_most (n ∷ ns) word fits =
    omega (
      arith,
      numbered_most ns (word ++ blank_number n) (λ i. fits (suc i)),
      length-append word (blank_number n),
      wide_most n (fits 0),
    )

pub signed_most : (x : ℤ) → mag x < 2 ^ 63 → length (blank_signed x) ≤ 22
signed_most (pos n) h = omega (arith, wide_most n (omega arith))
signed_most (negsuc n) h = omega (arith, wide_most (suc n) (omega arith))

-- the lines of an audit
pub accepted_most : (C : ℕ) → C < 2 ^ 64 → length (audit_line (accepted C)) ≤ line_most
unfolding audit_line
accepted_most C p =
    omega (
      arith,
      three_most (codes "accepted") (blank_number C) (codes "\n") 8 21 1 (omega arith) (omega (arith, wide_most C p)) (omega arith),
    )

pub audit_refused_most : (q i : ℕ) (x : ℤ) → q < 2 ^ 64 → i < 2 ^ 64 → mag x < 2 ^ 63
    → length (audit_line (Audited.refused q i x)) ≤ line_most
unfolding audit_line
audit_refused_most q i x p r w =
    let numbers = three_most (codes "refused") (blank_number q) (blank_number i) 8 21 21 (omega arith) (omega (arith, wide_most q p))
    (omega (arith, wide_most i r)) in
    omega (
      arith,
      three_most (codes "refused" ++ blank_number q ++ blank_number i) (blank_signed x) (codes "\n") 50 22 1 numbers (signed_most x w)
          (omega arith),
    )

-- the lines of the states
pick_most : (b : Bool) (r : ℕ) → r < 2 ^ 16 → length (pick_on b r) ≤ 6
pick_most true r h = omega arith
pick_most false r h = omega (arith, decimal_most 4 r (omega arith))

pub line_most_lem : (b : Bool) (line : List ℕ) (n : ℕ) → length line ≤ n → length (line_on b line) ≤ n
line_most_lem true line n h = h
line_most_lem false line n h = omega arith

pub state_most_lem : (s v r m : ℕ) → s < max_states → v < 2 ^ 32 → r < 2 ^ 16 → m < max_total → length (state_line s v r m) ≤ state_most
unfolding state_line
state_most_lem s v r m p q w low =
    let pick = pick_on (eqb r give_up) r in
    three_most (decimal s ++ blank_number v ++ pick) (blank_number m) (codes "\n") 21 5 1
    (three_most (decimal s) (blank_number v) pick 4 11 6 (decimal_most 3 s (omega arith))
    (omega (arith, decimal_most 9 v (omega arith))) (pick_most (eqb r give_up) r w))
    (omega (arith, decimal_most 3 m (omega arith))) (omega arith)

-- a text of n parts is no longer than they are
parts_most
    : (text part : ℕ → List ℕ) (m : ℕ) → text 0 ≡ [] → ((k : ℕ) → text (k + 1) ≡ text k ++ part k) → (n : ℕ)
    → ((k : ℕ) → k < n → length (part k) ≤ m) → length (text n) ≤ m * n
parts_most text part m none next zero most = rw none (omega arith)
parts_most text part m none next (suc n) most =
    let e : length (text (suc n)) ≡ length (text n ++ part n) = rw (← add-one n, next n) refl in
    let rest = parts_most text part m none next n (λ k l. most k (omega arith)) in
    omega (arith, e, length-append (text n) (part n), rest, most n (omega arith))

-- the sheets: a rate has at most 4 digits, and the seconds of the stick lengths at most 5
abbrev pub rate_most : ℕ
rate_most = 11

rate_most_lem : (rate seconds : ℕ) → rate ≤ max_rate → seconds ≤ max_seconds → length (rate_line rate seconds) ≤ rate_most
unfolding rate_line
rate_most_lem rate seconds p q =
    three_most (decimal rate) (blank_number seconds) (codes "\n") 4 6 1 (decimal_most 3 rate (omega arith))
    (omega (arith, decimal_most 4 seconds (omega arith))) (omega arith)

sheet_most : (mm : ℕ) → mm ≤ file_stick → length (sheet_text mm) ≤ rate_most * rate_count
sheet_most mm short =
    parts_most (rate_lines (length_seconds mm)) (λ k. rate_line (min_rate + k) (length_seconds mm (min_rate + k))) rate_most
    (no_rates (length_seconds mm)) (λ k. rates_next (length_seconds mm) k refl) rate_count
    (λ k l. rate_most_lem (min_rate + k) _ (omega arith) (seconds_high mm (min_rate + k) short (omega arith)))

stick_short : (i : ℕ) → get_or stick_lengths i 0 ≤ file_stick
stick_short zero = omega arith
stick_short (suc zero) = omega arith
stick_short (suc (suc zero)) = omega arith
stick_short (suc (suc (suc zero))) = omega arith
stick_short (suc (suc (suc (suc i)))) = omega arith

pub sheets_most : length all_sheets ≤ rate_most * rate_count * length stick_lengths
sheets_most =
    parts_most (sheets_to stick_lengths) (λ i. sheet_text (get_or stick_lengths i 0)) (rate_most * rate_count) (no_sheets stick_lengths)
    (sheets_next stick_lengths) (length stick_lengths) (λ i l. sheet_most _ (stick_short i))
