-- Laws of the seconds of a stick, over any length and rate, and of the sheets that list them.
-- With d − 1 added before it is divided by d, n is rounded up: c × d ≤ n + (d − 1) < (c + 1) × d.
use Rattle.std.specs.Prelude.{◌≡◌, refl, List, get_or}
use Prim.Native.Nat.{ℕ, zero, suc, ◌+◌, ◌-◌, ◌*◌, ◌/◌, ◌≤◌, ◌<◌}
use Rattle.std.proofs.Common.{le-div_iff_mul-le, div-lt_iff_lt-mul, lt-suc_self}
use Rattle.std.proofs.Math.Nat.{div-mul-le_self}
use native.Mathlib.Omega.{arith}
use Rattle.model.specs.Limits.{min_rate, max_rate, rate_count, max_seconds, file_stick, millimetre_seconds}
use Rattle.model.specs.Sections.{length_seconds, rate_seconds, seconds_on, kind_of, cost_number_of, problem_of}
use Rattle.model.specs.Sheets.{rate_lines, sheet_text, table_text}

module _ (mm rate : ℕ) where
  pub seconds_rounded
      : 1 ≤ rate
      → (millimetre_seconds * mm ≤ length_seconds mm rate * rate) × (length_seconds mm rate * rate < millimetre_seconds * mm + rate)
  unfolding length_seconds
  seconds_rounded low =
      let n = millimetre_seconds * mm + (rate - 1) in
      let under : n < suc (n / rate) * rate = (div-lt_iff_lt-mul {k = rate} low).0 (lt-suc_self (n / rate)) in
      (omega arith, omega (arith, div-mul-le_self n rate))

  pub seconds_low : 1 ≤ mm → 1 ≤ rate → 1 ≤ length_seconds mm rate
  unfolding length_seconds
  seconds_low long low = (le-div_iff_mul-le {k = rate} low).1 (omega arith)

  -- at the rates of the sheets no stick up to the file's length takes more than a cost number holds
  pub seconds_high : mm ≤ file_stick → min_rate ≤ rate → length_seconds mm rate ≤ max_seconds
  unfolding length_seconds
  seconds_high short low =
      let l : (millimetre_seconds * mm + (rate - 1)) / rate < max_seconds + 1 = (div-lt_iff_lt-mul {k = rate} (omega arith)).1 (omega arith) in
      omega arith

-- a row of kind 1 has the seconds of the file's length
pub rate_cost : (f : List ℕ) (r : ℕ) → kind_of f r ≡ 1 → (problem_of f).cost r ≡ length_seconds file_stick (cost_number_of f r)
unfolding problem_of seconds_on rate_seconds
rate_cost f r e = rw e refl

-- rules that agree at the k lowest rates have the same lines there
lines_agree
    : (g h : ℕ → ℕ) (k : ℕ) → ((rate : ℕ) → min_rate ≤ rate → rate < min_rate + k → g rate ≡ h rate) → rate_lines g k ≡ rate_lines h k
unfolding rate_lines
lines_agree g h zero same = refl
lines_agree g h (suc k) same =
    rw (lines_agree g h k (λ rate low l. same rate low (omega arith)), same (min_rate + k) (omega arith) (omega arith)) refl

pub table_printed
    : (table : List ℕ) → ((rate : ℕ) → min_rate ≤ rate → rate ≤ max_rate → get_or table (rate - min_rate) 0 ≡ rate_seconds rate)
    → table_text table ≡ sheet_text file_stick
unfolding rate_seconds
table_printed table keeps =
    lines_agree (λ rate. get_or table (rate - min_rate) 0) (length_seconds file_stick) rate_count (λ rate low l. keeps rate low (omega arith))
