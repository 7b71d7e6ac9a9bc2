-- Laws of the sheets: lines stand by rising rate, and sheets one after the other.
use mathlib.Core.Path.{◌≡◌, refl}
use Prim.Native.Nat.{ℕ, ◌+◌}
use native.Mathlib.Numerals.{add-one}
use mathlib.Core.List.{List, [], ◌++◌}
use lib.ListN.{get_or}
use Rattle.model.specs.Limits.{min_rate}
use Rattle.model.specs.Sheets.{rate_line, rate_lines, sheet_text, sheets_to}

-- the lines of no rates, and of one more
module _ (seconds : ℕ → ℕ) where
  pub no_rates : rate_lines seconds 0 ≡ []
  unfolding rate_lines
  no_rates = refl

  pub rates_next
      : (k : ℕ) {rate : ℕ} → rate ≡ min_rate + k → rate_lines seconds (k + 1) ≡ rate_lines seconds k ++ rate_line rate (seconds rate)
  unfolding rate_lines
  rates_next k is = rw (is, add-one k) refl

-- the sheets of no lengths, and of one more
module _ (lengths : List ℕ) where
  pub no_sheets : sheets_to lengths 0 ≡ []
  unfolding sheets_to
  no_sheets = refl

  pub sheets_next : (i : ℕ) → sheets_to lengths (i + 1) ≡ sheets_to lengths i ++ sheet_text (get_or lengths i 0)
  unfolding sheets_to
  sheets_next i = rw (add-one i) refl
