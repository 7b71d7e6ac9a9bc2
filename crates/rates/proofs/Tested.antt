-- A table is the sheet if it has an entry for each rate and passes one test, computed over all of them.
use mathlib.Core.Path.{◌≡◌, ap, ◌∙◌}
use Prim.Native.Nat.{ℕ, ◌+◌, ◌-◌}
use native.Mathlib.Omega.{arith}
use mathlib.Core.Bool.{true}
use mathlib.Core.List.{List}
use lib.ListN.{length}
use Rattle.model.specs.Limits.{min_rate, max_rate, file_stick}
use Rattle.model.specs.Sections.{rate_seconds}
use Rattle.model.specs.Sheets.{sheet_text, table_text}
use Rattle.guarantee.proofs.Guarantee.{sheet_is_the_table}
use Rattle.guarantee.specs.Tables.{tabulates, tabulated}
use Rattle.rates.specs.Sheet.{RateSheet}

pub sheet_tested : (l : List ℕ) → min_rate + length l ≡ max_rate + 1 → tabulates rate_seconds min_rate l ≡ true → RateSheet l
sheet_tested l long test =
    record {
      keeps = λ rate low high.
          tabulated rate_seconds min_rate l test (rate - min_rate) (omega arith) ∙ ap rate_seconds (omega arith);
    }

-- and the sheet's text is the one that is printed for the file's length
pub sheet_printed : {l : List ℕ} → RateSheet l → table_text l ≡ sheet_text file_stick
sheet_printed {l} sheet = sheet_is_the_table l sheet.keeps
