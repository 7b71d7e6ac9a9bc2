-- "A program prints one line a rate, rate and seconds with a blank between, rates rising, for each of the stick lengths .. in turn": the
-- text of `sheet`, as ASCII codes.
use Rattle.std.specs.Prelude.{ℕ, zero, suc, ◌+◌, ◌-◌, List, [], ◌++◌, length, get_or}
use Rattle.model.specs.Limits.{min_rate, rate_count, stick_lengths}
use Rattle.model.specs.Lines.{codes, decimal, blank_number}
use Rattle.model.specs.Sections.{length_seconds}

-- "one line a rate, rate and seconds with a blank between": that of 700 and 858 is `700 858`
unfoldable pub rate_line : ℕ → ℕ → List ℕ
rate_line rate seconds = decimal rate ++ blank_number seconds ++ codes "\n"

-- "rates rising": the lines of the k lowest rates, each with the seconds that a rule has for it
unfoldable pub rate_lines : (ℕ → ℕ) → ℕ → List ℕ
rate_lines seconds zero = []
rate_lines seconds (suc k) = rate_lines seconds k ++ rate_line (min_rate + k) (seconds (min_rate + k))

-- the sheet of a stick length: "cost 600 × length / rate rounded up"
abbrev pub sheet_text : ℕ → List ℕ
sheet_text mm = rate_lines (length_seconds mm) rate_count

-- a table of seconds, an entry a rate, as a sheet
abbrev pub table_text : List ℕ → List ℕ
table_text table = rate_lines (λ rate. get_or table (rate - min_rate) 0) rate_count

-- the sheets of the first k of these lengths, nothing between them
unfoldable pub sheets_to : List ℕ → ℕ → List ℕ
sheets_to lengths zero = []
sheets_to lengths (suc k) = sheets_to lengths k ++ sheet_text (get_or lengths k 0)

-- what `sheet` prints
abbrev pub all_sheets : List ℕ
all_sheets = sheets_to stick_lengths (length stick_lengths)
