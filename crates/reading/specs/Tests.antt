-- The file's items as the loops read them, at places counted from where a section's items begin, and the entries of the index.
use Rattle.std.specs.Prelude.{◌≡◌, ℕ, zero, suc, ◌+◌, ◌-◌, ◌*◌, ◌/◌, Bool, ◌&&◌, ◌||◌, List, leb, ltb, eqb, length, get_or, set, take, drop}
use Rattle.model.specs.Bytes.{u16_at}
use Rattle.model.specs.Limits.{max_states, max_rows, ticks_per_second}
use Rattle.model.specs.Problem.{Outcome}
use Rattle.model.specs.Questions.{row_obeys}
use Rattle.model.specs.Search.{sum_to}
use Rattle.model.specs.Sections.{states_at, rows_at, outcomes_from, outcome_at, outcome_count_of, seconds_on}

-- of the states whose bytes begin at i: the number of rows
abbrev pub row_count_at : List ℕ → ℕ → ℕ → ℕ
row_count_at f i = λ s. get_or f (i + 6 * s + 4) 0

-- of the rows whose bytes begin at i: whether one obeys section 2, its number of outcomes, its cost in ticks
abbrev pub row_test : List ℕ → ℕ → ℕ → Bool
row_test f i = λ r. row_obeys (get_or f (i + 4 * r) 0) (get_or f (i + 4 * r + 1) 0) (u16_at f (i + 4 * r + 2))

abbrev pub outcome_count_at : List ℕ → ℕ → ℕ → ℕ
outcome_count_at f i = λ r. get_or f (i + 4 * r + 1) 0

abbrev pub ticks_at : List ℕ → ℕ → ℕ → ℕ
ticks_at f i = λ r. ticks_per_second * seconds_on (eqb (get_or f (i + 4 * r) 0) 0) (u16_at f (i + 4 * r + 2))

-- where the entries of the rows begin in the index, and how many entries it has for so many rows
abbrev pub rows_base : ℕ
rows_base = max_states + 1

abbrev pub index_for : ℕ → ℕ
index_for rows = rows_base + 2 * rows + 2

-- the index of any file, and that of a file of few rows
abbrev pub index_size : ℕ
index_size = index_for max_rows

abbrev pub small_rows : ℕ
small_rows = 1024

abbrev pub small_index : ℕ
small_index = index_for small_rows

-- whether a file has few rows; of one whose counts are not all there, up to that of the rows, no row is looked at
unfoldable pub few_rows : List ℕ → Bool
few_rows f =
    ltb (length f) 2
    || (ltb (length f) (states_at f + 2) || (ltb (length f) (rows_at f + 2) || leb (u16_at f (rows_at f)) small_rows))

-- whether row r is one of state s's own: between its first row and the next state's
abbrev pub own_at : List ℕ → ℕ → ℕ → Bool
own_at index s r = leb (get_or index s 0) r && ltb r (get_or index (s + 1) 0)

-- the index after k rows: where the outcomes of each begin, and its cost in ticks
unfoldable pub row_entries : (ℕ → ℕ) → (ℕ → ℕ) → List ℕ → ℕ → List ℕ
row_entries starts costs index zero = index
row_entries starts costs index (suc k) =
    set (set (row_entries starts costs index k) (rows_base + 2 * k) (starts k)) (rows_base + 2 * k + 1) (costs k)

-- the index after all n rows: one start more, where the outcomes end
abbrev pub all_entries : (ℕ → ℕ) → (ℕ → ℕ) → List ℕ → ℕ → List ℕ
all_entries starts costs index n = set (row_entries starts costs index n) (rows_base + 2 * n) (starts n)

-- the part of the file from byte `from` up to byte `to`, and that which the index gives to row r
abbrev pub bytes_between : List ℕ → ℕ → ℕ → List ℕ
bytes_between f from to = take (to - from) (drop from f)

abbrev pub part_of : List ℕ → List ℕ → ℕ → List ℕ
part_of f index r = bytes_between f (get_or index (rows_base + 2 * r) 0) (get_or index (rows_base + 2 * r + 2) 0)

-- the bytes of the file that row r has its outcomes in, up to those of the next row
abbrev pub part_bytes : List ℕ → ℕ → List ℕ
part_bytes f r = take (4 * outcome_count_of f r) (drop (outcome_at f r) f)

-- the outcomes in a part, 4 bytes each
abbrev pub outcomes_in : List ℕ → List Outcome
outcomes_in b = outcomes_from b 0 (length b / 4)

abbrev pub outcomes_between : List ℕ → ℕ → ℕ → List Outcome
outcomes_between f from to = outcomes_in (bytes_between f from to)

-- what filling in the rows leaves: the sum of the outcome numbers, and the index
pub record RowsIndexed (f : List ℕ) (i n start : ℕ) (before after : List ℕ) (total : ℕ) : Type 0 where
  pub sum : total ≡ sum_to (outcome_count_at f i) n
  pub entries : after ≡ all_entries (λ r. start + 4 * sum_to (outcome_count_at f i) r) (ticks_at f i) before n
