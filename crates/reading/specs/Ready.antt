-- What stands once questions 1 to 9 have said yes, and once 1 to 10 have: the index holds what it should, and all bytes that a
-- row needs are there.
use Rattle.std.specs.Prelude.{◌≡◌, true, ℕ, ◌+◌, ◌*◌, ◌/◌, ◌≤◌, ◌<◌, List, length, get_or, drop, Option, MatchOption}
use Rattle.model.specs.Bytes.{u16_at}
use Rattle.model.specs.Limits.{max_rows, weight_totals}
use Rattle.model.specs.Search.{one_of}
use Rattle.model.specs.Sections.{problem_of, outcome_at, outcome_count_of}
use Rattle.model.specs.Questions.{passes, layout_questions, undercut_state, undercut_row}
use Rattle.model.specs.Value.{row_ticks}
use Rattle.reading.specs.declared.value.Undercut.{Undercut}
use Rattle.reading.specs.Tests.{rows_base, index_for, bytes_between}
use Rattle.reading.specs.Fields.{Within}
use Rattle.reading.specs.Bounds.{max_byte}

-- questions 1 to 9: the index holds the first row of each state, and of each row where its outcomes begin and its cost in ticks;
-- every item lies in its section
pub record Indexed (f index : List ℕ) : Type 0 where
  pub whole : layout_questions f ≡ passes
  pub within : Within f
  pub size : index_for (problem_of f).rows ≤ length index
  pub first_row_lem : (s : ℕ) → s ≤ (problem_of f).states → get_or index s 0 ≡ (problem_of f).first_row s
  pub outcomes_at_lem : (r : ℕ) → r ≤ (problem_of f).rows → get_or index (rows_base + 2 * r) 0 ≡ outcome_at f r
  pub ticks : (r : ℕ) → r < (problem_of f).rows → get_or index (rows_base + 2 * r + 1) 0 ≡ row_ticks (problem_of f) r
  pub outcomes_few : (r : ℕ) → outcome_count_of f r ≤ max_byte

-- questions 1 to 10
pub record Ready (f index : List ℕ) : Type 0 where
  pub indexed : Indexed f index
  pub total_known : one_of (problem_of f).total weight_totals ≡ true
  pub successor_there : (r i : ℕ) → r < (problem_of f).rows → i < outcome_count_of f r
      → u16_at (drop (outcome_at f r) f) (4 * i) < (problem_of f).states

-- what the weighted sum asks: no more outcomes, 4 bytes each, than a row can have, and each leads to an entry of the table
pub record SumThere (b : List ℕ) (entries : ℕ) : Type 0 where
  pub few : length b ≤ 4 * max_byte
  pub there : (i : ℕ) → i < length b / 4 → u16_at b (4 * i) < entries

-- what the value of a row asks whose outcomes stand from byte `from` up to byte `to`
pub record PartThere (f : List ℕ) (entries from to : ℕ) : Type 0 where
  pub ordered : from ≤ to
  pub inside : to ≤ length f
  pub sums : SumThere (bytes_between f from to) entries

-- what the value of row r asks
pub record RowReady (f index : List ℕ) (entries r : ℕ) : Type 0 where
  pub ready : Ready f index
  pub entries_there : (problem_of f).states ≤ entries
  pub row_there : r < (problem_of f).rows

-- the first state with an undercut row, and that row; the number of states and row 0 where there is none
pub record Undercuts (f : List ℕ) (v : ℕ → ℕ) (s r : ℕ) : Type 0 where
  pub state_is : s ≡ undercut_state (problem_of f) v
  pub row_is : s < (problem_of f).states → r ≡ undercut_row (problem_of f) v s
  pub no_row : (problem_of f).states ≤ s → r ≡ 0
  pub row_there : r ≤ max_rows

-- the same of what a search hands out: a state of the problem with an undercut row, or that there is none
abbrev pub FirstUndercut : List ℕ → (ℕ → ℕ) → Option Undercut → Type 0
FirstUndercut f v found =
    MatchOption found (Undercuts f v (problem_of f).states 0) (λ u. (u.state < (problem_of f).states) × Undercuts f v u.state u.row)
