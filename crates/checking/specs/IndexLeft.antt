-- What questions 1 to 11 leave in every entry of the lent index, by how far they come: as lent where one of 1 to 6 says no; the
-- first rows of the states once 7 is put; where each row's outcomes begin, and its cost in ticks, once 9 is put.
use Rattle.std.specs.Prelude.{ℕ, ◌+◌, List}
use Rattle.model.specs.Questions.{Verdict, passes, fails, ◌then◌, layout_questions, setting_questions}
use Rattle.model.specs.Questions.{state_question, start_question, row_number_question, row_question}
use Rattle.model.specs.Rounds.{fill_to}
use Rattle.model.specs.Sections.{problem_of, outcome_at}
use Rattle.model.specs.Value.{row_ticks}
use Rattle.reading.specs.Tests.{all_entries}

-- entry s, for s up to the number of states: the first row of state s
abbrev pub states_filled : List ℕ → List ℕ → List ℕ
states_filled f index = fill_to (problem_of f).first_row index ((problem_of f).states + 1)

-- two entries for each row, and one more where the outcomes of the last row end
abbrev pub rows_filled : List ℕ → List ℕ → List ℕ
rows_filled f index = all_entries (outcome_at f) (row_ticks (problem_of f)) index (problem_of f).rows

-- after questions 1 to 6, by what 7 and 8 say
abbrev pub left_by_rows : Verdict → List ℕ → List ℕ → List ℕ
left_by_rows (fails q i) f index = states_filled f index
left_by_rows passes f index = rows_filled f (states_filled f index)

abbrev pub rows_left : List ℕ → List ℕ → List ℕ
rows_left f index = left_by_rows (row_number_question (problem_of f) then row_question f (problem_of f)) f index

-- by what the questions before 7 say
abbrev pub left_after : Verdict → List ℕ → List ℕ → List ℕ
left_after (fails q i) f index = index
left_after passes f index = rows_left f index

-- questions 4 to 6
abbrev pub early_questions : List ℕ → Verdict
early_questions f = setting_questions (problem_of f) then state_question f (problem_of f) then start_question (problem_of f)

abbrev pub items_left : List ℕ → List ℕ → List ℕ
items_left f index = left_after (early_questions f) f index

abbrev pub index_left : List ℕ → List ℕ → List ℕ
index_left f index = left_after (layout_questions f then early_questions f) f index
