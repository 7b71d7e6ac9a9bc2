-- "Questions, put in order": 1 to 11, each a definition that passes or fails with its place, and their chain.
use Rattle.std.specs.Prelude.{ℕ, ◌+◌, Bool, true, false, ◌&&◌, ◌||◌, not, List, [], ◌∷◌, leb, ltb, eqb, length}
use Rattle.model.specs.Bytes.{u16_at}
use Rattle.model.specs.Limits.{Limits, in_force, min_settings, max_settings, weight_totals, max_tolerance, max_penalty}
use Rattle.model.specs.Limits.{max_seconds, min_rate, max_rate}
use Rattle.model.specs.Problem.{Problem, Outcome, end_row, give_up_cost}
use Rattle.model.specs.Search.{first, sum_to, one_of}
use Rattle.model.specs.Sections.{section_end, states_at, rows_at, outcomes_at, file_end, problem_of}
use Rattle.model.specs.Sections.{goal_byte_of, kind_of, outcome_count_of, cost_number_of}
use Rattle.model.specs.Value.{row_value, total_weight}

-- "A no ends the call with the number and a place"
pub data Verdict : Type 0 where
  passes : Verdict
  fails : (question place : ℕ) → Verdict

-- the next question is put only where the one before passes
infixr 40 ◌then◌
abbrev pub ◌then◌ : Verdict → Verdict → Verdict
passes then next = next
(fails q i) then next = fails q i

-- question q with place i: does the test say yes?
abbrev pub ask : ℕ → ℕ → Bool → Verdict
ask q i true = passes
ask q i false = fails q i

-- question q of each of n things in order; "Places are the first that fails"
abbrev pub ask_each : ℕ → ℕ → (ℕ → Bool) → Verdict
ask_each q n ok = ask q (first ok 0 n) (leb n (first ok 0 n))

abbrev pub between : ℕ → ℕ → ℕ → Bool
between low high x = leb low x && leb x high

-- "are count bytes there? 1. Is the count in range? 2. Are all items there? 1. (Place: section.)"
unfoldable pub section_questions : ℕ → ℕ → ℕ → ℕ → ℕ → List ℕ → Verdict
section_questions place i size low high f =
    ask 1 place (leb (i + 2) (length f))
    then ask 2 place (between low high (u16_at f i))
    then ask 1 place (leb (section_end size f i) (length f))

-- "Does the file end there? 3 (3)."
unfoldable pub end_question : List ℕ → Verdict
end_question f = ask 3 3 (eqb (file_end f) (length f))

unfoldable pub layout_questions_within : Limits → List ℕ → Verdict
layout_questions_within L f =
    section_questions 0 0 4 min_settings max_settings f
    then section_questions 1 (states_at f) 6 1 L.states f
    then section_questions 2 (rows_at f) 4 0 L.rows f
    then section_questions 3 (outcomes_at f) 4 0 L.outcomes f
    then end_question f

abbrev pub layout_questions : List ℕ → Verdict
layout_questions = layout_questions_within in_force

-- "Is the start below the state count, then e, then D in range? 4 (setting 0 to 2)." Request E7: "24 when the fourth setting isn't one of
-- these, asked after the third under place 3; wherever a stretch of questions that holds 4 is named, 24 belongs to it."
unfoldable pub setting_questions : Problem → Verdict
setting_questions p =
    ask 4 0 (ltb p.start p.states)
    then ask 4 1 (between 1 max_tolerance p.tolerance)
    then ask 4 2 (between 1 max_penalty p.penalty)
    then ask 24 3 (one_of p.total weight_totals)

-- "goal byte (1 goal, 0 not). A goal has no rows and H = 0. .. H is at most 1000 × D."
unfoldable pub state_obeys : ℕ → ℕ → ℕ → ℕ → Bool
state_obeys limit estimate row_count goal_byte =
    leb goal_byte 1 && ((eqb goal_byte 0 || (eqb row_count 0 && eqb estimate 0)) && leb estimate limit)

-- "Does each state obey section 1? 5 (state)."
unfoldable pub state_question : List ℕ → Problem → Verdict
state_question f p =
    ask_each 5 p.states (λ s. state_obeys (give_up_cost p) (p.estimate s) (p.row_count s) (goal_byte_of f s))

-- "Is the start no goal? 6 (the start's state number)."
unfoldable pub start_question : Problem → Verdict
start_question p = ask 6 p.start (not (p.goal p.start))

-- "Do the states' row numbers add to the row count? 7 (0)."
unfoldable pub row_number_question : Problem → Verdict
row_number_question p = ask 7 0 (eqb (sum_to p.row_count p.states) p.rows)

-- "Kind 0: c seconds, 1 to 65,535. Kind 1: melt rate r .., 10 to 1,000"
unfoldable pub cost_obeys : Bool → ℕ → Bool
cost_obeys true n = between 1 max_seconds n
cost_obeys false n = between min_rate max_rate n

-- kind 0 or 1, at least one outcome, and a cost number in its kind's range
unfoldable pub row_obeys : ℕ → ℕ → ℕ → Bool
row_obeys kind outcome_count number = leb kind 1 && (leb 1 outcome_count && cost_obeys (eqb kind 0) number)

-- "Does each row obey section 2? 8 (row)."
unfoldable pub row_question : List ℕ → Problem → Verdict
row_question f p = ask_each 8 p.rows (λ r. row_obeys (kind_of f r) (outcome_count_of f r) (cost_number_of f r))

-- "Do their outcome numbers add to the outcome count? 9 (0)."
unfoldable pub outcome_number_question : List ℕ → Problem → Verdict
outcome_number_question f p = ask 9 0 (eqb (sum_to (outcome_count_of f) p.rows) (u16_at f (outcomes_at f)))

-- each successor is one of n states and each weight is 1 to W
unfoldable pub outcomes_obey : ℕ → ℕ → List Outcome → Bool
outcomes_obey n W [] = true
outcomes_obey n W (o ∷ os) = (ltb o.successor n && between 1 W o.weight) && outcomes_obey n W os

-- a row's outcomes obey section 3: so does each, and their weights add to W
abbrev pub row_sound : ℕ → ℕ → List Outcome → Bool
row_sound n W os = outcomes_obey n W os && eqb (total_weight os) W

-- "Are each row's successors states, its weights in range, its total 1,000? 10 (row)." E7: "W replaces 1,000 in the weight range, the row
-- total"
unfoldable pub outcome_question : Problem → Verdict
outcome_question p = ask_each 10 p.rows (λ r. row_sound p.states p.total (p.outcomes r))

-- the first row of state s whose value under V lies below V(s); the number after its last row where there is none
unfoldable pub undercut_row : Problem → (ℕ → ℕ) → ℕ → ℕ
undercut_row p v s = first (λ r. leb (v s) (row_value p v r)) (p.first_row s) (p.row_count s)

-- the first state that has such a row; the number of states where there is none
unfoldable pub undercut_state : Problem → (ℕ → ℕ) → ℕ
undercut_state p v = first (λ s. leb (end_row p s) (undercut_row p v s)) 0 p.states

-- "Is H of each row's state at most the row value under H? 11 (row)."
unfoldable pub estimate_question : Problem → Verdict
estimate_question p =
    ask 11 (undercut_row p p.estimate (undercut_state p p.estimate)) (leb p.states (undercut_state p p.estimate))

-- questions 5 to 11
unfoldable pub item_questions : List ℕ → Problem → Verdict
item_questions f p =
    state_question f p
    then start_question p
    then row_number_question p
    then row_question f p
    then outcome_number_question f p
    then outcome_question p
    then estimate_question p

-- questions 1 to 11
unfoldable pub file_questions_within : Limits → List ℕ → Verdict
file_questions_within L f = layout_questions_within L f then setting_questions (problem_of f) then item_questions f (problem_of f)

abbrev pub file_questions : List ℕ → Verdict
file_questions = file_questions_within in_force
