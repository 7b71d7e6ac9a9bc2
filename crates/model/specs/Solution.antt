-- Solving a file: questions 12 and 13, and what is handed back: the answer, and the four lent tables as the run leaves them.
-- Number 14, which document 01 asked at an evaluation, went with request E10: every row value fits in 32 bits.
use Rattle.std.specs.Prelude.{ℕ, List, leb, length}
use Rattle.model.specs.Limits.{Limits, max_states, in_force, max_budget}
use Rattle.model.specs.Problem.{Problem}
use Rattle.model.specs.Sections.{problem_of}
use Rattle.model.specs.Value.{by_state}
use Rattle.model.specs.Questions.{Verdict, passes, fails, ◌then◌, ask, file_questions_within}
use Rattle.model.specs.Walk.{least_cost_with}
use Rattle.model.specs.Carried.{counts}
use Rattle.model.specs.declared.Counts.{Counts}
use Rattle.model.specs.declared.Kind.{Kind}
use Rattle.model.specs.Rounds.{Machine, Ending, run_of_with, list_table}

-- "Lent tables: values and picks per state, remembered values per row, walk list per state."
pub record Tables : Type 0 where
  pub values : List ℕ
  pub picks : List ℕ
  pub remembered : List ℕ
  pub walk_list : List ℕ

abbrev pub tables : List ℕ → List ℕ → List ℕ → List ℕ → Tables
tables values picks remembered list = record { values = values; picks = picks; remembered = remembered; walk_list = list }

-- "The result carries solved or spent, rounds done, evaluations and C (0 if spent). A refusal carries 0 for all three counts."
pub data Answer : Type 0 where
  solved : Counts → Answer
  spent : Counts → Answer
  refused : (question place : ℕ) → Answer

pub record Solution : Type 0 where
  pub answer : Answer
  pub tables : Tables

-- "After solved or spent they hold the machine's state, the walk list ending in 65,535s up to the number of states; in every table
-- entries beyond stay."
abbrev pub tables_of : Problem → List ℕ → Machine → Tables
tables_of p lent m =
    record {
      values = m.values;
      picks = m.picks;
      remembered = m.remembered;
      walk_list = list_table p.states m.list lent;
    }

unfoldable pub solution_of_with : ℕ → Problem → List ℕ → Ending → Solution
solution_of_with k p lent (Ending.solved n m) =
    record { answer = solved (counts n m.evaluations (least_cost_with k p (by_state m.picks))); tables = tables_of p lent m }
solution_of_with k p lent (Ending.spent n m) = record { answer = spent (counts n m.evaluations 0); tables = tables_of p lent m }

-- "are values, picks, remembered, walk list long enough? 12 (table 0 to 3). Is the budget at most 2,000,000,000,000,000? 13 (0)."
unfoldable pub solve_questions : Problem → ℕ → Tables → Verdict
solve_questions p budget t =
    ask 12 0 (leb p.states (length t.values))
    then ask 12 1 (leb p.states (length t.picks))
    then ask 12 2 (leb p.rows (length t.remembered))
    then ask 12 3 (leb p.states (length t.walk_list))
    then ask 13 0 (leb budget max_budget)

-- "A no ends the call with the number and a place; no table has changed", since E10 with no exception
unfoldable pub solution_on_with : ℕ → Verdict → Kind → Problem → ℕ → Tables → Solution
solution_on_with k passes kind p budget t =
    solution_of_with k p t.walk_list (run_of_with k kind p budget t.values t.picks t.remembered)
solution_on_with k (fails q i) kind p budget t = record { answer = refused q i; tables = t }

-- solving a file by a run of some kind, with a budget and four lent tables
unfoldable pub solution_within : Limits → Kind → List ℕ → ℕ → Tables → Solution
solution_within L kind f budget t =
    solution_on_with L.states (file_questions_within L f then solve_questions (problem_of f) budget t) kind (problem_of f) budget t

-- within the limits that are in force
abbrev pub solution_of : Problem → List ℕ → Ending → Solution
solution_of = solution_of_with max_states

abbrev pub solution_on : Verdict → Kind → Problem → ℕ → Tables → Solution
solution_on = solution_on_with max_states

abbrev pub solution : Kind → List ℕ → ℕ → Tables → Solution
solution = solution_within in_force
