-- The remainders of a plan: what they stand on, a file with its index where there was a run; and what a run of `plan` leaves.
use Rattle.std.specs.Prelude.{◌≡◌, ℕ, ◌≤◌, ◌<◌, true, List, leb, length, get_or, replicate}
use Rattle.model.specs.Answers.{answer_of, solve_carries}
use Rattle.model.specs.Limits.{max_states, weight_totals, plan_rounds}
use Rattle.model.specs.Lines.{run_states}
use Rattle.model.specs.Promises.{Leaves}
use Rattle.model.specs.Rounds.{fill_to}
use Rattle.model.specs.Search.{one_of}
use Rattle.model.specs.Sections.{problem_of}
use Rattle.model.specs.declared.Kind.{Kind}
use Rattle.model.specs.Solution.{Tables, solution}
use Rattle.model.specs.Value.{by_state, pick_remainder_on}
use Rattle.reading.specs.Ready.{Ready}
use Rattle.programs.specs.declared.Ran.{Ran}

-- the remainder of a pick, 0 where it is none of the rows, and that of the pick at state s
unfoldable pub remainder_within : List ℕ → List ℕ → ℕ → ℕ
remainder_within f values pick = pick_remainder_on (leb (problem_of f).rows pick) (problem_of f) (by_state values) pick

abbrev pub remainder_at : List ℕ → List ℕ → List ℕ → ℕ → ℕ
remainder_at f values picks = λ s. remainder_within f values (get_or picks s 0)

-- a table of those of the first n states, and zeros; where there are any, the weight total is one of the four
pub record RemaindersTo (f values picks : List ℕ) (n : ℕ) (table : List ℕ) : Type 0 where
  pub total_known : 0 < n → one_of (problem_of f).total weight_totals ≡ true
  pub filled : table ≡ fill_to (remainder_at f values picks) (replicate max_states 0) n

-- the number of a file's rows, and a table of values that is long enough
pub record PicksReady (f values : List ℕ) (rows : ℕ) : Type 0 where
  pub values_long : (problem_of f).states ≤ length values
  pub rows_are : rows ≡ (problem_of f).rows

-- n states of a run: where there are any, the index is that of the file
pub record RunReady (f index values picks : List ℕ) (n : ℕ) : Type 0 where
  pub ready : 0 < n → Ready f index
  pub values_long : 0 < n → (problem_of f).states ≤ length values
  pub picks_long : n ≤ length picks
  pub few : n ≤ max_states

-- a run of `plan`: its answer and its tables, the number of its states, and the remainders under the values that it left
pub record RunDone (kind : Kind) (f : List ℕ) (t t' : Tables) (r : Ran) : Type 0 where
  pub leaves : Leaves (solve_carries r.answer) t' (solution kind f plan_rounds t)
  pub states_are : r.states ≡ run_states (answer_of r.answer) (problem_of f).states
  pub remainders_are : RemaindersTo f t'.values t'.picks r.states r.remainders
