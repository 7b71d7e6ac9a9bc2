-- The problem's fields, by the layout: what the loops read at its places is what the problem says.
-- Who cites these laws need not open the problem.
use Rattle.std.specs.Prelude.{◌≡◌, refl, ℕ, suc, ◌+◌, ◌*◌, ◌≤◌, ◌<◌, List, length}
use Rattle.model.specs.Bytes.{u32_at}
use Rattle.model.specs.Limits.{max_states, max_rows}
use Rattle.model.specs.Problem.{end_row}
use Rattle.model.specs.Questions.{passes, layout_questions, row_number_question, outcome_number_question}
use Rattle.model.specs.Search.{sum_to}
use Rattle.model.specs.Sections.{problem_of, outcome_at, outcome_count_of}
use Rattle.model.specs.Value.{row_ticks}
use Rattle.guarantee.specs.WellFormed.{sectioned, row_sum_lem, outcome_sum_lem, laid_sums}
use Rattle.reading.specs.declared.layout.Layout.{Layout}
use Rattle.reading.specs.Laid.{LaidOut}
use Rattle.reading.specs.Tests.{row_count_at, outcome_count_at, ticks_at}

module _ {f : List ℕ} {l : Layout} (laid : LaidOut f l) where
  pub estimates_are : (λ s. u32_at f (l.at1 + 6 * s)) ≡ (problem_of f).estimate
  unfolding problem_of
  estimates_are = rw laid.states_at_lem

  pub row_counts_are : row_count_at f l.at1 ≡ (problem_of f).row_count
  unfolding problem_of
  row_counts_are = rw laid.states_at_lem

  pub first_rows_are : sum_to (row_count_at f l.at1) ≡ (problem_of f).first_row
  unfolding problem_of
  first_rows_are = rw laid.states_at_lem

  pub row_costs_are : ticks_at f l.at2 ≡ row_ticks (problem_of f)
  unfolding problem_of
  row_costs_are = rw laid.rows_at_lem

  pub outcome_starts_are : (λ r. l.at3 + 4 * sum_to (outcome_count_at f l.at2) r) ≡ outcome_at f
  outcome_starts_are = rw (laid.rows_at_lem, laid.outcomes_at_lem)

-- what questions 1 to 3, 7 and 9 give: each state's rows and each row's outcomes lie in their sections
pub record Within (f : List ℕ) : Type 0 where
  pub states_high : (problem_of f).states ≤ max_states
  pub rows_high : (problem_of f).rows ≤ max_rows
  pub rows_follow : (s : ℕ) → (problem_of f).first_row (suc s) ≡ end_row (problem_of f) s
  pub rows_within_lem : (s : ℕ) → s < (problem_of f).states → end_row (problem_of f) s ≤ (problem_of f).rows
  pub outcomes_within : (r : ℕ) → r < (problem_of f).rows → outcome_at f r + 4 * outcome_count_of f r ≤ length f

pub within : (f : List ℕ) → layout_questions f ≡ passes → row_number_question (problem_of f) ≡ passes
    → outcome_number_question f (problem_of f) ≡ passes → Within f
unfolding problem_of sum_to
within f whole seventh ninth =
    let laid = laid_sums f (sectioned f whole) (row_sum_lem (problem_of f) seventh) (outcome_sum_lem f (problem_of f) ninth) in
    record {
      states_high = laid.sections.states_high;
      rows_high = laid.sections.rows_high;
      rows_follow = λ s. refl;
      rows_within_lem = laid.end_row_high;
      outcomes_within = laid.outcomes_in_lem;
    }
