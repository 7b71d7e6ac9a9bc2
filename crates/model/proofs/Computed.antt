-- All cases hold, by computing.
use Rattle.std.specs.Prelude.{refl}
use Rattle.model.specs.Bytes.{u16_at, u32_at, number_bytes}
use Rattle.model.specs.Search.{first, sum_to}
use Rattle.model.specs.Value.{weighted_sum, total_weight, row_value, row_remainder, pick_remainder}
use Rattle.model.specs.Sections.{states_at, rows_at, outcomes_at, file_end, length_seconds, rate_seconds, seconds_on}
use Rattle.model.specs.Sections.{outcomes_from, at_tolerance, problem_of}
use Rattle.model.specs.Questions.{section_questions, end_question, layout_questions_within, setting_questions, state_obeys}
use Rattle.model.specs.Questions.{state_question, start_question, row_number_question, cost_obeys, row_obeys, row_question}
use Rattle.model.specs.Questions.{outcome_number_question, outcomes_obey, outcome_question, undercut_row, undercut_state}
use Rattle.model.specs.Questions.{estimate_question, item_questions, file_questions_within}
use Rattle.model.specs.Walk.{walk_with, visit_state, visit_outcomes, next, least_cost_with, least_to, pick_cost}
use Rattle.model.specs.Rounds.{beats, evaluate_on, consider_on, consider, taken_if, others_from, traverse, raise_on, settle}
use Rattle.model.specs.Rounds.{backup, backups, round_with, run_from_with, goes_on_with, machine_start, fill_to, list_table}
use Rattle.model.specs.Solution.{solution_within, solution_on_with, solution_of_with, solve_questions}
use Rattle.model.specs.Audit.{audit_within, problem_audit_with, table_questions_with, unbounded_state, stray_state, slack_state}
use Rattle.model.specs.Audit.{pick_value}
use Rattle.model.specs.Following.{leads_to, move_seconds, way_to, way_seconds, has_outcome, report_questions, opening_within}
use Rattle.model.specs.Following.{moved, report_within, reports, accepted_of}
use Rattle.model.specs.Lines.{plan_text, answer_line, state_lines, state_line, listed, run_states}
use Rattle.model.specs.Lines.{decimal, decimal_from, audit_line}
use Rattle.model.specs.Encoding.{parts_to, setting_number, setting_bytes, state_bytes, row_bytes, outcome_bytes, encode}
use Rattle.model.specs.SetForm.{weight_to, gathered, in_set_form, set_form, exchange_questions_within, exchange_within}
use Rattle.model.specs.Sheets.{rate_line, rate_lines}
use Rattle.model.specs.TableFiles.{entries16, table_bytes, list_to}
use Rattle.model.specs.CaseFiles.{All}
use Rattle.model.specs.Cases.{cases, others}
use Rattle.model.specs.Requested.{requested, forms, totals, finishings, longer}

infixr 40 ◌and◌
abbrev ◌and◌ : {A B : Type 0} → A → B → A × B
a and b = (a, b)

computed : All cases × All others × All requested × All forms × All totals × All finishings × All longer
unfolding file_questions_within layout_questions_within section_questions end_question setting_questions item_questions state_question
    state_obeys start_question row_number_question row_question row_obeys cost_obeys outcome_number_question outcome_question outcomes_obey
    estimate_question undercut_state undercut_row first sum_to row_value row_remainder pick_remainder weighted_sum total_weight problem_of
    states_at rows_at outcomes_at file_end outcomes_from at_tolerance length_seconds rate_seconds seconds_on u16_at u32_at solution_within
    solution_on_with solution_of_with solve_questions goes_on_with run_from_with round_with backups backup traverse others_from taken_if consider
    consider_on beats evaluate_on settle raise_on machine_start fill_to list_table walk_with visit_state visit_outcomes next least_cost_with least_to pick_cost audit_within problem_audit_with
    table_questions_with unbounded_state stray_state slack_state pick_value opening_within report_within reports accepted_of report_questions
    moved leads_to move_seconds has_outcome way_to way_seconds plan_text answer_line state_lines state_line listed run_states decimal decimal_from
    audit_line number_bytes table_bytes list_to entries16 rate_line rate_lines parts_to setting_number setting_bytes state_bytes row_bytes
    outcome_bytes encode weight_to gathered in_set_form set_form exchange_questions_within exchange_within
computed = (
  refl and refl and refl and refl and refl and refl and refl and refl and refl and refl
      and refl and refl and refl and refl and refl and refl and refl and refl and refl and tt,
  refl and refl and refl and refl and refl and refl and refl and refl and refl and refl
      and refl and refl and refl and refl and tt,
  refl and refl and refl and refl and refl and refl and refl and refl
      and refl and refl and refl and refl and refl and refl and refl and refl
      and refl and refl and refl and refl and refl and refl and refl and refl and refl
      and refl and refl and refl and refl and refl
      and refl and refl and refl and refl and refl and refl and tt,
  refl and refl and refl and refl and refl and refl and refl and refl and tt,
  refl and refl and refl and refl and refl and refl and refl and refl and refl and refl and refl and refl
      and refl and refl and refl and refl and refl and refl and tt,
  refl and refl and refl and refl and refl and refl and refl and refl and refl and refl and refl and refl and refl and tt,
  refl and refl and refl and refl and refl and refl and refl and refl and tt,
)

pub cases_hold : All cases
cases_hold = computed.0

pub others_hold : All others
others_hold = computed.1

pub requested_hold : All requested
requested_hold = computed.2

pub forms_hold : All forms
forms_hold = computed.3

pub totals_hold : All totals
totals_hold = computed.4

pub finishings_hold : All finishings
finishings_hold = computed.5

pub longer_hold : All longer
longer_hold = computed.6
