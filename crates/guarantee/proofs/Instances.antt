-- The theorems speak of something: each theorem of Guarantee.antt that has hypotheses is cited where they are met, by file P of
-- document 01, its answer and its run, or by another small file of the cases: here those about files, audits and whole runs, in
-- RoundInstances.antt those about the rounds and the walk, in ShiftInstances.antt those about following. `exactly`, `beyond_stays`,
-- `value_with_remainder`, `run_met` and `report_exactly` have no hypothesis.
-- P's facts are those of the melt-room cases and a few more computed from its bytes; the rest cites the theorems.
use Rattle.std.specs.Prelude.{◌≡◌, refl, ℕ, ◌+◌, ◌-◌, ◌*◌, ◌≤◌, ◌<◌, false, List, [], ◌∷◌, ◌⊎◌, eqb, ℤ, get_or, length, replicate}
use Rattle.std.proofs.Common.{sym, ◌∙◌, ap, le_of_eq, arith, leb-true, le-leb}
use Rattle.std.proofs.lemmas.List.{length-replicate}
use Rattle.model.specs.Bytes.{u16_at, u32_at, number_bytes}
use Rattle.model.specs.Limits.{old_limits, max_states, thousandths, max_budget, plan_rounds, give_up, min_rate, max_rate, rate_count}
use Rattle.model.specs.CaseFiles.{file_p, partner_p, penalty_p, tied_later, rounding, coarse, values_p, picks_p, lent, planned}
use Rattle.model.specs.CaseFiles.{finishing}
use Rattle.model.proofs.Computed.{cases_hold, others_hold, forms_hold, finishings_hold}
use Rattle.model.specs.Problem.{Problem, Outcome, give_up_cost}
use Rattle.model.specs.Lines.{run_states, listed, plan_text}
use Rattle.model.specs.Search.{first, sum_to}
use Rattle.model.specs.Value.{by_state, row_value, row_remainder, weighted_sum, total_weight}
use Rattle.model.specs.Sections.{states_at, rows_at, outcomes_at, file_end, outcomes_from, length_seconds, rate_seconds, seconds_on}
use Rattle.model.specs.Sections.{kind_of, at_tolerance, problem_of}
use Rattle.model.specs.Questions.{passes, fails, section_questions, end_question, layout_questions_within, setting_questions, state_obeys}
use Rattle.model.specs.Questions.{state_question, start_question, row_number_question, cost_obeys, row_obeys, row_question}
use Rattle.model.specs.Questions.{outcome_number_question, outcomes_obey, outcome_question, undercut_row, undercut_state}
use Rattle.model.specs.Questions.{estimate_question, item_questions, file_questions, file_questions_within}
use Rattle.model.specs.Walk.{In, Reached, at_start_lem, successors, visit_outcomes, visit_state, next, walk, walk_with, pick_cost}
use Rattle.model.specs.Walk.{least_cost_with, least_to}
use Rattle.model.specs.Rounds.{fill_to, list_table, machine_start, run_from_with, goes_on_with, run_of}
use Rattle.model.specs.Encoding.{settings_on, encode}
use Rattle.model.specs.SetForm.{in_set_form, set_form, Same}
use Rattle.model.specs.Sheets.{sheet_text, table_text}
use Rattle.model.specs.Carried.{counts}
use Rattle.model.specs.declared.Counts.{Counts}
use Rattle.model.specs.declared.Kind.{Kind}
use Rattle.model.specs.declared.Kind.TheVariants.{Plain, Finishing}
use Rattle.model.specs.Solution.{Tables, solved, spent, refused, solution_of, solution_of_with, solve_questions, solution}
use Rattle.model.specs.Solution.{solution_within}
use Rattle.model.specs.Audit.{accepted, refused as audit_refused, audit, audit_within, problem_audit_with, table_questions_with}
use Rattle.model.specs.Audit.{unbounded_state, stray_state, slack_state, pick_value}
use Rattle.model.specs.Cover.{Choice, Cover, plan_of, allowance, allowance_to, open_to}
use Rattle.model.specs.Promises.{Close, round_bound, rounds_enough, plan_tables, plan_solution}
use Rattle.guarantee.specs.WellFormed.{WellFormed, Laid, well_formed, laid}
use Rattle.guarantee.specs.Searches.{yes_ask}
use Rattle.guarantee.specs.Tables.{fill_entry}
use Rattle.guarantee.specs.Accepted.{audit_yes, audit_accepts}
use Rattle.guarantee.proofs.Closeness.{audit_close}
use Rattle.guarantee.specs.Encodings.{Encodable, Says}
use Rattle.guarantee.specs.Forms.{form_encodable}
use Rattle.guarantee.specs.Longer.{CountsWithin}
use Rattle.guarantee.specs.Retuned.{with_tolerance}
use Rattle.guarantee.specs.Solutions.{solution_refused}
use Rattle.guarantee.specs.Listings.{HasLine, PickLine}
use Rattle.guarantee.proofs.Guarantee.{closeness_lower, closeness_upper, closeness_positive, giving_up_refused}
use Rattle.guarantee.proofs.Guarantee.{runs_the_rounds, spent_late, ending, rounds_fit, acceptance, remainder_low}
use Rattle.guarantee.proofs.Guarantee.{file_remainder_low, lines_name_picks, solved_leaves_the_walk, solved_lists_the_plan}
use Rattle.guarantee.proofs.Guarantee.{rounding_rule, sheet_is_the_table, files_keep_meaning, equal_forms, equal_forms_audit}
use Rattle.guarantee.proofs.Guarantee.{form_is_accepted, form_setting_count, form_kind, form_rises, form_weights}
use Rattle.guarantee.proofs.Guarantee.{form_says_the_same, form_no_longer, form_stays, form_values, form_remainders}
use Rattle.guarantee.proofs.Guarantee.{form_audits, encoded_reads_back, file_longer_than_tables, refusal, stored_text}
use Rattle.guarantee.proofs.Guarantee.{older_reader}
use Rattle.guarantee.proofs.Guarantee.{finished_to_the_tick, finished_acceptance, finished_closeness, retuned_file, spent_alike}

abbrev pub problem_p : Problem
problem_p = problem_of file_p

-- of the lists of cases: P passes questions 1 to 11; `plan` ends solved 3 5 100000; "P's answer passes the audit", with C 100,000

pub p_passes : file_questions file_p ≡ passes
p_passes = others_hold.0

pub p_solved : (planned file_p 3).answer ≡ solved (counts 3 5 100000)
p_solved = others_hold.1.0

pub p_accepted : audit file_p values_p picks_p ≡ accepted 100000
p_accepted = cases_hold.1.1.1.1.1.1.1.1.1.1.1.1.1.1.1.0

-- more that is computed: two other files pass, and the answer of the one that leads back to its state passes the audit

abbrev pub values_r : List ℕ
values_r = 1498 ∷ 0 ∷ []

abbrev pub picks_r : List ℕ
picks_r = 0 ∷ 65534 ∷ []

pub computed
    : (file_questions tied_later ≡ passes) × (file_questions (penalty_p 100 0) ≡ passes) × (audit rounding values_r picks_r ≡ accepted 1000)
unfolding file_questions_within layout_questions_within section_questions end_question setting_questions item_questions state_question
    state_obeys start_question row_number_question row_question row_obeys cost_obeys outcome_number_question outcome_question outcomes_obey
    estimate_question undercut_state undercut_row first sum_to row_value weighted_sum total_weight problem_of states_at rows_at outcomes_at
    file_end outcomes_from rate_seconds length_seconds seconds_on u16_at u32_at walk_with visit_state visit_outcomes next least_cost_with least_to
    pick_cost audit_within problem_audit_with table_questions_with unbounded_state stray_state slack_state pick_value
computed = (refl, refl, refl)

pub p_formed : WellFormed problem_p
p_formed = well_formed file_p p_passes

pub p_laid : Laid file_p
p_laid = laid file_p p_passes

pub p_close : Close problem_p problem_p.tolerance (by_state values_p) (by_state picks_p) 100000
p_close = audit_close file_p values_p picks_p 100000 p_accepted

-- the accepted plan and its cover, in 99,999ths of a tick
abbrev pub plan_p : ℕ → Choice
plan_p = plan_of problem_p (by_state picks_p)

abbrev pub cover_p : ℕ → ℕ
cover_p = λ s. 100000 * by_state values_p s

pub p_cover : Cover problem_p 99999 plan_p cover_p (Reached problem_p (by_state picks_p))
unfolding problem_of u16_at u32_at
p_cover = closeness_upper file_p values_p picks_p 100000 p_accepted

pub p_positive : 1 ≤ 100000 - problem_p.tolerance
p_positive = closeness_positive file_p values_p picks_p 100000 p_accepted

-- no cover in 99,999ths lies below the answer, this one included
pub p_bound : 99999 * by_state values_p problem_p.start ≤ cover_p problem_p.start
p_bound = closeness_lower file_p values_p picks_p 100000 p_accepted 99999 (omega arith) plan_p cover_p (Reached problem_p (by_state picks_p)) p_cover

-- P's values with a plan that gives up everywhere: row 0 costs 370,000 at the start and giving up 5,000,000, so the audit refuses
pub p_cheaper : row_value problem_p (by_state values_p) 0 + problem_p.tolerance ≤ give_up_cost problem_p
unfolding problem_of states_at rows_at outcomes_at outcomes_from seconds_on sum_to u16_at u32_at row_value weighted_sum
p_cheaper = leb-true _ _ refl

pub p_gives_up
    : (q : ℕ) × (i : ℕ) × (excess : ℤ) × (audit file_p values_p (replicate 3 give_up) ≡ audit_refused q i excess) × ((q ≡ 17) ⊎ (q ≡ 19))
unfolding problem_of states_at rows_at sum_to u16_at u32_at
p_gives_up =
    let facts = audit_accepts file_p values_p picks_p 100000 p_accepted in
    giving_up_refused file_p values_p (replicate 3 give_up) p_passes (omega arith) (omega arith) facts.goal_zero facts.value_high refl
    0 refl p_cheaper

-- A is 10,000,000 and n is 2, so that 30,000,003 rounds are enough
pub p_allowance : allowance problem_p 1 ≡ 10000000
unfolding allowance allowance_to problem_of states_at u16_at u32_at
p_allowance = refl

pub p_open : open_to problem_p problem_p.states ≡ 2
unfolding open_to problem_of states_at u16_at u32_at
p_open = refl

pub p_rounds : rounds_enough Plain problem_p ≡ 30000003
unfolding round_bound problem_of u16_at u32_at
p_rounds = rw (p_allowance, p_open)

-- and so many may be asked for
pub p_rounds_fit : 30000003 ≤ max_budget
p_rounds_fit = rw p_rounds at (rounds_fit Plain file_p p_passes)

-- E8: a finishing run has one more
pub p_finish_rounds : rounds_enough Finishing problem_p ≡ 30000004
unfolding round_bound
p_finish_rounds = rw (p_allowance, p_open)

pub p_finish_fits : 30000004 ≤ max_budget
p_finish_fits = rw p_finish_rounds at (rounds_fit Finishing file_p p_passes)

pub p_lent : (budget : ℕ) → budget ≤ max_budget → solve_questions problem_p budget (lent 3) ≡ passes
unfolding solve_questions problem_of states_at rows_at u16_at u32_at
p_lent budget l = yes_ask 13 0 (le-leb budget max_budget l)

pub p_runs
    : (budget : ℕ) → budget ≤ max_budget
    → solution Plain file_p budget (lent 3)
    ≡ solution_of problem_p (lent 3).walk_list (run_of Plain problem_p budget (lent 3).values (lent 3).picks (lent 3).remembered)
p_runs budget l = runs_the_rounds Plain file_p budget (lent 3) p_passes (p_lent budget l)

-- "Budget 0 is spent with the first state"
pub p_spent : (solution Plain file_p 0 (lent 3)).answer ≡ spent (counts 0 0 0)
unfolding solution_of_with goes_on_with run_from_with machine_start
p_spent = ap (λ a. a.answer) (p_runs 0 (omega arith))

-- after as many rounds as its budget has
pub p_spent_late : ◌≡◌ {A = ℕ} 0 0
p_spent_late = spent_late Plain file_p 0 (lent 3) (counts 0 0 0) p_spent

pub p_ends
    : (c : Counts) × ((solution Plain file_p 30000003 (lent 3)).answer ≡ solved c) × (c.rounds ≤ 30000003)
p_ends = rw p_rounds at (ending Plain file_p 30000003 (lent 3) p_passes (p_lent 30000003 (omega arith)) (rw p_rounds (omega arith)))

-- with the budget of `plan`, which is less, P is solved too, and what is left is accepted
pub p_acceptance : audit file_p (planned file_p 3).tables.values (planned file_p 3).tables.picks ≡ accepted 100000
p_acceptance = acceptance Plain file_p plan_rounds (lent 3) (counts 3 5 100000) p_solved

-- E8: P's finishing run ends solved within one round more. The file with e 100 whose plain run ends under its pick is finished in 9 rounds:
-- the value of its start is then that of its row, 1,000 + 333 × 1,498 / 1,000, the audit under 1 takes it with C 1,000, and 1,000 × V covers
-- the plan in 999ths
pub p_finishes
    : (c : Counts) × ((solution Finishing file_p 30000004 (lent 3)).answer ≡ solved c) × (c.rounds ≤ 30000004)
p_finishes =
    rw p_finish_rounds at
    (ending Finishing file_p 30000004 (lent 3) p_passes (p_lent 30000004 (omega arith)) (rw p_finish_rounds (omega arith)))

pub coarse_passes : file_questions coarse ≡ passes
coarse_passes = (retuned_file rounding 100 (omega arith) (omega arith) (audit_yes rounding values_r picks_r 1000 computed.2).file_passes).0

pub coarse_tolerance : problem_of coarse ≡ with_tolerance 100 (problem_of rounding)
coarse_tolerance =
    (retuned_file rounding 100 (omega arith) (omega arith) (audit_yes rounding values_r picks_r 1000 computed.2).file_passes).1

abbrev pub finished_coarse : Tables
finished_coarse = (finishing coarse plan_rounds 2).tables

pub coarse_exact
    : by_state finished_coarse.values 0
    ≡ pick_value (problem_of coarse) (by_state finished_coarse.values) (by_state finished_coarse.picks) 0
unfolding problem_of at_tolerance states_at number_bytes u16_at u32_at
coarse_exact = finished_to_the_tick coarse plan_rounds (lent 2) (counts 9 9 1000) finishings_hold.0 0 at_start_lem refl

pub coarse_accepted : audit (at_tolerance 1 coarse) finished_coarse.values finished_coarse.picks ≡ accepted 1000
coarse_accepted = (finished_acceptance coarse plan_rounds (lent 2) (counts 9 9 1000) finishings_hold.0).1

pub coarse_cover
    : Cover (problem_of coarse) 999 (plan_of (problem_of coarse) (by_state finished_coarse.picks))
    (λ s. 1000 * by_state finished_coarse.values s) (Reached (problem_of coarse) (by_state finished_coarse.picks))
coarse_cover = (finished_closeness coarse plan_rounds (lent 2) (counts 9 9 1000) finishings_hold.0).1

-- and with no budget P's two runs are spent alike
pub p_spent_alike : solution Finishing file_p 0 (lent 3) ≡ solution Plain file_p 0 (lent 3)
p_spent_alike = spent_alike file_p 0 (lent 3) (counts 0 0 0) p_spent

-- E3: what the division leaves of P's row 0 is below 1,000
pub p_remainder : row_remainder problem_p (by_state values_p) 0 < problem_p.total
unfolding problem_of u16_at u32_at
p_remainder = remainder_low problem_p (by_state values_p) 0 (leb-true _ _ refl)

pub p_file_remainder : row_remainder problem_p (by_state values_p) 0 < problem_p.total
p_file_remainder = file_remainder_low file_p p_passes (by_state values_p) 0

-- after solved the start, which the plan comes to, has a line; the state that is next in the list, 1, 0, 65,535, is one that it comes to
pub p_left
    : (planned file_p 3).tables.walk_list
    ≡ list_table problem_p.states (walk problem_p (by_state (planned file_p 3).tables.picks)).list (replicate 3 7)
p_left = solved_leaves_the_walk Plain file_p plan_rounds (lent 3) (counts 3 5 100000) p_solved

pub p_start_listed : HasLine problem_p (planned file_p 3) 0
unfolding problem_of states_at u16_at u32_at
p_start_listed = (solved_lists_the_plan Plain file_p plan_rounds (lent 3) (counts 3 5 100000) p_solved 0).1 (at_start_lem, refl)

pub p_listed_reached : Reached problem_p (by_state (planned file_p 3).tables.picks) 1 × (problem_p.goal 1 ≡ false)
unfolding run_states listed problem_of states_at u16_at
p_listed_reached =
    (solved_lists_the_plan Plain file_p plan_rounds (lent 3) (counts 3 5 100000) p_solved 1).0
    (rw p_solved (omega arith), rw (p_solved, others_hold.1.1.1.1.0) refl)

pub p_line : PickLine problem_p (by_state (planned file_p 3).tables.values) 0 (get_or (planned file_p 3).tables.picks 0 0)
p_line = lines_name_picks Plain file_p plan_rounds (lent 3) 0 p_start_listed

-- E5: a stick of 250 mm at rate 700; E4's table, as a list that is filled with it; and P's row 1, of kind 1 and rate 1,000
pub rounded_250 : (600 * 250 ≤ length_seconds 250 700 * 700) × (length_seconds 250 700 * 700 < 600 * 250 + 700)
rounded_250 = rounding_rule 250 700 (omega arith)

abbrev pub table_e4 : List ℕ
table_e4 = fill_to (λ i. rate_seconds (min_rate + i)) (replicate rate_count 0) rate_count

pub e4_sheet : table_text table_e4 ≡ sheet_text 1000
e4_sheet = sheet_is_the_table table_e4 entry
  where
    entry : (rate : ℕ) → min_rate ≤ rate → rate ≤ max_rate → get_or table_e4 (rate - min_rate) 0 ≡ rate_seconds rate
    entry rate low high =
        let same : min_rate + (rate - min_rate) ≡ rate = omega arith in
        fill_entry (λ i. rate_seconds (min_rate + i)) (replicate rate_count 0) rate_count (rate - min_rate)
        (omega (arith, length-replicate {A = ℕ} rate_count 0)) (omega arith)
        ∙ ap rate_seconds same

pub p_rate : problem_p.cost 1 ≡ length_seconds 1000 1000
unfolding states_at rows_at u16_at
p_rate = files_keep_meaning file_p 1 refl

-- Request E6: P and what a partner made of it say the same problem, since their set forms are equal, and the data of P's form can be encoded

pub p_same : Same problem_p (problem_of partner_p)
p_same = (equal_forms file_p partner_p p_passes forms_hold.1.1.1.0).0 (forms_hold.0 ∙ sym forms_hold.1.0)

pub p_encodable : Encodable (in_set_form problem_p)
p_encodable = form_encodable file_p p_passes

pub p_reads_back : (file_questions (encode (in_set_form problem_p)) ≡ passes) × Says (in_set_form problem_p) (problem_of (encode (in_set_form problem_p)))
p_reads_back = encoded_reads_back (in_set_form problem_p) p_encodable

pub p_partner_audit : audit file_p values_p picks_p ≡ audit partner_p values_p picks_p
p_partner_audit =
    equal_forms_audit file_p partner_p p_passes forms_hold.1.1.1.0 (forms_hold.0 ∙ sym forms_hold.1.0) values_p picks_p

-- Request E9: P is within the counts of document 01, so that `plan` prints of it what it did
pub p_within : CountsWithin old_limits file_p
unfolding problem_of states_at rows_at outcomes_at u16_at
p_within = record { states = omega arith; rows = omega arith; outcomes = omega arith }

pub p_stored_text
    : plan_text problem_p (solution_within old_limits Plain file_p plan_rounds (plan_tables old_limits (replicate 1024 0) (replicate 1024 0)))
    ≡ plan_text problem_p (plan_solution Plain file_p (replicate max_states 0) (replicate max_states 0))
p_stored_text =
    stored_text file_p p_within Plain _ _ _ _ (le_of_eq (sym (length-replicate {A = ℕ} 1024 0)))
    (le_of_eq (sym (length-replicate {A = ℕ} 1024 0))) (le_of_eq (sym (length-replicate {A = ℕ} max_states 0)))
    (le_of_eq (sym (length-replicate {A = ℕ} max_states 0))) (omega arith)

-- and a file of n states that all give up, having no rows: with 1,025 it passes, and an older reader meets it with 2 at section 1
abbrev bare : ℕ → Problem
bare n =
    record {
      start = 0;
      tolerance = 1;
      penalty = 1;
      total = thousandths;
      states = n;
      rows = 0;
      goal = λ s. false;
      estimate = λ s. 0;
      first_row = λ s. 0;
      row_count = λ s. 0;
      cost = λ r. 1;
      outcomes = λ r. [];
    }

bare_encodable : (n : ℕ) → 1 ≤ n → n ≤ max_states → Encodable (bare n)
unfolding sum_to
bare_encodable n low high =
    record {
      formed =
          record {
            start_state = omega arith;
            start_open = refl;
            tolerance_low = omega arith;
            tolerance_high = omega arith;
            penalty_low = omega arith;
            penalty_high = omega arith;
            total_known = refl;
            states_high = high;
            rows_high = omega arith;
            rows_start = refl;
            rows_follow = λ s. refl;
            rows_end = refl;
            goal_rows = λ s l g. refl;
            goal_estimate = λ s l g. refl;
            estimate_high = λ s l. omega arith;
            cost_low = λ r l. absurd (omega arith);
            cost_high = λ r l. absurd (omega arith);
            successor_state = λ r l. absurd (omega arith);
            weight_low = λ r l. absurd (omega arith);
            weights = λ r l. absurd (omega arith);
            estimate_under = λ s r l a b. absurd (omega arith);
          };
      outcomes_fit = omega arith;
    }

pub longer_met
    : (file_questions (encode (bare 1025)) ≡ passes) × (file_questions_within old_limits (encode (bare 1025)) ≡ fails 2 1)
longer_met =
    let said = encoded_reads_back (bare 1025) (bare_encodable 1025 (omega arith) (omega arith)) in
    (said.0, older_reader (encode (bare 1025)) said.0 ∙ rw (← said.1.states) refl)

-- P's form passes, has 3 settings, says the same problem, is no longer than P, and is its own form
pub p_form
    : (file_questions (set_form file_p) ≡ passes) × (u16_at (set_form file_p) 0 ≡ settings_on (eqb problem_p.total 1000))
    × Same problem_p (problem_of (set_form file_p)) × (length (set_form file_p) ≤ length file_p) × (set_form (set_form file_p) ≡ set_form file_p)
p_form = (
  form_is_accepted file_p p_passes,
  form_setting_count file_p p_passes,
  form_says_the_same file_p p_passes,
  form_no_longer file_p p_passes,
  form_stays file_p p_passes,
)

-- its row 1 has kind 0, the successors of its row 0 are 1 and 2, and none of these has chance 0

p_form_row : (r : ℕ) → r < 3 → r < (problem_of (set_form file_p)).rows
unfolding problem_of states_at rows_at u16_at
p_form_row r l = rw forms_hold.0 l

pub p_form_kind : kind_of (set_form file_p) 1 ≡ 0
p_form_kind = form_kind file_p p_passes 1 (p_form_row 1 (omega arith))

pub p_form_rises
    : get_or (successors (problem_of (set_form file_p)) 0) 0 0 < get_or (successors (problem_of (set_form file_p)) 0) 1 0
unfolding problem_of states_at rows_at outcomes_at outcomes_from sum_to u16_at
p_form_rises = form_rises file_p p_passes 0 (p_form_row 0 (omega arith)) 0 1 (omega arith) (rw forms_hold.0 (leb-true _ _ refl))

pub p_form_weights : (o : Outcome) → In o ((problem_of (set_form file_p)).outcomes 0) → 1 ≤ o.weight
p_form_weights = form_weights file_p p_passes 0 (p_form_row 0 (omega arith))

-- and the same values, remainders and audits

pub p_form_values
    : (row_value (problem_of (set_form file_p)) (by_state values_p) 0 ≡ row_value problem_p (by_state values_p) 0)
    × (row_remainder (problem_of (set_form file_p)) (by_state values_p) 0 ≡ row_remainder problem_p (by_state values_p) 0)
    × (audit (set_form file_p) values_p picks_p ≡ audit file_p values_p picks_p)
unfolding problem_of states_at rows_at u16_at
p_form_values = (
  form_values file_p p_passes (by_state values_p) 0 (leb-true _ _ refl),
  form_remainders file_p p_passes (by_state values_p) 0 (leb-true _ _ refl),
  form_audits file_p p_passes values_p picks_p,
)

-- P is longer than 4 bytes for each of its 3 states
pub p_long : 4 * 3 < length file_p
unfolding problem_of states_at u16_at
p_long = file_longer_than_tables file_p p_passes

-- a refusal: "Empty file: 1, place 0"
pub empty_refused : (kind : Kind) (budget : ℕ) (t : Tables) → (solution kind [] budget t).answer ≡ refused 1 0
empty_refused kind budget t =
    ap (λ a. a.answer) (solution_refused kind [] budget t 1 0 (rw cases_hold.1.1.1.1.1.1.1.1.1.1.0))

pub empty_stays : (kind : Kind) (budget : ℕ) (t : Tables) → (solution kind [] budget t).tables ≡ t
empty_stays kind budget t = (refusal kind [] budget t 1 0 (empty_refused kind budget t)).1
