-- What is promised of the rules of documents 01 and 02: each sentence is quoted over the theorem that it is, and a proof is a line
-- that cites. Nothing has to be believed but the model. The statements add `Met`, `run_to`, `finished_values`, `finished_picks`, `after` and
-- `taken` below and, of other files, with what these rest on: `Accepts`, with `AcceptsWithin`, `NoUndercut` and `Marked`; `with_tolerance`;
-- `Beyond`; `HasLine` and `PickLine`; `Encodable`, with `WellFormed`; `Says`; `machine_of`; `Allowed`; `Takes`; `CountsWithin`; `cut`. All
-- else that a statement names is of the model, or of the kit.
use Rattle.std.specs.Prelude.{◌≡◌, ℕ, ◌+◌, ◌-◌, ◌*◌, ◌≤◌, ◌<◌, Bool, true, false, ◌⊎◌, ◌↔◌, eqb, leb, ℤ, pos, get_or, length}
use Rattle.std.proofs.Common.{sym, ◌∙◌, ap, subst, arith}
use mathlib.Core.List.{List, [], ◌∷◌, ◌++◌, append-nil}
use Rattle.model.specs.Limits.{old_limits, max_states, max_tolerance, max_budget, plan_rounds, plan_holds, value_bound, give_up, no_pick}
use Rattle.model.specs.Limits.{max_moves, min_rate, max_rate}
use Rattle.model.specs.Problem.{Problem, Outcome, give_up_cost, own_row}
use Rattle.model.specs.Value.{by_state, weighted_sum, row_ticks, row_value, row_remainder}
use Rattle.model.specs.Sections.{length_seconds, rate_seconds, kind_of, cost_number_of, outcomes_at, at_tolerance, problem_of}
use Rattle.model.specs.Questions.{passes, fails, ◌then◌, ask, file_questions, file_questions_within}
use Rattle.model.specs.Walk.{In, walk, Reached, successors, pick_cost, least_cost}
use Rattle.model.specs.Rounds.{Machine, scan_of, backup, backups, walked, round, round_with, machine_start, run_from, run_of}
use Rattle.model.specs.Rounds.{list_table, bellman}
use Rattle.model.specs.declared.Counts.{Counts}
use Rattle.model.specs.declared.Kind.{Kind}
use Rattle.model.specs.declared.Kind.TheVariants.{Plain, Finishing}
use Rattle.model.specs.Solution.{Tables, solved, spent, refused, solution_of, solve_questions, solution, solution_within}
use Rattle.model.specs.Answers.{answer_carries}
use Rattle.model.specs.Audit.{accepted, refused as audit_refused, own_pick, pick_value, audit, audit_within}
use Rattle.model.specs.Following.{way_to, way_seconds, has_outcome, done, refused as report_refused, Report, at_start, opening, report}
use Rattle.model.specs.Following.{opening_within, report_within}
use Rattle.model.specs.Lookup.{rows_of, rows_within}
use Rattle.model.specs.Lines.{plan_text}
use Rattle.model.specs.Following.{reports, accepted_of}
use Rattle.model.specs.declared.Follower.{Follower}
use Rattle.model.specs.Cover.{Choice, Cover, plan_of}
use Rattle.model.specs.Promises.{rounds_enough, plan_tables, plan_solution}
use Rattle.model.specs.Sheets.{sheet_text, table_text}
use Rattle.model.specs.Bytes.{u16_at}
use Rattle.model.specs.Encoding.{settings_on, encode}
use Rattle.model.specs.SetForm.{set_form, Same, exchange, exchange_within}
use Rattle.guarantee.specs.Rates.{seconds_rounded, rate_cost, table_printed}
use Rattle.guarantee.specs.Totals.{total_low}
use Rattle.guarantee.specs.WellFormed.{well_formed, file_long}
use Rattle.guarantee.specs.Walks.{reached_marked, walk_whole, listed_reached, listed_open, reached_listed, listed_places}
use Rattle.guarantee.specs.Walks.{least_low, least_cheapest}
use Rattle.guarantee.specs.Accepted.{Accepts, audit_exactly, audit_table}
use Rattle.guarantee.proofs.Closeness.{audit_lower, audit_close}
use Rattle.guarantee.specs.Sound.{Allowed, best_is_bellman, backup_rises}
use Rattle.guarantee.proofs.RowsFit.{evaluation_fits}
use Rattle.guarantee.specs.Sound.{scan_gives_up, scan_takes_row, scan_pick_stays, scan_order_wins}
use Rattle.guarantee.specs.Backups.{machine_of, run_keeps, whole_run_keeps}
use Rattle.guarantee.proofs.Budgets.{rounds_enough_fit}
use Rattle.guarantee.specs.Retuned.{with_tolerance, retuned_passes, retuned_problem}
use Rattle.guarantee.proofs.Finished.{finished_exact}
use Rattle.guarantee.specs.Beyond.{Beyond, solution_beyond}
use Rattle.guarantee.specs.Hollow.{table_too_dear}
use Rattle.guarantee.specs.Underway.{Underway, turn_open, underway_start, underway_walked, underway_backup, scan_any_memory}
use Rattle.guarantee.proofs.Ended.{solution_ends}
use Rattle.guarantee.specs.Solutions.{lent_sound, solution_run, spent_budget, spent_the_same, refused_by}
use Rattle.guarantee.specs.Solutions.{evaluations_few, answer_accepted, answer_gives_up}
use Rattle.guarantee.specs.Lent.{cut}
use Rattle.guarantee.specs.Longer.{CountsWithin, old_verdict, old_solution, old_audit, old_exchange, old_opening}
use Rattle.guarantee.specs.Longer.{old_report, old_rows}
use Rattle.guarantee.specs.Longer.{old_text, old_tables, larger_met}
use Rattle.guarantee.specs.Values.{row_value-exact, row_remainder-low}
use Rattle.guarantee.specs.Listings.{HasLine, PickLine, lines_pick, solved_list, solved_lines}
use Rattle.guarantee.specs.Follows.{opened, opens, audit_first, opening_stays, report_stays, ended_refused, given_up_ended}
use Rattle.guarantee.specs.Follows.{given_up_left, row_left, Takes, done_takes, takes_done}
use Rattle.guarantee.specs.Shifts.{Came, nothing_follows, reports_came, OnTheWay, reports_underway, goal_ended}
use Rattle.guarantee.specs.Shifts.{outcome_missing, way_goes_on, moves_spent, ended_stays}
use Rattle.guarantee.specs.Encodings.{Encodable, Says, encode_reads}
use Rattle.guarantee.specs.Passing.{encode_passes}
use Rattle.guarantee.specs.Forms.{form_short, forms_same, same_forms, form_passes, form_says_same, form_again, form_row_values}
use Rattle.guarantee.specs.Forms.{form_row_remainders, form_audit, same_forms_audits, form_count_lem, form_kinds, form_rising}
use Rattle.guarantee.specs.Forms.{form_weighs}

-- Demand 3: "Take any file, table V and plan that the audit accepts; e is the file's tolerance and C the least cost on the plan, both in
-- ticks."
module _ (f values picks : List ℕ) (C : ℕ) (said : audit f values picks ≡ accepted C) where
  -- "For every whole K of at least 1, every cover, in K-ths of a tick, of every plan for that file has at the start at least K × V(start)."
  pub closeness_lower
      : (K : ℕ) → 1 ≤ K → (plan : ℕ → Choice) (u : ℕ → ℕ) (set : ℕ → Type 0) → Cover (problem_of f) K plan u set
      → K * by_state values (problem_of f).start ≤ u (problem_of f).start
  closeness_lower = audit_lower f values picks C said

  -- "And C × V covers the accepted plan in (C − e)-ths."
  pub closeness_upper
      : Cover (problem_of f) (C - (problem_of f).tolerance) (plan_of (problem_of f) (by_state picks)) (λ s. C * by_state values s)
      (Reached (problem_of f) (by_state picks))
  closeness_upper = (audit_close f values picks C said).upper

  -- these are no empty words: C is above e
  pub closeness_positive : 1 ≤ C - (problem_of f).tolerance
  closeness_positive = (audit_close f values picks C said).positive

-- Demand 2: "the audit accepts exactly when its questions all say yes". The record `Accepts` tells 16 to 19 in plain facts
pub exactly
    : (f values picks : List ℕ) (C : ℕ)
    → (audit f values picks ≡ accepted C)
    ↔ ((file_questions f ≡ passes) × ((problem_of f).states ≤ length values) × ((problem_of f).states ≤ length picks)
    × Accepts (problem_of f) (by_state values) (by_state picks) C)
exactly = audit_exactly

-- Document 01: "Giving up in every state: .. the audit under 17 or 19 where a row at the start is cheaper by e or more under that table."
-- It is enough that the start's pick gives up; the table is one that question 16 lets through
pub giving_up_refused
    : (f values picks : List ℕ) → file_questions f ≡ passes → (problem_of f).states ≤ length values → (problem_of f).states ≤ length picks
    → ((s : ℕ) → s < (problem_of f).states → (problem_of f).goal s ≡ true → by_state values s ≡ 0)
    → ((s : ℕ) → s < (problem_of f).states → (problem_of f).goal s ≡ false → by_state values s ≤ give_up_cost (problem_of f))
    → by_state picks (problem_of f).start ≡ give_up
    → (r : ℕ) → own_row (problem_of f) (problem_of f).start r ≡ true
    → row_value (problem_of f) (by_state values) r + (problem_of f).tolerance ≤ give_up_cost (problem_of f)
    → (q : ℕ) × (i : ℕ) × (excess : ℤ) × (audit f values picks ≡ audit_refused q i excess) × ((q ≡ 17) ⊎ (q ≡ 19))
giving_up_refused f values picks file values_long picks_long zeros high gives r own cheaper =
    let dear = table_too_dear (problem_of f) (well_formed f file) (by_state values) (by_state picks) gives zeros high r own cheaper in
    (dear.question, dear.place, dear.excess, audit_table f values picks file values_long picks_long ∙ dear.refusal, dear.number)

-- Demand 2: "A solved or spent run equals, in values, moves and counts, the rounds of document 01": what is handed back is that of `run_of`,
-- the rounds of the plain run or of E8's
pub runs_the_rounds
    : (kind : Kind) (f : List ℕ) (budget : ℕ) (t : Tables) → file_questions f ≡ passes → solve_questions (problem_of f) budget t ≡ passes
    → solution kind f budget t
    ≡ solution_of (problem_of f) t.walk_list (run_of kind (problem_of f) budget t.values t.picks t.remembered)
runs_the_rounds kind f budget t file lent = solution_run f budget t file lent kind

-- "If the budget is reached first, the run is spent.": none says so before it has done every round of its budget
pub spent_late
    : (kind : Kind) (f : List ℕ) (budget : ℕ) (t : Tables) (c : Counts) → (solution kind f budget t).answer ≡ spent c → c.rounds ≡ budget
spent_late = spent_budget

-- "in every table entries beyond stay": those of `Beyond`, however the call ends
pub beyond_stays : (kind : Kind) (f : List ℕ) (budget : ℕ) (t : Tables) → Beyond (problem_of f) t (solution kind f budget t).tables
beyond_stays = solution_beyond

-- Demand 3: "Whatever the file and the lent tables hold, if questions 1 to 13 say yes, a run of the rounds of document 01 given at least
-- (A + 1) × (n + 1) rounds ends solved, A being the file's rise allowance and n the number of its states that aren't goals." Request E8, of
-- a finishing one: "It ends within (B + 1) × (n + 1) + 1 rounds, B being the allowance computed with e = 1."
pub ending
    : (kind : Kind) (f : List ℕ) (budget : ℕ) (t : Tables) → file_questions f ≡ passes → solve_questions (problem_of f) budget t ≡ passes
    → rounds_enough kind (problem_of f) ≤ budget
    → (c : Counts) × ((solution kind f budget t).answer ≡ solved c) × (c.rounds ≤ rounds_enough kind (problem_of f))
ending kind f budget t file lent room =
    let run = solution_ends f budget t file lent kind room in (run.counts, run.ends, run.within)

-- so many rounds may always be asked for: question 13 lets them through
pub rounds_fit : (kind : Kind) (f : List ℕ) → file_questions f ≡ passes → rounds_enough kind (problem_of f) ≤ max_budget
rounds_fit kind f file = rounds_enough_fit (problem_of f) (well_formed f file) kind

-- Demand 3: "Whenever a run of these rounds ends solved, at whatever budget, the audit accepts that file with the values and picks the run
-- left, and gives the run's C."
pub acceptance
    : (kind : Kind) (f : List ℕ) (budget : ℕ) (t : Tables) (c : Counts) → (solution kind f budget t).answer ≡ solved c
    → audit f (solution kind f budget t).tables.values (solution kind f budget t).tables.picks ≡ accepted c.least
acceptance = answer_accepted

-- Request E1: "a stick is given up only when that is cheaper". A solved plan gives up at a reached state only where every row costs
-- more under the values left
pub plan_gives_up_when_cheaper
    : (kind : Kind) (f : List ℕ) (budget : ℕ) (t : Tables) (c : Counts) → (solution kind f budget t).answer ≡ solved c
    → (s : ℕ) → Reached (problem_of f) (by_state (solution kind f budget t).tables.picks) s → (problem_of f).goal s ≡ false
    → by_state (solution kind f budget t).tables.picks s ≡ give_up → (r : ℕ) → own_row (problem_of f) s r ≡ true
    → give_up_cost (problem_of f) < row_value (problem_of f) (by_state (solution kind f budget t).tables.values) r
plan_gives_up_when_cheaper = answer_gives_up

-- Request E8, finish to the tick, of a finishing run that ended solved.
module _ (f : List ℕ) (budget : ℕ) (t : Tables) (c : Counts) (solved_so : (solution Finishing f budget t).answer ≡ solved c) where
  abbrev pub finished_values : List ℕ
  finished_values = (solution Finishing f budget t).tables.values

  abbrev pub finished_picks : List ℕ
  finished_picks = (solution Finishing f budget t).tables.picks

  -- "Then the value at every walked state is exactly the pick's row value, or 1000 × D." The walked states are the reached ones that are no
  -- goals (`solved_lists_the_plan`)
  pub finished_to_the_tick
      : (s : ℕ) → Reached (problem_of f) (by_state finished_picks) s → (problem_of f).goal s ≡ false
      → by_state finished_values s ≡ pick_value (problem_of f) (by_state finished_values) (by_state finished_picks) s
  finished_to_the_tick = (finished_exact f budget t c solved_so).exact

  -- "The audit accepts the answer under the file's own e", which is `acceptance`, "and under 1.": with 1 in the bytes of its tolerance the
  -- file passes questions 1 to 11 too, and is accepted with the run's C
  pub finished_acceptance
      : (file_questions (at_tolerance 1 f) ≡ passes) × (audit (at_tolerance 1 f) finished_values finished_picks ≡ accepted c.least)
  finished_acceptance = let h = finished_exact f budget t c solved_so in (h.tick_passes, h.tick_accepted)

  -- Demand 3 under 1: "And C × V covers the accepted plan in (C − e)-ths", with e = 1, for the file itself
  pub finished_closeness
      : (1 ≤ c.least - 1)
      × Cover (problem_of f) (c.least - 1) (plan_of (problem_of f) (by_state finished_picks)) (λ s. c.least * by_state finished_values s)
      (Reached (problem_of f) (by_state finished_picks))
  finished_closeness = let h = (finished_exact f budget t c solved_so).close in (h.positive, h.upper)

-- "the file with 1 in the bytes of its tolerance", or with any other that question 4 lets through: its problem is the same but for that
pub retuned_file
    : (f : List ℕ) (e : ℕ) → 1 ≤ e → e ≤ max_tolerance → file_questions f ≡ passes
    → (file_questions (at_tolerance e f) ≡ passes) × (problem_of (at_tolerance e f) ≡ with_tolerance e (problem_of f))
retuned_file f e low high file = (retuned_passes f e low high file, retuned_problem f e low high file)

-- The plain run is the first part of the finishing one: where its budget ends in it, both leave the same
pub spent_alike
    : (f : List ℕ) (budget : ℕ) (t : Tables) (c : Counts) → (solution Plain f budget t).answer ≡ spent c
    → solution Finishing f budget t ≡ solution Plain f budget t
spent_alike = spent_the_same

-- Document 01: "The result carries .. evaluations": at the limits of E9 and with every budget that question 13 lets through they fit in 64
-- bits
pub evaluations_fit
    : (kind : Kind) (f : List ℕ) (budget : ℕ) (t : Tables)
    → (answer_carries (solution kind f budget t).answer).counts.evaluations < value_bound * value_bound
evaluations_fit = evaluations_few

-- Request E9, longer cores: "every stored file within the old counts, and its plan, gives the same answer, 25 aside". Such a file
-- (`CountsWithin`), whatever else is given, has within the limits of document 01
module _ (f : List ℕ) (within : CountsWithin old_limits f) where
  -- the verdict,
  pub stored_verdict : file_questions_within old_limits f ≡ file_questions f
  stored_verdict = old_verdict f within

  -- the solution with all tables, plain and finishing,
  pub stored_solution
      : (kind : Kind) (budget : ℕ) (t : Tables) → solution_within old_limits kind f budget t ≡ solution kind f budget t
  stored_solution = old_solution f within

  -- the audit,
  pub stored_audit : (values picks : List ℕ) → audit_within old_limits f values picks ≡ audit f values picks
  stored_audit = old_audit f within

  -- the set form, with what it leaves of an output,
  pub stored_form : (out : List ℕ) → exchange_within old_limits f out ≡ exchange f out
  stored_form = old_exchange f within

  -- the follower's opening and its reports,
  pub stored_opening
      : (values picks : List ℕ) (w : Follower) → opening_within old_limits f values picks w ≡ opening f values picks w
  stored_opening = old_opening f within

  pub stored_report
      : (values picks : List ℕ) (w : Follower) (o : ℕ) → report_within old_limits f values picks w o ≡ report f values picks w o
  stored_report = old_report f within

  -- the rows of a state that are looked up,
  pub stored_rows : (s : ℕ) → rows_within old_limits f s ≡ rows_of f s
  stored_rows = old_rows f within

  -- and, where `plan` holds it, the text that `plan` prints, though the tables it is lent and makes are longer now; and, where it passes,
  -- their entries at states and rows (`cut`)
  module _ (kind : Kind) (values picks values' picks' : List ℕ) (v : old_limits.states ≤ length values)
      (p : old_limits.states ≤ length picks) (v' : max_states ≤ length values') (p' : max_states ≤ length picks')
      (short : length f ≤ plan_holds) where
    pub stored_text
        : plan_text (problem_of f) (solution_within old_limits kind f plan_rounds (plan_tables old_limits values picks))
        ≡ plan_text (problem_of f) (plan_solution kind f values' picks')
    stored_text = old_text f within kind values picks values' picks' v p v' p' short

    pub stored_tables
        : file_questions f ≡ passes
        → cut (problem_of f) (solution_within old_limits kind f plan_rounds (plan_tables old_limits values picks))
        ≡ cut (problem_of f) (plan_solution kind f values' picks')
    stored_tables = old_tables f within kind values picks values' picks' v p v' p' short

-- "An older reader meets a larger file with question 2.": of a file that passes now the limits of document 01 let through the counts that
-- are within them, and meet the first that is above at its section; they find nothing else
pub older_reader
    : (f : List ℕ) → file_questions f ≡ passes
    → file_questions_within old_limits f
    ≡ (ask 2 1 (leb (problem_of f).states old_limits.states)
    then ask 2 2 (leb (problem_of f).rows old_limits.rows)
    then ask 2 3 (leb (u16_at f (outcomes_at f)) old_limits.outcomes))
older_reader = larger_met old_limits

-- Request E3: "The row value shall come with its remainder, 0 to 999", and E7: "Remainders run below W.": W × (value − 1000 × c) and the
-- remainder are together the exact sum, whatever W is, and the remainder is below every W of at least 1
module _ (p : Problem) (v : ℕ → ℕ) (r : ℕ) where
  pub value_with_remainder : p.total * (row_value p v r - row_ticks p r) + row_remainder p v r ≡ weighted_sum (p.outcomes r) v
  value_with_remainder = row_value-exact p r v

  pub remainder_low : 1 ≤ p.total → row_remainder p v r < p.total
  remainder_low some = row_remainder-low p r some v

-- and so below W in every file that questions 1 to 11 let through, whatever the table and the row
pub file_remainder_low
    : (f : List ℕ) → file_questions f ≡ passes → (v : ℕ → ℕ) (r : ℕ) → row_remainder (problem_of f) v r < (problem_of f).total
file_remainder_low f file v r = remainder_low (problem_of f) v r (total_low (well_formed f file))

-- "Each state line of `plan` ends with the remainder of its pick under the final values, 0 for `give`." Solved or spent, a state with a
-- line (`HasLine`) gives up, and its remainder is 0, or takes one of its own rows, and its remainder is that row's (`PickLine`)
pub lines_name_picks
    : (kind : Kind) (f : List ℕ) (budget : ℕ) (t : Tables) (s : ℕ) → HasLine (problem_of f) (solution kind f budget t) s
    → PickLine (problem_of f) (by_state (solution kind f budget t).tables.values) s (get_or (solution kind f budget t).tables.picks s 0)
lines_name_picks = lines_pick

-- "then for each state of the last walk, by state number": after solved the last walk is that of the picks that are left. The walk list
-- left is its list, then 65,535s up to the number of states, then the lent entries beyond
pub solved_leaves_the_walk
    : (kind : Kind) (f : List ℕ) (budget : ℕ) (t : Tables) (c : Counts) → (solution kind f budget t).answer ≡ solved c
    → (solution kind f budget t).tables.walk_list
    ≡ list_table (problem_of f).states (walk (problem_of f) (by_state (solution kind f budget t).tables.picks)).list t.walk_list
solved_leaves_the_walk = solved_list

-- and the states that stand in it, which are those that `plan` has a line for, are exactly those that the plan left comes to, goals aside
pub solved_lists_the_plan
    : (kind : Kind) (f : List ℕ) (budget : ℕ) (t : Tables) (c : Counts) → (solution kind f budget t).answer ≡ solved c
    → (s : ℕ) → HasLine (problem_of f) (solution kind f budget t) s
    ↔ (Reached (problem_of f) (by_state (solution kind f budget t).tables.picks) s × ((problem_of f).goal s ≡ false))
solved_lists_the_plan = solved_lines

-- Request E5: "cost 600 × length / rate rounded up", and "the rounding rule holds for each length by one argument". With c for the cost,
-- c × rate is at least 600 × length, and (c − 1) × rate is below it: of every length, and of every rate of at least 1
pub rounding_rule
    : (mm rate : ℕ) → 1 ≤ rate → (600 * mm ≤ length_seconds mm rate * rate) × (length_seconds mm rate * rate < 600 * mm + rate)
rounding_rule = seconds_rounded

-- "Its 1,000 mm sheet is the table of E4": of every table whose entry r − 10 is what rate r costs in a file, which `rate_sheet` promises of
-- E4's
pub sheet_is_the_table
    : (table : List ℕ) → ((rate : ℕ) → min_rate ≤ rate → rate ≤ max_rate → get_or table (rate - min_rate) 0 ≡ rate_seconds rate)
    → table_text table ≡ sheet_text 1000
sheet_is_the_table = table_printed

-- "Files keep the 1,000 mm meaning.": a row of kind 1 costs what the 1,000 mm sheet has at its rate
pub files_keep_meaning : (f : List ℕ) (r : ℕ) → kind_of f r ≡ 1 → (problem_of f).cost r ≡ length_seconds 1000 (cost_number_of f r)
files_keep_meaning = rate_cost

-- Request E6, one agreed form for exchange: "Two accepted files with equal settings, estimates, goals, number of rows at each state,
-- row costs and total chance from each row to each state have equal set forms, and only such files do."
pub equal_forms
    : (f g : List ℕ) → file_questions f ≡ passes → file_questions g ≡ passes
    → (set_form f ≡ set_form g) ↔ Same (problem_of f) (problem_of g)
equal_forms f g file file' = (forms_same f g file file', same_forms f g file file')

module _ (f : List ℕ) (file : file_questions f ≡ passes) where
  -- a set form is a file that questions 1 to 11 let through
  pub form_is_accepted : file_questions (set_form f) ≡ passes
  form_is_accepted = form_passes f file

  -- Request E7: "The set form writes count 3 if W is 1,000", and else 4
  pub form_setting_count : u16_at (set_form f) 0 ≡ settings_on (eqb (problem_of f).total 1000)
  form_setting_count = form_count_lem f file

  -- "Costs become kind 0.", in each row, by the form's own bytes
  pub form_kind : (r : ℕ) → r < (problem_of (set_form f)).rows → kind_of (set_form f) r ≡ 0
  form_kind = form_kinds f file

  -- "Outcomes of a row stand in rising successor number, repeats added together.": as the form's bytes say them, the successor at each
  -- place is above those at the places before it, so that none repeats
  pub form_rises
      : (r : ℕ) → r < (problem_of (set_form f)).rows → (i j : ℕ) → i < j → j < length (successors (problem_of (set_form f)) r)
      → get_or (successors (problem_of (set_form f)) r) i 0 < get_or (successors (problem_of (set_form f)) r) j 0
  form_rises = form_rising f file

  -- and no outcome of it has chance 0
  pub form_weights
      : (r : ℕ) → r < (problem_of (set_form f)).rows → (o : Outcome) → In o ((problem_of (set_form f)).outcomes r) → 1 ≤ o.weight
  form_weights = form_weighs f file

  -- and it says the same problem
  pub form_says_the_same : Same (problem_of f) (problem_of (set_form f))
  form_says_the_same = form_says_same f file

  -- no output as long as the file is too short for it
  pub form_no_longer : length (set_form f) ≤ length f
  form_no_longer = form_short f file

  -- "Writing a set form again changes nothing."
  pub form_stays : set_form (set_form f) ≡ set_form f
  form_stays = form_again f file

  -- "Row values and audit results agree between a file and its set form.": under every table, the remainders too; and the audit's
  -- whole answer, of every two tables
  pub form_values
      : (v : ℕ → ℕ) (r : ℕ) → r < (problem_of f).rows → row_value (problem_of (set_form f)) v r ≡ row_value (problem_of f) v r
  form_values = form_row_values f file

  pub form_remainders
      : (v : ℕ → ℕ) (r : ℕ) → r < (problem_of f).rows → row_remainder (problem_of (set_form f)) v r ≡ row_remainder (problem_of f) v r
  form_remainders = form_row_remainders f file

  pub form_audits : (values picks : List ℕ) → audit (set_form f) values picks ≡ audit f values picks
  form_audits = form_audit f file

-- so two laboratories that hold files with equal set forms get the same answer of the audit
pub equal_forms_audit
    : (f g : List ℕ) → file_questions f ≡ passes → file_questions g ≡ passes → set_form f ≡ set_form g → (values picks : List ℕ)
    → audit f values picks ≡ audit g values picks
equal_forms_audit = same_forms_audits

-- What is written reads back: the bytes of any data that obey the sections (`Encodable`) are a file that questions 1 to 11 let through,
-- and its problem says these data (`Says`)
pub encoded_reads_back : (p : Problem) → Encodable p → (file_questions (encode p) ≡ passes) × Says p (problem_of (encode p))
encoded_reads_back p fits = (encode_passes p fits, encode_reads p fits)

-- "values as 32-bit and picks as 16-bit numbers, .. one entry a state": a file that passes is longer than each of its tables, and so is
-- never taken for one where only a file as long as a table is written over
pub file_longer_than_tables : (f : List ℕ) → file_questions f ≡ passes → 4 * (problem_of f).states < length f
file_longer_than_tables = file_long

-- Demand 1: "the first failed question of document 01 with its place, lent tables unchanged", since E10 with no exception. The question is
-- one of 1 to 13
pub refusal
    : (kind : Kind) (f : List ℕ) (budget : ℕ) (t : Tables) (q i : ℕ) → (solution kind f budget t).answer ≡ refused q i
    → ((file_questions f then solve_questions (problem_of f) budget t) ≡ fails q i) × ((solution kind f budget t).tables ≡ t)
refusal kind f budget t q i h = let by = refused_by kind f budget t q i h in (by.failed, by.left)

-- The machines that rounds of a problem from lent tables meet, with the states that are still to be backed up in their round: at first;
-- after the walk of a round, with the whole list; after the backup of the state whose turn it is, with whatever tolerance, with the states
-- behind it.
pub data Met (p : Problem) (t : Tables) : List ℕ → Machine → Type 0 where
  starts : Met p t [] (machine_start p t.values t.picks t.remembered)
  walks : {m : Machine} → Met p t [] m → Met p t (walk p (by_state m.picks)).list (walked p m)
  backs_up : (e : ℕ) {s : ℕ} {rest : List ℕ} {m : Machine} → Met p t (s ∷ rest) m → Met p t rest (backup p e s m)

module _ (p : Problem) (t : Tables) (e : ℕ) where
  backups_met : (l rest : List ℕ) (m : Machine) → Met p t (l ++ rest) m → Met p t rest (backups p e l m)
  unfolding backups
  backups_met [] rest m met = met
  backups_met (s ∷ l) rest m met = backups_met l rest (backup p e s m) (backs_up e met)

  -- within a round, the machine whenever so many of the listed states are backed up
  turn_met
      : (m : Machine) (l rest : List ℕ) → Met p t [] m → (walk p (by_state m.picks)).list ≡ l ++ rest
      → Met p t rest (backups p e l (walked p m))
  turn_met m l rest met is = backups_met l rest (walked p m) (subst (λ x. Met p t x (walked p m)) is (walks met))

  round_met : (m : Machine) → Met p t [] m → Met p t [] (round p e m)
  unfolding round_with
  round_met m met = turn_met m (walk p (by_state m.picks)).list [] met (sym (append-nil _))

  -- a run from a machine that is met, with whatever tolerance, ends at one
  pub run_goes_on_met
      : (budget : ℕ) (going : Bool) (n : ℕ) (m : Machine) → Met p t [] m → Met p t [] (machine_of (run_from p e budget going n m))
  run_goes_on_met = run_keeps p e (λ n. Met p t []) (λ n. round_met)

-- the machine that a run from lent tables comes to with a budget
abbrev pub run_to : Kind → Problem → Tables → ℕ → Machine
run_to kind p t budget = machine_of (run_of kind p budget t.values t.picks t.remembered)

-- so, whatever the budget, and after each round, the run's machine is met
pub run_met : (kind : Kind) (p : Problem) (t : Tables) (budget : ℕ) → Met p t [] (run_to kind p t budget)
run_met kind p t budget =
    whole_run_keeps p (λ n. Met p t []) (λ e n. round_met p t e) kind budget t.values t.picks t.remembered starts

-- What holds on every round of a file and lent tables that pass questions 1 to 13.
module _ (f : List ℕ) (budget : ℕ) (t : Tables) (file : file_questions f ≡ passes)
    (lent : solve_questions (problem_of f) budget t ≡ passes) where
  underway : {rest : List ℕ} {m : Machine} → Met (problem_of f) t rest m → Underway (problem_of f) rest m
  underway starts = underway_start (problem_of f) _ (lent_sound f budget t file lent)
  underway (walks {m = m} met) = underway_walked (problem_of f) (well_formed f file) (problem_of f).tolerance m (underway met)
  underway (backs_up e {s = s} {rest = rest} {m = m} met) =
      underway_backup (problem_of f) (well_formed f file) e s rest m (underway met)

  -- Request E10: "Operators must acknowledge number 14 in their handbook and no file has produced it. Show that an accepted file never
  -- leads to it, at the limits of E9 and for each W": under the values of every machine that is met each row's value fits in 32 bits
  pub row_values_fit
      : {rest : List ℕ} {m : Machine} → Met (problem_of f) t rest m → (r : ℕ) → r < (problem_of f).rows
      → row_value (problem_of f) (by_state m.values) r < value_bound
  row_values_fit {m = m} met = evaluation_fits (problem_of f) (well_formed f file) m (underway met).sound

  -- and so whatever a run evaluates, plain or finishing: after n rounds of it, in the next, of either part's tolerance, when the states of
  -- `l` are backed up and the turn is that of the first of `rest`
  pub run_values_fit
      : (kind : Kind) (n e : ℕ) (l rest : List ℕ)
      → (walk (problem_of f) (by_state (run_to kind (problem_of f) t n).picks)).list ≡ l ++ rest → (r : ℕ) → r < (problem_of f).rows
      → row_value (problem_of f) (by_state (backups (problem_of f) e l (walked (problem_of f) (run_to kind (problem_of f) t n))).values) r
      < value_bound
  run_values_fit kind n e l rest is = row_values_fit (turn_met (problem_of f) t e _ l rest (run_met kind (problem_of f) t n) is)

  -- Demand 2: "A solved or spent run equals, in values, moves and counts, the rounds of document 01, built on the Bellman backup". Best of
  -- a backup is document 000's definition 4 under the values of that moment, with giving up as one more choice
  pub built_on_bellman
      : {s : ℕ} {rest : List ℕ} {m : Machine} → Met (problem_of f) t (s ∷ rest) m
      → (scan_of (problem_of f) s m).best ≡ bellman (problem_of f) (by_state m.values) s
  built_on_bellman {s = s} {m = m} met =
      best_is_bellman (problem_of f) (well_formed f file) s m (turn_open (underway met)).state (underway met).sound

  -- Request E1: "a stick is given up only when that is cheaper": where a backup gives up, every row of the state costs more than
  -- 1000 × D under the values of that moment
  pub gives_up_when_cheaper
      : {s : ℕ} {rest : List ℕ} {m : Machine} → Met (problem_of f) t (s ∷ rest) m → (scan_of (problem_of f) s m).pick ≡ give_up
      → (r : ℕ) → own_row (problem_of f) s r ≡ true → give_up_cost (problem_of f) < row_value (problem_of f) (by_state m.values) r
  gives_up_when_cheaper {s = s} {m = m} met =
      scan_gives_up (problem_of f) (well_formed f file) s m (turn_open (underway met)).state (underway met).sound

  -- "A row whose value equals 1000 × D now beats giving up": where some row's value is at most 1000 × D, a backup picks a row
  pub row_beats_giving_up
      : {s : ℕ} {rest : List ℕ} {m : Machine} → Met (problem_of f) t (s ∷ rest) m
      → (r : ℕ) → own_row (problem_of f) s r ≡ true → row_value (problem_of f) (by_state m.values) r ≤ give_up_cost (problem_of f)
      → own_row (problem_of f) s (scan_of (problem_of f) s m).pick ≡ true
  row_beats_giving_up {s = s} {m = m} met =
      scan_takes_row (problem_of f) (well_formed f file) s m (turn_open (underway met)).state (underway met).sound

  -- "among rows the earlier pick and then row order still win": where the row picked before is worth best it is picked again; where
  -- another is picked, each row before that one costs more than best
  pub earlier_pick_wins
      : {s : ℕ} {rest : List ℕ} {m : Machine} → Met (problem_of f) t (s ∷ rest) m
      → own_row (problem_of f) s (get_or m.picks s 0) ≡ true
      → row_value (problem_of f) (by_state m.values) (get_or m.picks s 0) ≤ (scan_of (problem_of f) s m).best
      → (scan_of (problem_of f) s m).pick ≡ get_or m.picks s 0
  earlier_pick_wins {s = s} {m = m} met =
      scan_pick_stays (problem_of f) (well_formed f file) s m (turn_open (underway met)).state (underway met).sound

  pub row_order_wins
      : {s : ℕ} {rest : List ℕ} {m : Machine} → Met (problem_of f) t (s ∷ rest) m
      → ((scan_of (problem_of f) s m).pick ≡ get_or m.picks s 0 → ⊥) → (r : ℕ) → own_row (problem_of f) s r ≡ true
      → r < (scan_of (problem_of f) s m).pick → (scan_of (problem_of f) s m).best < row_value (problem_of f) (by_state m.values) r
  row_order_wins {s = s} {m = m} met =
      scan_order_wins (problem_of f) (well_formed f file) s m (turn_open (underway met)).state (underway met).sound

  -- remembered values never exceed row values
  pub remembered_low
      : {rest : List ℕ} {m : Machine} → Met (problem_of f) t rest m → (r : ℕ) → r < (problem_of f).rows
      → get_or m.remembered r 0 ≤ row_value (problem_of f) (by_state m.values) r
  remembered_low met = (underway met).sound.memory

  -- a skipped row would not have been picked: by any other memory that is at most the row values, such as one of zeros, by which no row is
  -- skipped, a scan ends at the same best and the same pick
  pub skipped_not_picked
      : {s : ℕ} {rest : List ℕ} {m : Machine} → Met (problem_of f) t (s ∷ rest) m → (m' : Machine)
      → m'.values ≡ m.values → m'.picks ≡ m.picks
      → ((r : ℕ) → r < (problem_of f).rows → get_or m'.remembered r 0 ≤ row_value (problem_of f) (by_state m.values) r)
      → ((scan_of (problem_of f) s m').best ≡ (scan_of (problem_of f) s m).best)
      × ((scan_of (problem_of f) s m').pick ≡ (scan_of (problem_of f) s m).pick)
  skipped_not_picked {s = s} {m = m} met m' =
      scan_any_memory (problem_of f) (well_formed f file) s m m' (turn_open (underway met)).state (underway met).sound

  -- values only rise
  pub values_rise
      : {s : ℕ} {rest : List ℕ} {m : Machine} → Met (problem_of f) t (s ∷ rest) m → (e x : ℕ)
      → get_or m.values x 0 ≤ get_or (backup (problem_of f) e s m).values x 0
  values_rise {s = s} {m = m} met =
      backup_rises (problem_of f) (well_formed f file) s m (turn_open (underway met)).state (underway met).sound

  -- and stay at most 1000 × D
  pub values_high
      : {rest : List ℕ} {m : Machine} → Met (problem_of f) t rest m → (s : ℕ) → s < (problem_of f).states
      → get_or m.values s 0 ≤ give_up_cost (problem_of f)
  values_high met = (underway met).sound.high

  -- "picks (16 bits: row number, 65,535 giving up, 65,534 no pick, also at goals)": a row number is that of one of the state's own rows
  pub picks_held
      : {rest : List ℕ} {m : Machine} → Met (problem_of f) t rest m → (s : ℕ) → s < (problem_of f).states
      → Allowed (problem_of f) s (get_or m.picks s 0)
  picks_held met = (underway met).sound.picked

  pub goals_unpicked
      : {rest : List ℕ} {m : Machine} → Met (problem_of f) t rest m → (s : ℕ) → s < (problem_of f).states → (problem_of f).goal s ≡ true
      → get_or m.picks s 0 ≡ no_pick
  goals_unpicked met = (underway met).sound.goal_picks

-- The walk of a file that passes questions 1 to 11, and C, under any picks.
module _ (f : List ℕ) (picks : ℕ → ℕ) (file : file_questions f ≡ passes) where
  -- the marks are the reached states
  pub marks_are_reached : (s : ℕ) → (get_or (walk (problem_of f) picks).marks s 0 ≡ 1) ↔ Reached (problem_of f) picks s
  marks_are_reached s =
      ((walk_whole (problem_of f) (well_formed f file) picks).within s, reached_marked (problem_of f) (well_formed f file) picks s)

  -- the list holds each reached state that is no goal, once
  pub list_is_open_reached
      : (s : ℕ) → In s (walk (problem_of f) picks).list ↔ (Reached (problem_of f) picks s × ((problem_of f).goal s ≡ false))
  list_is_open_reached s = (
    λ i. (listed_reached (problem_of f) (well_formed f file) picks s i, listed_open (problem_of f) (well_formed f file) picks s i),
    λ h. reached_listed (problem_of f) (well_formed f file) picks s h.0 h.1,
  )

  pub list_holds_once
      : (i j : ℕ) → i < length (walk (problem_of f) picks).list → j < length (walk (problem_of f) picks).list
      → get_or (walk (problem_of f) picks).list i 0 ≡ get_or (walk (problem_of f) picks).list j 0 → i ≡ j
  list_holds_once = listed_places (problem_of f) (well_formed f file) picks

  -- "C is the least of 1000 × c or 1000 × D over the picks at reached states that aren't goals": at most each of them, and one of them
  pub least_at_most
      : (s : ℕ) → Reached (problem_of f) picks s → (problem_of f).goal s ≡ false
      → least_cost (problem_of f) picks ≤ pick_cost (problem_of f) picks s
  least_at_most = least_low (problem_of f) (well_formed f file) picks

  pub least_is_one
      : (s : ℕ) × Reached (problem_of f) picks s × ((problem_of f).goal s ≡ false)
      × (least_cost (problem_of f) picks ≡ pick_cost (problem_of f) picks s)
  least_is_one =
      let one = least_cheapest (problem_of f) (well_formed f file) picks in (one.state, one.reached, one.state_open, one.cost)

-- Request E2, following a plan, over any file, tables and records.
module _ (f values picks : List ℕ) where
  -- "Opening and each report put the audit's questions first.": where one says no, it is the answer, and the record stays
  pub audit_asked_first
      : (q i : ℕ) (excess : ℤ) → audit f values picks ≡ audit_refused q i excess → (w : Follower)
      → (opening f values picks w ≡ record { answer = report_refused q i excess; left = w })
      × ((o : ℕ) → report f values picks w o ≡ record { answer = report_refused q i excess; left = w })
  audit_asked_first q i excess = audit_first f values picks

  -- "A follower is opened on a file and an accepted plan at the start state. .. Opening starts with no moves, no seconds and the mark
  -- clear.", and on no other file and plan
  pub opens_at_start
      : (C : ℕ) → audit f values picks ≡ accepted C → (w : Follower)
      → opening f values picks w
      ≡ record { answer = done; left = record { state = (problem_of f).start; moves = 0; seconds = 0; mark = 0 } }
  opens_at_start C = opened f values picks

  pub opens_on_accepted : (w : Follower) → (opening f values picks w).answer ≡ done → (C : ℕ) × (audit f values picks ≡ accepted C)
  opens_on_accepted = opens f values picks

  -- "A refused opening or report alters nothing.": nor do reports that follow a refused opening
  pub refused_opening
      : (w : Follower) (q i : ℕ) (excess : ℤ) → (opening f values picks w).answer ≡ report_refused q i excess
      → ((opening f values picks w).left ≡ w) × ((os : List ℕ) → reports f values picks os (opening f values picks w).left ≡ w)
  refused_opening w q i excess h = (opening_stays f values picks w h, nothing_follows f values picks w h)

  pub refused_report
      : (w : Follower) (o q i : ℕ) (excess : ℤ) → (report f values picks w o).answer ≡ report_refused q i excess
      → (report f values picks w o).left ≡ w
  refused_report w o q i excess = report_stays f values picks w o

  -- "Then a report meets 20 .., 21 .., and 22 ..": it is done exactly when these and the audit's questions say yes. The record `Takes`
  -- tells what each asks in plain facts
  pub report_exactly : (w : Follower) (o : ℕ) → ((report f values picks w o).answer ≡ done) ↔ Takes f values picks w o
  report_exactly w o = (done_takes f values picks w o, takes_done f values picks w o)

  -- "A state that gives up has outcome 0 only: it counts as a move, adds D, keeps the state, sets a mark in the record"
  pub giving_up_report
      : (w : Follower) (o : ℕ) → (report f values picks w o).answer ≡ done → by_state picks w.state ≡ give_up
      → (o ≡ 0) × ((report f values picks w o).left
      ≡ record { state = w.state; moves = w.moves + 1; seconds = w.seconds + (problem_of f).penalty; mark = 1 })
  giving_up_report = given_up_left f values picks

  -- "Each report names which outcome of the picked row occurred, counted from 0.": the record goes where it leads, and the mark is clear
  pub row_report
      : (w : Follower) (o : ℕ) → (report f values picks w o).answer ≡ done → (by_state picks w.state ≡ give_up → ⊥)
      → (o < length ((problem_of f).outcomes (by_state picks w.state))) × ((report f values picks w o).left
      ≡ record {
        state = get_or (successors (problem_of f) (by_state picks w.state)) o w.state;
        moves = w.moves + 1;
        seconds = w.seconds + (problem_of f).cost (by_state picks w.state);
        mark = 0;
      })
  row_report = row_left f values picks

-- "For every list of reports from opening, all on one file and plan": a follower that was opened, and a list of reports
module _ (f values picks : List ℕ) (lent : Follower) (opens_done : (opening f values picks lent).answer ≡ done) (os : List ℕ) where
  -- the record after them
  abbrev pub after : Follower
  after = reports f values picks os (opening f values picks lent).left

  -- those of them that were accepted
  abbrev pub taken : List ℕ
  taken = accepted_of f values picks os (opening f values picks lent).left

  accepts : (C : ℕ) × (audit f values picks ≡ accepted C)
  accepts = opens f values picks lent opens_done

  began : (opening f values picks lent).left ≡ at_start (problem_of f)
  began = ap (λ (r : Report). r.left) (opened f values picks accepts.1 lent)

  came : Came f values picks (at_start (problem_of f)) taken after
  came = rw began (reports_came f values picks os (at_start (problem_of f)))

  following : OnTheWay f values picks after
  following = rw began (reports_underway f values picks os)

  -- "its state is the one that the accepted reports lead to, its moves are their number, and its seconds the sum of their costs"
  pub follows_state : after.state ≡ way_to (problem_of f) (by_state picks) (problem_of f).start taken
  follows_state = came.state_is

  pub follows_moves : after.moves ≡ length taken
  follows_moves = omega (arith, came.moves_are)

  pub follows_seconds : after.seconds ≡ way_seconds (problem_of f) (by_state picks) (problem_of f).start taken
  follows_seconds = omega (arith, came.seconds_are)

  -- the record's state is always reached
  pub follows_reached : Reached (problem_of f) (by_state picks) after.state
  follows_reached = following.reached

  -- the shift goes on: before its end and a million moves, a report of an outcome that the pick has is done
  pub follows_on
      : after.mark ≡ 0 → (problem_of f).goal after.state ≡ false → after.moves < max_moves → (o : ℕ)
      → has_outcome (problem_of f) (by_state picks after.state) o ≡ true → (report f values picks after o).answer ≡ done
  follows_on = way_goes_on f values picks accepts.1 after following

  -- since its state is reached, a report is refused under 22 only for its outcome
  pub refused_for_outcome
      : (o i : ℕ) (excess : ℤ) → (report f values picks after o).answer ≡ report_refused 22 i excess
      → (after.state < (problem_of f).states) × (own_pick (problem_of f) after.state (by_state picks after.state) ≡ true)
      × (has_outcome (problem_of f) (by_state picks after.state) o ≡ false)
  refused_for_outcome o i excess = outcome_missing f values picks accepts.1 after following o

  -- and under 21 only at a million moves, never for the seconds
  pub refused_for_moves
      : (o i : ℕ) (excess : ℤ) → (report f values picks after o).answer ≡ report_refused 21 i excess → after.moves ≡ max_moves
  refused_for_moves o i excess = moves_spent f values picks accepts.1 after following o

  -- "A goal ends it.": every report from then on meets 20, and the record stays
  pub goal_ends
      : (problem_of f).goal after.state ≡ true → (more : List ℕ) (o : ℕ)
      → report f values picks (reports f values picks more after) o ≡ record { answer = report_refused 20 0 (pos 0); left = after }
  goal_ends goal more o =
      let e = goal_ended f values picks accepts.1 after following goal in
      rw (ended_stays f values picks accepts.1 after e more) (ended_refused f values picks accepts.1 after e o)

  -- "A state that gives up .. sets a mark in the record and so ends it.": the same after a report that was done at such a state
  pub giving_up_ends
      : (o : ℕ) → (report f values picks after o).answer ≡ done → by_state picks after.state ≡ give_up → (more : List ℕ) (o' : ℕ)
      → report f values picks (reports f values picks more (report f values picks after o).left) o'
      ≡ record { answer = report_refused 20 0 (pos 0); left = (report f values picks after o).left }
  giving_up_ends o h gives more o' =
      let next = (report f values picks after o).left in
      let e = given_up_ended f values picks after o h gives in
      rw (ended_stays f values picks accepts.1 next e more) (ended_refused f values picks accepts.1 next e o')
