-- What questions 1 to 11 give: where the parts of the file lie within its bytes, and that the problem read off it is well formed.
-- Each question's yes is turned into plain facts by the laws of searches and tests; the facts are collected in records.
use Rattle.std.specs.Prelude.{◌≡◌, refl, ℕ, suc, ◌+◌, ◌*◌, ◌≤◌, ◌<◌, Bool, true, false, ◌&&◌, ◌||◌, List, ltb, length}
use Rattle.std.proofs.Common.{arith}
use Rattle.std.proofs.Math.Dec.{leb, eqb}
use borrow.Author.Tests.{leb-true, ltb-true, eqb-true, ne_eqb, not-true}
use Rattle.model.specs.Bytes.{u16_at}
use Rattle.model.specs.Limits.{min_settings, max_settings, weight_totals, max_states, max_rows, max_outcomes, max_tolerance, max_penalty}
use Rattle.model.specs.Limits.{max_seconds}
use Rattle.model.specs.Limits.{min_rate, max_rate, file_stick}
use Rattle.model.specs.Problem.{Problem, Outcome, give_up_cost, end_row}
use Rattle.model.specs.Search.{sum_to, one_of}
use Rattle.model.specs.Value.{row_value, total_weight}
use Rattle.model.specs.Sections.{section_end, states_at, rows_at, outcomes_at, file_end, state_at, row_count_of, goal_byte_of, first_row_of, row_at}
use Rattle.model.specs.Sections.{kind_of, outcome_count_of, cost_number_of, rate_seconds, seconds_on, first_outcome_of, outcome_at, problem_of}
use Rattle.model.specs.Questions.{passes, ◌then◌, ask, between, section_questions, end_question, layout_questions}
use Rattle.model.specs.Questions.{layout_questions_within, setting_questions}
use Rattle.model.specs.Questions.{state_obeys, state_question, start_question, row_number_question, cost_obeys, row_obeys, row_question}
use Rattle.model.specs.Questions.{outcome_number_question, outcomes_obey, row_sound, outcome_question, estimate_question, item_questions}
use Rattle.model.specs.Questions.{file_questions, file_questions_within}
use Rattle.model.specs.Walk.{In, here, there}
use Rattle.guarantee.specs.Rates.{seconds_low, seconds_high}
use Rattle.guarantee.specs.Searches.{and_left, and_right, or_skip, then_first, then_next, ask_yes, ask_each_yes, sum_monotone}
use Rattle.guarantee.specs.Searches.{sum_room}
use Rattle.guarantee.specs.Undercuts.{undercut_none}
use Rattle.guarantee.specs.Parts.{outcome_obeys}

-- what questions 1 to 11 give of a problem, with names: whoever holds this looks at no byte again
pub record WellFormed (p : Problem) : Type 0 where
  pub start_state : p.start < p.states
  pub start_open : p.goal p.start ≡ false
  pub tolerance_low : 1 ≤ p.tolerance
  pub tolerance_high : p.tolerance ≤ max_tolerance
  pub penalty_low : 1 ≤ p.penalty
  pub penalty_high : p.penalty ≤ max_penalty
  pub total_known : one_of p.total weight_totals ≡ true
  pub states_high : p.states ≤ max_states
  pub rows_high : p.rows ≤ max_rows
  pub rows_start : p.first_row 0 ≡ 0
  pub rows_follow : (s : ℕ) → p.first_row (suc s) ≡ end_row p s
  pub rows_end : p.first_row p.states ≡ p.rows
  pub goal_rows : (s : ℕ) → s < p.states → p.goal s ≡ true → p.row_count s ≡ 0
  pub goal_estimate : (s : ℕ) → s < p.states → p.goal s ≡ true → p.estimate s ≡ 0
  pub estimate_high : (s : ℕ) → s < p.states → p.estimate s ≤ give_up_cost p
  pub cost_low : (r : ℕ) → r < p.rows → 1 ≤ p.cost r
  pub cost_high : (r : ℕ) → r < p.rows → p.cost r ≤ max_seconds
  pub successor_state : (r : ℕ) → r < p.rows → (o : Outcome) → In o (p.outcomes r) → o.successor < p.states
  pub weight_low : (r : ℕ) → r < p.rows → (o : Outcome) → In o (p.outcomes r) → 1 ≤ o.weight
  pub weights : (r : ℕ) → r < p.rows → total_weight (p.outcomes r) ≡ p.total
  pub estimate_under : (s r : ℕ) → s < p.states → p.first_row s ≤ r → r < end_row p s → p.estimate s ≤ row_value p p.estimate r

-- a section's count bytes and items are there, and its count is in range
pub record SectionThere (size low high : ℕ) (f : List ℕ) (i : ℕ) : Type 0 where
  pub count_there : i + 2 ≤ length f
  pub count_low : low ≤ u16_at f i
  pub count_high : u16_at f i ≤ high
  pub items_there : section_end size f i ≤ length f

-- what questions 1 to 3 give: the four sections and the file's end
pub record Sectioned (f : List ℕ) : Type 0 where
  pub settings_low : min_settings ≤ u16_at f 0
  pub settings_high : u16_at f 0 ≤ max_settings
  pub states_at_lem : states_at f ≡ 2 + 4 * u16_at f 0
  pub rows_at_lem : rows_at f ≡ state_at f (u16_at f (states_at f))
  pub outcomes_at_lem : outcomes_at f ≡ row_at f (u16_at f (rows_at f))
  pub end_at : outcomes_at f + 2 + 4 * u16_at f (outcomes_at f) ≡ length f
  pub file_end_lem : file_end f ≡ length f
  pub states_low : 1 ≤ u16_at f (states_at f)
  pub states_high : u16_at f (states_at f) ≤ max_states
  pub rows_high : u16_at f (rows_at f) ≤ max_rows
  pub outcomes_high : u16_at f (outcomes_at f) ≤ max_outcomes
  pub state_in : (s : ℕ) → s < u16_at f (states_at f) → state_at f s + 6 ≤ length f
  pub row_in : (r : ℕ) → r < u16_at f (rows_at f) → row_at f r + 4 ≤ length f

-- what questions 7 and 9 add: each state's rows and each row's outcomes lie in their sections
pub record Laid (f : List ℕ) : Type 0 where
  pub sections : Sectioned f
  pub rows_sum : first_row_of f (u16_at f (states_at f)) ≡ u16_at f (rows_at f)
  pub outcomes_sum : first_outcome_of f (u16_at f (rows_at f)) ≡ u16_at f (outcomes_at f)
  pub first_row_high : (s : ℕ) → s ≤ u16_at f (states_at f) → first_row_of f s ≤ u16_at f (rows_at f)
  pub end_row_high : (s : ℕ) → s < u16_at f (states_at f) → first_row_of f s + row_count_of f s ≤ u16_at f (rows_at f)
  pub rows_in : (s : ℕ) → s < u16_at f (states_at f) → row_at f (first_row_of f s) + 4 * row_count_of f s ≤ length f
  pub first_outcome_high : (r : ℕ) → r ≤ u16_at f (rows_at f) → first_outcome_of f r ≤ u16_at f (outcomes_at f)
  pub end_outcome_high : (r : ℕ) → r < u16_at f (rows_at f) → first_outcome_of f r + outcome_count_of f r ≤ u16_at f (outcomes_at f)
  pub outcomes_in_lem : (r : ℕ) → r < u16_at f (rows_at f) → outcome_at f r + 4 * outcome_count_of f r ≤ length f

pub between_low : (low high x : ℕ) → between low high x ≡ true → low ≤ x
between_low low high x h = leb-true low x (and_left (leb low x) (leb x high) h)

pub between_high : (low high x : ℕ) → between low high x ≡ true → x ≤ high
between_high low high x h = leb-true x high (and_right (leb low x) (leb x high) h)

-- three tests in a row
ask_thrice : (q i q' i' q'' i'' : ℕ) (a b c : Bool) → (ask q i a then ask q' i' b then ask q'' i'' c) ≡ passes
    → (a ≡ true) × (b ≡ true) × (c ≡ true)
ask_thrice q i q' i' q'' i'' a b c h =
    let rest : (ask q' i' b then ask q'' i'' c) ≡ passes = then_next (ask q i a) (ask q' i' b then ask q'' i'' c) h in (
      ask_yes q i a (then_first (ask q i a) (ask q' i' b then ask q'' i'' c) h),
      ask_yes q' i' b (then_first (ask q' i' b) (ask q'' i'' c) rest),
      ask_yes q'' i'' c (then_next (ask q' i' b) (ask q'' i'' c) rest),
    )

-- questions 1 to 3

pub section_there : (place i size low high : ℕ) (f : List ℕ) → section_questions place i size low high f ≡ passes
    → SectionThere size low high f i
unfolding section_questions
section_there place i size low high f h =
    let end = section_end size f i in
    let yes = ask_thrice 1 place 2 place 1 place (leb (i + 2) (length f)) (between low high (u16_at f i)) (leb end (length f)) h in
    record {
      count_there = leb-true _ _ yes.0;
      count_low = between_low low high _ yes.1;
      count_high = between_high low high _ yes.1;
      items_there = leb-true _ _ yes.2;
    }

pub sectioned : (f : List ℕ) → layout_questions f ≡ passes → Sectioned f
unfolding layout_questions_within end_question states_at rows_at outcomes_at file_end
sectioned f h =
    let q₀ = section_questions 0 0 4 min_settings max_settings f in
    let q₁ = section_questions 1 (states_at f) 6 1 max_states f in
    let q₂ = section_questions 2 (rows_at f) 4 0 max_rows f in
    let q₃ = section_questions 3 (outcomes_at f) 4 0 max_outcomes f in
    let q₄ = end_question f in
    let h₁ = then_next q₀ (q₁ then q₂ then q₃ then q₄) h in
    let h₂ = then_next q₁ (q₂ then q₃ then q₄) h₁ in
    let h₃ = then_next q₂ (q₃ then q₄) h₂ in
    let settings = section_there 0 0 4 min_settings max_settings f (then_first q₀ (q₁ then q₂ then q₃ then q₄) h) in
    let states = section_there 1 (states_at f) 6 1 max_states f (then_first q₁ (q₂ then q₃ then q₄) h₁) in
    let rows = section_there 2 (rows_at f) 4 0 max_rows f (then_first q₂ (q₃ then q₄) h₂) in
    let outcomes = section_there 3 (outcomes_at f) 4 0 max_outcomes f (then_first q₃ q₄ h₃) in
    let end : file_end f ≡ length f = eqb-true _ _ (ask_yes 3 3 (eqb (file_end f) (length f)) (then_next q₃ q₄ h₃)) in
    record {
      settings_low = omega arith;
      settings_high = omega arith;
      states_at_lem = omega arith;
      rows_at_lem = refl;
      outcomes_at_lem = refl;
      end_at = end;
      file_end_lem = end;
      states_low = omega arith;
      states_high = omega arith;
      rows_high = omega arith;
      outcomes_high = omega arith;
      state_in = λ s l. omega arith;
      row_in = λ r l. omega arith;
    }

-- each of questions 4 to 11 passes
record Asked (f : List ℕ) (p : Problem) : Type 0 where
  settings : setting_questions p ≡ passes
  states : state_question f p ≡ passes
  start : start_question p ≡ passes
  row_numbers : row_number_question p ≡ passes
  rows : row_question f p ≡ passes
  outcome_numbers : outcome_number_question f p ≡ passes
  outcomes : outcome_question p ≡ passes
  estimates : estimate_question p ≡ passes

asked : (f : List ℕ) → file_questions f ≡ passes → Asked f (problem_of f)
unfolding file_questions_within item_questions
asked f h =
    let p = problem_of f in
    let q₅ = state_question f p in
    let q₆ = start_question p in
    let q₇ = row_number_question p in
    let q₈ = row_question f p in
    let q₉ = outcome_number_question f p in
    let q₁₀ = outcome_question p in
    let q₁₁ = estimate_question p in
    let h₄ = then_next (layout_questions f) (setting_questions p then item_questions f p) h in
    let h₅ = then_next (setting_questions p) (item_questions f p) h₄ in
    let h₆ = then_next q₅ (q₆ then q₇ then q₈ then q₉ then q₁₀ then q₁₁) h₅ in
    let h₇ = then_next q₆ (q₇ then q₈ then q₉ then q₁₀ then q₁₁) h₆ in
    let h₈ = then_next q₇ (q₈ then q₉ then q₁₀ then q₁₁) h₇ in
    let h₉ = then_next q₈ (q₉ then q₁₀ then q₁₁) h₈ in
    let h₁₀ = then_next q₉ (q₁₀ then q₁₁) h₉ in
    record {
      settings = then_first (setting_questions p) (item_questions f p) h₄;
      states = then_first q₅ (q₆ then q₇ then q₈ then q₉ then q₁₀ then q₁₁) h₅;
      start = then_first q₆ (q₇ then q₈ then q₉ then q₁₀ then q₁₁) h₆;
      row_numbers = then_first q₇ (q₈ then q₉ then q₁₀ then q₁₁) h₇;
      rows = then_first q₈ (q₉ then q₁₀ then q₁₁) h₈;
      outcome_numbers = then_first q₉ (q₁₀ then q₁₁) h₉;
      outcomes = then_first q₁₀ q₁₁ h₁₀;
      estimates = then_next q₁₀ q₁₁ h₁₀;
    }

-- questions 7 and 9

pub row_sum_lem : (p : Problem) → row_number_question p ≡ passes → sum_to p.row_count p.states ≡ p.rows
unfolding row_number_question
row_sum_lem p h = eqb-true _ _ (ask_yes 7 0 (eqb (sum_to p.row_count p.states) p.rows) h)

pub outcome_sum_lem : (f : List ℕ) (p : Problem) → outcome_number_question f p ≡ passes → first_outcome_of f p.rows ≡ u16_at f (outcomes_at f)
unfolding outcome_number_question
outcome_sum_lem f p h = eqb-true _ _ (ask_yes 9 0 (eqb (sum_to (outcome_count_of f) p.rows) (u16_at f (outcomes_at f))) h)

pub laid_sums : (f : List ℕ) → Sectioned f → first_row_of f (u16_at f (states_at f)) ≡ u16_at f (rows_at f)
    → first_outcome_of f (u16_at f (rows_at f)) ≡ u16_at f (outcomes_at f) → Laid f
laid_sums f sections rows outcomes =
    record {
      sections = sections;
      rows_sum = rows;
      outcomes_sum = outcomes;
      first_row_high = λ s l. omega (arith, sum_monotone (row_count_of f) s (u16_at f (states_at f)) l);
      end_row_high = λ s l. omega (arith, sum_room (row_count_of f) s (u16_at f (states_at f)) l);
      rows_in = λ s l. omega (arith, sum_room (row_count_of f) s (u16_at f (states_at f)) l);
      first_outcome_high = λ r l. omega (arith, sum_monotone (outcome_count_of f) r (u16_at f (rows_at f)) l);
      end_outcome_high = λ r l. omega (arith, sum_room (outcome_count_of f) r (u16_at f (rows_at f)) l);
      outcomes_in_lem = λ r l. omega (arith, sum_room (outcome_count_of f) r (u16_at f (rows_at f)) l);
    }

pub laid : (f : List ℕ) → file_questions f ≡ passes → Laid f
unfolding file_questions_within problem_of
laid f h =
    let p = problem_of f in
    let ask = asked f h in
    laid_sums f (sectioned f (then_first (layout_questions f) (setting_questions p then item_questions f p) h)) (row_sum_lem p ask.row_numbers)
    (outcome_sum_lem f p ask.outcome_numbers)

-- question 5: a goal has no rows and H = 0, and H is at most 1000 × D
module _ (limit estimate row_count goal_byte : ℕ) (h : state_obeys limit estimate row_count goal_byte ≡ true) where
  state_estimate_high : estimate ≤ limit
  unfolding state_obeys
  state_estimate_high =
      leb-true _ _
      (and_right (eqb goal_byte 0 || (eqb row_count 0 && eqb estimate 0)) (leb estimate limit)
      (and_right (leb goal_byte 1) ((eqb goal_byte 0 || (eqb row_count 0 && eqb estimate 0)) && leb estimate limit) h))

  state_goal : eqb goal_byte 1 ≡ true → (eqb row_count 0 && eqb estimate 0) ≡ true
  unfolding state_obeys
  state_goal g =
      let one : goal_byte ≡ 1 = eqb-true _ _ g in
      or_skip (eqb goal_byte 0) (eqb row_count 0 && eqb estimate 0)
      (and_left (eqb goal_byte 0 || (eqb row_count 0 && eqb estimate 0)) (leb estimate limit)
      (and_right (leb goal_byte 1) ((eqb goal_byte 0 || (eqb row_count 0 && eqb estimate 0)) && leb estimate limit) h))
      (ne_eqb goal_byte 0 λ z. omega arith)

  state_goal_rows : eqb goal_byte 1 ≡ true → row_count ≡ 0
  state_goal_rows g = eqb-true _ _ (and_left (eqb row_count 0) (eqb estimate 0) (state_goal g))

  state_goal_estimate : eqb goal_byte 1 ≡ true → estimate ≡ 0
  state_goal_estimate g = eqb-true _ _ (and_right (eqb row_count 0) (eqb estimate 0) (state_goal g))

-- question 8: a cost number in its kind's range gives 1 to 65,535 seconds

seconds_range : (b : Bool) (n : ℕ) → cost_obeys b n ≡ true → (1 ≤ seconds_on b n) × (seconds_on b n ≤ max_seconds)
unfolding cost_obeys seconds_on rate_seconds
seconds_range true n h = (between_low 1 max_seconds n h, between_high 1 max_seconds n h)
seconds_range false n h =
    let low = between_low min_rate max_rate n h in
    (seconds_low file_stick n (omega arith) (omega arith), seconds_high file_stick n (omega arith) low)

row_obeys_lem : (kind count number : ℕ) → row_obeys kind count number ≡ true → (leb 1 count && cost_obeys (eqb kind 0) number) ≡ true
unfolding row_obeys
row_obeys_lem kind count number h = and_right (leb kind 1) (leb 1 count && cost_obeys (eqb kind 0) number) h

pub row_cost : (kind count number : ℕ) → row_obeys kind count number ≡ true → cost_obeys (eqb kind 0) number ≡ true
row_cost kind count number h = and_right (leb 1 count) (cost_obeys (eqb kind 0) number) (row_obeys_lem kind count number h)

-- question 10: successors are states, weights are at least 1

pub outcome_obeys_lem : (n W : ℕ) {o : Outcome} {os : List Outcome} → In o os → outcomes_obey n W os ≡ true → outcome_obeys n W o ≡ true
unfolding outcomes_obey
outcome_obeys_lem n W (here {a = a} {l = l}) h = and_left (outcome_obeys n W a) (outcomes_obey n W l) h
outcome_obeys_lem n W (there {b = b} {l = l} i) h = outcome_obeys_lem n W i (and_right (outcome_obeys n W b) (outcomes_obey n W l) h)

pub successors_states : (p : Problem) → outcome_question p ≡ passes → (r : ℕ) → r < p.rows → (o : Outcome) → In o (p.outcomes r)
    → o.successor < p.states
unfolding outcome_question
successors_states p h r l o i =
    ltb-true _ _ (and_left _ _ (outcome_obeys_lem p.states p.total i (and_left _ _ (ask_each_yes 10 p.rows _ h r l))))

-- questions 4 and 24: what they ask of each setting
pub settings_yes : (p : Problem) → setting_questions p ≡ passes
    → (ltb p.start p.states ≡ true)
    × (between 1 max_tolerance p.tolerance ≡ true)
    × (between 1 max_penalty p.penalty ≡ true)
    × (one_of p.total weight_totals ≡ true)
unfolding setting_questions
settings_yes p h =
    let first = ask 4 0 (ltb p.start p.states) in
    let rest =
    ask 4 1 (between 1 max_tolerance p.tolerance)
    then ask 4 2 (between 1 max_penalty p.penalty)
    then ask 24 3 (one_of p.total weight_totals) in
    let later = ask_thrice 4 1 4 2 24 3 _ _ _ (then_next first rest h) in
    (ask_yes 4 0 _ (then_first first rest h), later.0, later.1, later.2)

-- the problem of a file whose questions 1 to 11 say yes
module _ (f : List ℕ) (h : file_questions f ≡ passes) where
  state_yes : (s : ℕ) → s < (problem_of f).states
      → state_obeys (give_up_cost (problem_of f)) ((problem_of f).estimate s) ((problem_of f).row_count s) (goal_byte_of f s) ≡ true
  unfolding state_question
  state_yes = ask_each_yes 5 (problem_of f).states _ (asked f h).states

  start_yes : (problem_of f).goal (problem_of f).start ≡ false
  unfolding start_question
  start_yes = not-true _ (ask_yes 6 (problem_of f).start _ (asked f h).start)

  row_yes : (r : ℕ) → r < (problem_of f).rows → row_obeys (kind_of f r) (outcome_count_of f r) (cost_number_of f r) ≡ true
  unfolding row_question
  row_yes = ask_each_yes 8 (problem_of f).rows _ (asked f h).rows

  outcomes_yes : (r : ℕ) → r < (problem_of f).rows
      → row_sound (problem_of f).states (problem_of f).total ((problem_of f).outcomes r) ≡ true
  unfolding outcome_question
  outcomes_yes = ask_each_yes 10 (problem_of f).rows _ (asked f h).outcomes

  outcome_yes : (r : ℕ) → r < (problem_of f).rows → (o : Outcome) → In o ((problem_of f).outcomes r)
      → outcome_obeys (problem_of f).states (problem_of f).total o ≡ true
  outcome_yes r l o i = outcome_obeys_lem (problem_of f).states (problem_of f).total i (and_left _ _ (outcomes_yes r l))

  cost_range : (r : ℕ) → r < (problem_of f).rows → (1 ≤ (problem_of f).cost r) × ((problem_of f).cost r ≤ max_seconds)
  unfolding problem_of
  cost_range r l =
      let n = cost_number_of f r in
      seconds_range (eqb (kind_of f r) 0) n (row_cost (kind_of f r) (outcome_count_of f r) n (row_yes r l))

pub well_formed : (f : List ℕ) → file_questions f ≡ passes → WellFormed (problem_of f)
unfolding problem_of sum_to estimate_question
well_formed f h =
    let p = problem_of f in
    let set = settings_yes p (asked f h).settings in
    let place = laid f h in
    record {
      start_state = ltb-true _ _ set.0;
      start_open = start_yes f h;
      tolerance_low = between_low 1 max_tolerance p.tolerance set.1;
      tolerance_high = between_high 1 max_tolerance p.tolerance set.1;
      penalty_low = between_low 1 max_penalty p.penalty set.2;
      penalty_high = between_high 1 max_penalty p.penalty set.2;
      total_known = set.3;
      states_high = place.sections.states_high;
      rows_high = place.sections.rows_high;
      rows_start = refl;
      rows_follow = λ s. refl;
      rows_end = place.rows_sum;
      goal_rows = λ s l g. state_goal_rows _ _ _ (goal_byte_of f s) (state_yes f h s l) g;
      goal_estimate = λ s l g. state_goal_estimate _ _ _ (goal_byte_of f s) (state_yes f h s l) g;
      estimate_high = λ s l. state_estimate_high _ _ _ (goal_byte_of f s) (state_yes f h s l);
      cost_low = λ r l. (cost_range f h r l).0;
      cost_high = λ r l. (cost_range f h r l).1;
      successor_state = λ r l o i. ltb-true _ _ (and_left _ _ (outcome_yes f h r l o i));
      weight_low =
          λ r l o i. between_low 1 p.total o.weight (and_right (ltb o.successor p.states) _ (outcome_yes f h r l o i));
      weights = λ r l. eqb-true _ _ (and_right (outcomes_obey p.states p.total (p.outcomes r)) _ (outcomes_yes f h r l));
      estimate_under = undercut_none p p.estimate (ask_yes 11 _ _ (asked f h).estimates);
    }

-- a file has 6 bytes a state, and more
pub file_long : (f : List ℕ) → file_questions f ≡ passes → 4 * (problem_of f).states < length f
unfolding problem_of
file_long f h =
    let sections = (laid f h).sections in
    omega (arith, sections.states_at_lem, sections.rows_at_lem, sections.outcomes_at_lem, sections.end_at)
