-- The bytes of a problem's data are a file that questions 1 to 11 let through.
-- What each question asks is a fact of well-formed data, and the file says these data.
use Rattle.std.specs.Prelude.{◌≡◌, ℕ, ◌+◌, ◌/◌, ◌≤◌, ◌<◌, Bool, true, false, List, [], ◌∷◌, length}
use Rattle.std.proofs.Math.Path.{refl, ap}
use Rattle.std.proofs.Common.{◌∙◌, arith}
use borrow.Author.Tests.{le-leb, lt-ltb, eq-eqb}
use Rattle.model.specs.Bytes.{u16_at}
use Rattle.model.specs.Encoding.{goal_byte, outcomes_to, encode}
use Rattle.model.specs.Limits.{min_settings, max_settings, max_states, max_rows, max_outcomes, max_tolerance, max_penalty, max_seconds}
use Rattle.model.specs.Problem.{Problem, Outcome, give_up_cost}
use Rattle.model.specs.Questions.{passes, section_questions, end_question, layout_questions, layout_questions_within, setting_questions}
use Rattle.model.specs.Questions.{state_obeys}
use Rattle.model.specs.Questions.{state_question, start_question, row_number_question, cost_obeys, row_obeys, row_question}
use Rattle.model.specs.Questions.{outcome_number_question, outcomes_obey, row_sound, outcome_question, undercut_row, undercut_state}
use Rattle.model.specs.Questions.{estimate_question, item_questions, file_questions, file_questions_within}
use Rattle.model.specs.Sections.{section_end, states_at, rows_at, outcomes_at, file_end, goal_byte_of, kind_of, outcome_count_of}
use Rattle.model.specs.Sections.{cost_number_of, problem_of}
use Rattle.model.specs.Value.{row_ticks, row_value, weighted_sum}
use Rattle.model.specs.Walk.{In, here, there}
use Rattle.guarantee.specs.Chances.{weight_high, some_outcome}
use Rattle.guarantee.specs.Encodings.{Encodable, Says, encode_length, encode_reads, setting_number_low, setting_number_high}
use Rattle.guarantee.specs.Encodings.{settings_count}
use Rattle.guarantee.specs.Encodings.{states_place_lem, states_count, rows_place_lem, rows_count, outcomes_place_lem, outcomes_count}
use Rattle.guarantee.specs.Encodings.{state_read, row_read, first_row_read, first_outcome_read}
use Rattle.guarantee.specs.Searches.{and_both, yes_between, yes_ask, yes_ask_each}
use Rattle.guarantee.specs.Undercuts.{none_undercut}
use Rattle.guarantee.specs.Totals.{total_low}
use Rattle.guarantee.specs.Values.{row_value-same_states}
use Rattle.guarantee.specs.Walks.{rows_within_lem}
use Rattle.guarantee.specs.WellFormed.{WellFormed}

-- what single questions ask

pub section_passes
    : (place i size low high : ℕ) (f : List ℕ) → i + 2 ≤ length f → low ≤ u16_at f i → u16_at f i ≤ high
    → section_end size f i ≤ length f → section_questions place i size low high f ≡ passes
unfolding section_questions
section_passes place i size low high f count_there l h items_there =
    rw (le-leb (i + 2) (length f) count_there, yes_between low high (u16_at f i) l h)
    (yes_ask 1 place (le-leb (section_end size f i) (length f) items_there))

state_obeys_lem
    : (goal : Bool) (limit estimate row_count : ℕ) → (goal ≡ true → row_count ≡ 0) → (goal ≡ true → estimate ≡ 0)
    → estimate ≤ limit → state_obeys limit estimate row_count (goal_byte goal) ≡ true
unfolding state_obeys
state_obeys_lem true limit estimate row_count rows lies l = rw (rows refl, lies refl) (le-leb 0 limit (omega arith))
state_obeys_lem false limit estimate row_count rows lies l = le-leb estimate limit l

row_obeys_lem : (count number : ℕ) → 1 ≤ count → 1 ≤ number → number ≤ max_seconds → row_obeys 0 count number ≡ true
unfolding row_obeys cost_obeys
row_obeys_lem count number some low high = and_both (le-leb 1 count some) (yes_between 1 max_seconds number low high)

outcomes_obey_lem
    : (n W : ℕ) (os : List Outcome)
    → ((o : Outcome) → In o os → (o.successor < n) × (1 ≤ o.weight) × (o.weight ≤ W))
    → outcomes_obey n W os ≡ true
unfolding outcomes_obey
outcomes_obey_lem n W [] h = refl
outcomes_obey_lem n W (o ∷ os) h =
    let one = h o here in
    and_both (and_both (lt-ltb o.successor n one.0) (yes_between 1 W o.weight one.1 one.2))
    (outcomes_obey_lem n W os (λ o i. h o (there i)))

-- The questions of the file f of p's data, whose problem is q.
module _ (p : Problem) (fits : Encodable p) where
  abbrev f : List ℕ
  f = encode p

  abbrev q : Problem
  q = problem_of f

  abbrev formed : WellFormed p
  formed = fits.formed

  says : Says p q
  says = encode_reads p fits

  -- a state or row of q is one of p
  state_of : (s : ℕ) → s < q.states → s < p.states
  state_of s h = omega (arith, says.states)

  row_of : (r : ℕ) → r < q.rows → r < p.rows
  row_of r h = omega (arith, says.rows)

  layout_passes : layout_questions f ≡ passes
  unfolding layout_questions_within end_question file_end
  layout_passes =
      let size = encode_length p in
      let settings = settings_count p fits in
      let low = setting_number_low p in
      let high = setting_number_high p in
      let states_from = states_place_lem p fits in
      let states = states_count p fits in
      let rows_from_lem = rows_place_lem p fits in
      let rows = rows_count p fits in
      let outcomes_from_lem = outcomes_place_lem p fits in
      let outcomes = outcomes_count p fits in
      rw (
        section_passes 0 0 4 min_settings max_settings f (omega arith) (omega arith) (omega arith) (omega arith),
        section_passes 1 (states_at f) 6 1 max_states f (omega arith) (omega arith) (omega arith) (omega arith),
        section_passes 2 (rows_at f) 4 0 max_rows f (omega arith) (omega arith) (omega arith) (omega arith),
        section_passes 3 (outcomes_at f) 4 0 max_outcomes f (omega arith) (omega arith) (omega arith) (omega arith),
        eq-eqb (file_end f) (length f) (omega arith),
      )
      refl

  settings_pass : setting_questions q ≡ passes
  unfolding setting_questions
  settings_pass =
      rw (← says.start, ← says.states, lt-ltb p.start p.states formed.start_state)
      (rw (← says.tolerance, yes_between 1 max_tolerance _ formed.tolerance_low formed.tolerance_high)
      (rw (← says.penalty, yes_between 1 max_penalty _ formed.penalty_low formed.penalty_high)
      (rw (← says.total, formed.total_known) refl)))

  states_pass : state_question f q ≡ passes
  unfolding state_question
  states_pass =
      yes_ask_each 5 q.states (λ s. state_obeys (give_up_cost q) (q.estimate s) (q.row_count s) (goal_byte_of f s))
      λ s h.
      let l = state_of s h in
      rw (← says.penalty, ← says.estimates s l, ← says.row_counts s l, (state_read p fits s l).2)
      (state_obeys_lem (p.goal s) (give_up_cost p) (p.estimate s) (p.row_count s) (formed.goal_rows s l)
      (formed.goal_estimate s l) (formed.estimate_high s l))

  start_passes : start_question q ≡ passes
  unfolding start_question
  start_passes = rw (← says.start, ← says.goals p.start formed.start_state, formed.start_open) refl

  row_numbers_pass : row_number_question q ≡ passes
  unfolding row_number_question problem_of
  row_numbers_pass =
      rw (← says.states, first_row_read p fits p.states (omega arith), formed.rows_end)
      (yes_ask 7 0 (eq-eqb p.rows q.rows says.rows))

  rows_pass : row_question f q ≡ passes
  unfolding row_question
  rows_pass =
      yes_ask_each 8 q.rows (λ r. row_obeys (kind_of f r) (outcome_count_of f r) (cost_number_of f r))
      λ r h.
      let l = row_of r h in
      let read = row_read p fits r l in
      let some = some_outcome (p.outcomes r) (omega (arith, formed.weights r l, total_low formed)) in
      rw (read.0, read.1, read.2)
      (row_obeys_lem (length (p.outcomes r)) (p.cost r) some (formed.cost_low r l) (formed.cost_high r l))

  outcome_numbers_pass : outcome_number_question f q ≡ passes
  unfolding outcome_number_question
  outcome_numbers_pass =
      rw (← says.rows, first_outcome_read p fits p.rows (omega arith), outcomes_count p fits)
      (yes_ask 9 0 (eq-eqb (outcomes_to p p.rows) (outcomes_to p p.rows) refl))

  outcomes_pass : outcome_question q ≡ passes
  unfolding outcome_question
  outcomes_pass =
      yes_ask_each 10 q.rows
      (λ r. row_sound q.states q.total (q.outcomes r))
      λ r h.
      let l = row_of r h in
      rw (← says.states, ← says.total, ← says.outcomes r l, formed.weights r l)
      (and_both
      (outcomes_obey_lem p.states p.total (p.outcomes r)
      (λ o i. (
        formed.successor_state r l o i,
        formed.weight_low r l o i,
        omega (arith, weight_high (p.outcomes r) o i, formed.weights r l),
      )))
      (eq-eqb p.total p.total refl))

  row_value_read : (r : ℕ) → r < p.rows → row_value p p.estimate r ≡ row_value q q.estimate r
  unfolding row_value
  row_value_read r l =
      row_value-same_states p formed p.estimate q.estimate says.estimates r l
      ∙ ap (λ W. row_ticks p r + weighted_sum (p.outcomes r) q.estimate / W) says.total
      ∙ rw (says.costs r l, says.outcomes r l) refl

  estimates_pass : estimate_question q ≡ passes
  unfolding estimate_question
  estimates_pass =
      yes_ask 11 (undercut_row q q.estimate (undercut_state q q.estimate))
      (none_undercut q q.estimate
      λ s r h low high.
      let l = state_of s h in
      let first = says.first_rows s (omega arith) in
      let count = says.row_counts s l in
      let within = rows_within_lem p formed s l in
      let under = formed.estimate_under s r l (omega arith) (omega arith) in
      omega (arith, under, says.estimates s l, row_value_read r (omega arith)))

  pub encode_passes : file_questions f ≡ passes
  unfolding file_questions_within item_questions
  encode_passes =
      rw (layout_passes, settings_pass, states_pass, start_passes, row_numbers_pass, rows_pass, outcome_numbers_pass)
      (rw (outcomes_pass, estimates_pass) refl)
