-- What is written by the set rule reads back: the bytes of a problem's data say the same data.
-- Each section stands behind the one before it, and each item behind its count, where the readers of the file look.
use Rattle.std.specs.Prelude.{◌≡◌, ℕ, suc, ◌+◌, ◌*◌, ◌≤◌, ◌<◌, Bool, length, drop}
use Rattle.std.proofs.Math.Path.{refl, sym, ap, ap₂}
use Rattle.std.proofs.Common.{◌∙◌, arith, length-append, eqb-true}
use Rattle.std.proofs.Math.Bool.{true, false}
use mathlib.Core.List.{List, [], ◌∷◌, ◌++◌}
use Rattle.std.proofs.Math.Dec.{eqb}
use Rattle.model.specs.Bytes.{u16_at, number_bytes}
use Rattle.model.specs.Encoding.{encode, parts_to, settings_on, fourth_on, setting_number, setting_bytes, goal_byte, state_bytes, row_bytes}
use Rattle.model.specs.Encoding.{outcome_bytes, outcomes_to}
use Rattle.model.specs.Limits.{min_settings, max_settings, thousandths, max_outcomes, max_total}
use Rattle.model.specs.Problem.{Problem, Outcome}
use Rattle.model.specs.Search.{sum_to}
use Rattle.model.specs.Sections.{states_at, rows_at, outcomes_at, setting_of, total_of, state_at, estimate_of, row_count_of, goal_byte_of}
use Rattle.model.specs.Sections.{first_row_of, row_at, kind_of, outcome_count_of, cost_number_of, seconds_on}
use Rattle.model.specs.Sections.{first_outcome_of, outcome_at, outcomes_from, outcomes_of, problem_of}
use Rattle.model.specs.Walk.{In, here, there}
use Rattle.guarantee.specs.Chances.{weight_high}
use Rattle.guarantee.specs.Standing.{At, at_whole, at_inside, at_moved, at_left, at_right, byte_read, byte_then}
use Rattle.guarantee.specs.Standing.{number_here, number_then, u16_at_lem, u32_at_lem, parts_length, count_read}
use Rattle.guarantee.specs.Standing.{item_stands, section_same}
use Rattle.guarantee.specs.Sums.{sum_same}
use Rattle.guarantee.specs.ReadsBack.{number_length}
use Rattle.guarantee.specs.Walks.{rows_sum}
use Rattle.guarantee.specs.Totals.{total_high}
use Rattle.guarantee.specs.WellFormed.{WellFormed}

-- the data of a file: well formed, with no more outcomes than a file has
pub record Encodable (p : Problem) : Type 0 where
  pub formed : WellFormed p
  pub outcomes_fit : outcomes_to p p.rows ≤ max_outcomes

-- the problem q says the data of p
pub record Says (p q : Problem) : Type 0 where
  pub start : p.start ≡ q.start
  pub tolerance : p.tolerance ≡ q.tolerance
  pub penalty : p.penalty ≡ q.penalty
  pub total : p.total ≡ q.total
  pub states : p.states ≡ q.states
  pub rows : p.rows ≡ q.rows
  pub estimates : (s : ℕ) → s < p.states → p.estimate s ≡ q.estimate s
  pub goals : (s : ℕ) → s < p.states → p.goal s ≡ q.goal s
  pub row_counts : (s : ℕ) → s < p.states → p.row_count s ≡ q.row_count s
  pub first_rows : (s : ℕ) → s ≤ p.states → p.first_row s ≡ q.first_row s
  pub costs : (r : ℕ) → r < p.rows → p.cost r ≡ q.cost r
  pub outcomes : (r : ℕ) → r < p.rows → p.outcomes r ≡ q.outcomes r

-- The four sections, and where each stands: behind the one before it.

abbrev setting_section : Problem → List ℕ
setting_section p = number_bytes 2 (setting_number p) ++ setting_bytes p

abbrev state_section : Problem → List ℕ
state_section p = number_bytes 2 p.states ++ parts_to (state_bytes p) p.states

abbrev row_section : Problem → List ℕ
row_section p = number_bytes 2 p.rows ++ parts_to (row_bytes p) p.rows

abbrev row_outcomes : Problem → ℕ → List ℕ
row_outcomes p r = outcome_bytes (p.outcomes r)

abbrev outcome_section : Problem → List ℕ
outcome_section p = number_bytes 2 (outcomes_to p p.rows) ++ parts_to (row_outcomes p) p.rows

abbrev states_place : Problem → ℕ
states_place p = 2 + 4 * setting_number p

abbrev rows_place : Problem → ℕ
rows_place p = states_place p + 2 + 6 * p.states

abbrev outcomes_place : Problem → ℕ
outcomes_place p = rows_place p + 2 + 4 * p.rows

-- lengths

outcomes_length : (os : List Outcome) → length (outcome_bytes os) ≡ 4 * length os
unfolding outcome_bytes
outcomes_length [] = omega arith
outcomes_length (o ∷ os) = simp (length-append, number_length, outcomes_length os) (omega arith)

settings_on_low : (b : Bool) → min_settings ≤ settings_on b
settings_on_low true = omega arith
settings_on_low false = omega arith

pub settings_on_high : (b : Bool) → settings_on b ≤ max_settings
settings_on_high true = omega arith
settings_on_high false = omega arith

fourth_length : (b : Bool) (total : ℕ) → 4 * min_settings + length (fourth_on b total) ≡ 4 * settings_on b
fourth_length true total = refl
fourth_length false total = rw (number_length 4 total) refl

module _ (p : Problem) where
  pub settings_long : length (setting_bytes p) ≡ 4 * setting_number p
  unfolding setting_bytes setting_number
  settings_long =
      simp (length-append, number_length) (omega (arith, fourth_length (eqb p.total thousandths) p.total))

  -- there are 3 or 4 settings
  pub setting_number_low : min_settings ≤ setting_number p
  unfolding setting_number
  setting_number_low = settings_on_low (eqb p.total thousandths)

  pub setting_number_high : setting_number p ≤ max_settings
  unfolding setting_number
  setting_number_high = settings_on_high (eqb p.total thousandths)

  pub states_long : (k : ℕ) → length (parts_to (state_bytes p) k) ≡ 6 * k
  unfolding state_bytes
  states_long =
      parts_length (state_bytes p) (λ s. 6 * s) refl (λ s. simp (length-append, number_length) (omega arith))

  rows_long : (k : ℕ) → length (parts_to (row_bytes p) k) ≡ 4 * k
  unfolding row_bytes
  rows_long = parts_length (row_bytes p) (λ r. 4 * r) refl (λ r. simp number_length (omega arith))

  outcomes_long : (k : ℕ) → length (parts_to (row_outcomes p) k) ≡ 4 * outcomes_to p k
  unfolding sum_to
  outcomes_long =
      parts_length (row_outcomes p) (λ r. 4 * outcomes_to p r) refl (λ r. omega (arith, outcomes_length (p.outcomes r)))

-- The laws of the writing: its length, where its sections stand, and that it hangs on the data alone.

record SectionsStand (p : Problem) (f : List ℕ) : Type 0 where
  settings : At f 0 (setting_section p)
  states : At f (states_place p) (state_section p)
  rows : At f (rows_place p) (row_section p)
  outcomes : At f (outcomes_place p) (outcome_section p)

module _ (p : Problem) where
  pub encode_length : length (encode p) ≡ states_place p + 6 + 6 * p.states + 4 * p.rows + 4 * outcomes_to p p.rows
  unfolding encode
  encode_length =
      simp (length-append, number_length, settings_long p, states_long p p.states, rows_long p p.rows)
      (omega (arith, outcomes_long p p.rows))

  encode_stands : SectionsStand p (encode p)
  unfolding encode
  encode_stands =
      let whole = at_whole (encode p) in
      let states = at_right (setting_section p) _ (states_place p)
      (simp (length-append, number_length) (omega (arith, settings_long p))) whole in
      let rows = at_right (state_section p) _ (rows_place p)
      (simp (length-append, number_length) (omega (arith, states_long p p.states))) states in
      let outcomes = at_right (row_section p) _ (outcomes_place p)
      (simp (length-append, number_length) (omega (arith, rows_long p p.rows))) rows in
      record {
        settings = at_left (setting_section p) _ whole;
        states = at_left (state_section p) _ states;
        rows = at_left (row_section p) _ rows;
        outcomes = outcomes;
      }

module _ (p q : Problem) (h : Says p q) where
  outcomes_to_same : outcomes_to p p.rows ≡ outcomes_to q q.rows
  outcomes_to_same =
      sum_same (λ r. length (p.outcomes r)) (λ r. length (q.outcomes r)) p.rows
      (λ r l. ap length (h.outcomes r l))
      ∙ ap (outcomes_to q) h.rows

  -- the bytes hang on these data alone
  pub encode_same : encode p ≡ encode q
  unfolding encode setting_number setting_bytes state_bytes row_bytes
  encode_same =
      let settings : setting_section p ≡ setting_section q = rw (h.start, h.tolerance, h.penalty, h.total) refl in
      let states = section_same (state_bytes p) (state_bytes q) h.states h.states
      (λ s l. rw (h.estimates s l, h.row_counts s l, h.goals s l) refl) in
      let rows = section_same (row_bytes p) (row_bytes q) h.rows h.rows
      (λ r l. rw (h.outcomes r l, h.costs r l) refl) in
      let outcomes = section_same (row_outcomes p) (row_outcomes q) outcomes_to_same h.rows
      (λ r l. ap outcome_bytes (h.outcomes r l)) in
      ap₂ ◌++◌ settings (ap₂ ◌++◌ states (ap₂ ◌++◌ rows outcomes))

-- Reading back.

outcomes_read
    : (b : List ℕ) (i : ℕ) (os : List Outcome)
    → ((o : Outcome) → In o os → (o.successor < 65536) × (o.weight < 65536))
    → At b (4 * i) (outcome_bytes os) → outcomes_from b i (length os) ≡ os
unfolding outcome_bytes outcomes_from
outcomes_read b i [] small h = refl
outcomes_read b i (o ∷ os) small h =
    let s = number_bytes 2 o.successor in
    let w = number_bytes 2 o.weight in
    let one = at_left (s ++ w) (outcome_bytes os) h in
    let lead = u16_at_lem o.successor (number_here 2 o.successor w one) (small o here).0 in
    let weigh = u16_at_lem o.weight (number_then 2 o.successor w one) (small o here).1 in
    let next = at_right (s ++ w) (outcome_bytes os) (4 * suc i) (simp (length-append, number_length) (omega arith)) h in
    ap₂ ◌∷◌ (ap₂ (λ x y. record { successor = x; weight = y }) lead weigh)
    (outcomes_read b (suc i) os (λ o i. small o (there i)) next)

-- the total, from a fourth setting or from there being none
total_read
    : (f : List ℕ) (W : ℕ) → W ≤ max_total → (b : Bool) → eqb W thousandths ≡ b → u16_at f 0 ≡ settings_on b
    → At f (2 + 4 * 3) (fourth_on b W) → total_of f ≡ W
total_read f W small true e count h = rw count (sym (eqb-true W thousandths e))
total_read f W small false e count h = rw count (u32_at_lem W h (omega arith))

module _ (p : Problem) (fits : Encodable p) where
  abbrev f : List ℕ
  f = encode p

  abbrev formed : WellFormed p
  formed = fits.formed

  abbrev stands : SectionsStand p f
  stands = encode_stands p

  -- the counts and their places
  pub settings_count : u16_at f 0 ≡ setting_number p
  settings_count = count_read (setting_number p) _ refl (omega (arith, setting_number_high p)) stands.settings

  pub states_place_lem : states_at f ≡ states_place p
  unfolding states_at
  states_place_lem = omega (arith, settings_count)

  pub states_count : u16_at f (states_at f) ≡ p.states
  states_count = count_read p.states _ states_place_lem (omega (arith, formed.states_high)) stands.states

  pub rows_place_lem : rows_at f ≡ rows_place p
  unfolding rows_at
  rows_place_lem = omega (arith, states_place_lem, states_count)

  pub rows_count : u16_at f (rows_at f) ≡ p.rows
  rows_count = count_read p.rows _ rows_place_lem (omega (arith, formed.rows_high)) stands.rows

  pub outcomes_place_lem : outcomes_at f ≡ outcomes_place p
  unfolding outcomes_at
  outcomes_place_lem = omega (arith, rows_place_lem, rows_count)

  pub outcomes_count : u16_at f (outcomes_at f) ≡ outcomes_to p p.rows
  outcomes_count =
      count_read (outcomes_to p p.rows) _ outcomes_place_lem (omega (arith, fits.outcomes_fit)) stands.outcomes

  -- the items
  settings_read
      : (setting_of f 0 ≡ p.start) × (setting_of f 1 ≡ p.tolerance) × (setting_of f 2 ≡ p.penalty) × (total_of f ≡ p.total)
  unfolding setting_number setting_bytes
  settings_read =
      let all = number_then 2 (setting_number p) _ stands.settings in
      let later = number_then 4 p.start _ all in
      let last = number_then 4 p.tolerance _ later in (
        u32_at_lem p.start (number_here 4 p.start _ all) (omega (arith, formed.start_state, formed.states_high)),
        u32_at_lem p.tolerance (number_here 4 p.tolerance _ later) (omega (arith, formed.tolerance_high)),
        u32_at_lem p.penalty (number_here 4 p.penalty _ last) (omega (arith, formed.penalty_high)),
        total_read f p.total (total_high formed) (eqb p.total thousandths) refl settings_count
            (number_then 4 p.penalty _ last),
      )

  pub state_read
      : (s : ℕ) → s < p.states
      → (estimate_of f s ≡ p.estimate s) × (row_count_of f s ≡ p.row_count s) × (goal_byte_of f s ≡ goal_byte (p.goal s))
  unfolding state_bytes
  state_read s l =
      let item = item_stands p.states (state_bytes p) p.states stands.states s l in
      let state = at_moved item (state_at f s) (omega (arith, states_place_lem, states_long p s)) in
      let counts = number_then 4 (p.estimate s) _ state in
      let goal = at_moved (byte_then (p.row_count s) _ counts) (state_at f s + 5) (omega arith) in (
        u32_at_lem (p.estimate s) (number_here 4 (p.estimate s) _ state)
            (omega (arith, formed.estimate_high s l, formed.penalty_high)),
        byte_read (p.row_count s) _ counts,
        byte_read (goal_byte (p.goal s)) _ goal,
      )

  pub row_read
      : (r : ℕ) → r < p.rows
      → (kind_of f r ≡ 0) × (outcome_count_of f r ≡ length (p.outcomes r)) × (cost_number_of f r ≡ p.cost r)
  unfolding row_bytes
  row_read r l =
      let item = item_stands p.rows (row_bytes p) p.rows stands.rows r l in
      let row = at_moved item (row_at f r) (omega (arith, rows_place_lem, rows_long p r)) in
      let numbers = byte_then 0 _ row in
      let cost = at_moved (byte_then (length (p.outcomes r)) _ numbers) (row_at f r + 2) (omega arith) in (
        byte_read 0 _ row,
        byte_read (length (p.outcomes r)) _ numbers,
        u16_at_lem (p.cost r) cost (omega (arith, formed.cost_high r l)),
      )

  pub first_row_read : (s : ℕ) → s ≤ p.states → first_row_of f s ≡ p.first_row s
  first_row_read s l =
      sum_same (row_count_of f) p.row_count s (λ j h. (state_read j (omega arith)).1) ∙ rows_sum p formed s

  pub first_outcome_read : (r : ℕ) → r ≤ p.rows → first_outcome_of f r ≡ outcomes_to p r
  first_outcome_read r l =
      sum_same (outcome_count_of f) (λ r. length (p.outcomes r)) r (λ j h. (row_read j (omega arith)).1)

  outcomes_read_back : (r : ℕ) → r < p.rows → outcomes_of f r ≡ p.outcomes r
  outcomes_read_back r l =
      let item = item_stands (outcomes_to p p.rows) (row_outcomes p) p.rows stands.outcomes r l in
      let first = first_outcome_read r (omega arith) in
      let part = at_moved item (outcome_at f r) (omega (arith, outcomes_place_lem, outcomes_long p r, first)) in
      ap (outcomes_from (drop (outcome_at f r) f) 0) (row_read r l).1
      ∙ outcomes_read (drop (outcome_at f r) f) 0 (p.outcomes r)
      (λ o i. (
        omega (arith, formed.successor_state r l o i, formed.states_high),
        omega (arith, weight_high (p.outcomes r) o i, formed.weights r l, total_high formed),
      ))
      (at_inside part)

  pub encode_reads : Says p (problem_of f)
  unfolding problem_of seconds_on
  encode_reads =
      record {
        start = sym settings_read.0;
        tolerance = sym settings_read.1;
        penalty = sym settings_read.2;
        total = sym settings_read.3;
        states = sym states_count;
        rows = sym rows_count;
        estimates = λ s l. sym (state_read s l).0;
        goals = λ s l. sym (ap (λ n. eqb n 1) (state_read s l).2 ∙ goal_byte_lem (p.goal s));
        row_counts = λ s l. sym (state_read s l).1;
        first_rows = λ s l. sym (first_row_read s l);
        costs = λ r l. sym (ap (λ k. seconds_on (eqb k 0) (cost_number_of f r)) (row_read r l).0 ∙ (row_read r l).2);
        outcomes = λ r l. sym (outcomes_read_back r l);
      }
    where
      goal_byte_lem : (b : Bool) → eqb (goal_byte b) 1 ≡ b
      goal_byte_lem true = refl
      goal_byte_lem false = refl
