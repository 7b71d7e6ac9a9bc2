-- Request E6: a set form passes all questions and says the same data, and equal set forms are those of the same data.
-- Gathering keeps the chances, and what is written reads back; so row values and audits agree as well.
use Rattle.std.specs.Prelude.{◌≡◌, ℕ, ◌+◌, ◌*◌, ◌/◌, ◌≤◌, ◌<◌, List, Bool, true, false, eqb, get_or, drop}
use Rattle.std.proofs.Math.Path.{refl, ap}
use Rattle.std.proofs.Common.{sym, ◌∙◌, subst}
use native.Mathlib.Omega.{arith}
use Rattle.std.proofs.Math.ListN.{length}
use Rattle.std.proofs.lemmas.Bool.{eqb-false}
use Rattle.model.specs.Audit.{audit, audit_within}
use Rattle.model.specs.Bytes.{u16_at}
use Rattle.model.specs.Encoding.{settings_on, setting_number, outcomes_to}
use Rattle.model.specs.Limits.{min_settings, thousandths, max_outcomes}
use Rattle.model.specs.Problem.{Problem, Outcome}
use Rattle.model.specs.Questions.{passes, file_questions}
use Rattle.model.specs.Sections.{setting_of, total_on, outcomes_at, kind_of, outcome_count_of, outcome_at, problem_of}
use Rattle.model.specs.SetForm.{weight_to, chance, gathered, in_set_form, set_form, Same}
use Rattle.model.specs.Value.{weighted_sum, row_ticks, row_value, row_remainder}
use Rattle.model.specs.Walk.{In, successors}
use Rattle.guarantee.specs.Chances.{LeadsBelow, weighted_by_chance, gathered_in, gathered_chance}
use Rattle.guarantee.specs.Chances.{gathered_rises, gathered_same, gathered_few, gathered_total}
use Rattle.guarantee.specs.Encodings.{Encodable, Says, settings_on_high, settings_count, row_read, encode_length, encode_reads}
use Rattle.guarantee.specs.Encodings.{encode_same}
use Rattle.guarantee.specs.Parts.{outcomes_count}
use Rattle.guarantee.specs.Passing.{encode_passes}
use Rattle.guarantee.specs.Sames.{same_sym, same_trans, same_rows, same_values, same_remainders, same_audits}
use Rattle.guarantee.specs.Sums.{sum_same, sum_below}
use Rattle.guarantee.specs.Walks.{rows_sum, rows_within_lem}
use Rattle.guarantee.specs.WellFormed.{WellFormed, laid, well_formed}

-- a problem that says the data has the same data
pub says_same : (p q : Problem) → Says p q → Same p q
says_same p q h =
    record {
      start = h.start;
      tolerance = h.tolerance;
      penalty = h.penalty;
      total = h.total;
      states = h.states;
      estimates = h.estimates;
      goals = h.goals;
      row_counts = h.row_counts;
      costs = h.costs;
      chances = λ r t l m. ap (λ (os : List Outcome). weight_to os t) (h.outcomes r l);
    }

-- Problems in set form.

gathered_weighted
    : (os : List Outcome) (v : ℕ → ℕ) (n : ℕ) → LeadsBelow n os
    → weighted_sum os v ≡ weighted_sum (gathered (weight_to os) 0 n) v
gathered_weighted os v n below =
    let form = gathered (weight_to os) 0 n in
    weighted_by_chance os v n below
    ∙ sum_same (λ t. weight_to os t * v t) (λ t. weight_to form t * v t) n
    (λ t l. ap (λ c. c * v t) (sym (gathered_chance (weight_to os) 0 n t (omega arith) (omega arith))))
    ∙ sym (weighted_by_chance form v n (λ o i. omega (arith, (gathered_in (weight_to os) 0 n o i).1)))

pub form_same : (p : Problem) → Same p (in_set_form p)
unfolding in_set_form
form_same p =
    record {
      start = refl;
      tolerance = refl;
      penalty = refl;
      total = refl;
      states = refl;
      estimates = λ s l. refl;
      goals = λ s l. refl;
      row_counts = λ s l. refl;
      costs = λ r l. refl;
      chances = λ r t l m. sym (gathered_chance (chance p r) 0 p.states t (omega arith) (omega arith));
    }

module _ (p : Problem) (formed : WellFormed p) where
  -- gathered outcomes have the same weighted sums
  gathered_value : (v : ℕ → ℕ) (r : ℕ) → r < p.rows → row_value p v r ≡ row_value (in_set_form p) v r
  unfolding row_value in_set_form
  gathered_value v r l =
      ap (λ n. row_ticks p r + n / p.total)
      (gathered_weighted (p.outcomes r) v p.states (formed.successor_state r l))

  pub form_formed : WellFormed (in_set_form p)
  unfolding in_set_form
  form_formed =
      record {
        start_state = formed.start_state;
        start_open = formed.start_open;
        tolerance_low = formed.tolerance_low;
        tolerance_high = formed.tolerance_high;
        penalty_low = formed.penalty_low;
        penalty_high = formed.penalty_high;
        total_known = formed.total_known;
        states_high = formed.states_high;
        rows_high = formed.rows_high;
        rows_start = formed.rows_start;
        rows_follow = formed.rows_follow;
        rows_end = formed.rows_end;
        goal_rows = formed.goal_rows;
        goal_estimate = formed.goal_estimate;
        estimate_high = formed.estimate_high;
        cost_low = formed.cost_low;
        cost_high = formed.cost_high;
        successor_state = λ r l o i. omega (arith, (gathered_in (chance p r) 0 p.states o i).1);
        weight_low = λ r l o i. (gathered_in (chance p r) 0 p.states o i).3;
        weights = λ r l. gathered_total (p.outcomes r) p.states (formed.successor_state r l) ∙ formed.weights r l;
        estimate_under =
            λ s r l low high.
            omega (
              arith,
              formed.estimate_under s r l low high,
              gathered_value p.estimate r (omega (arith, rows_within_lem p formed s l)),
            );
      }

  -- gathering takes no more outcomes
  pub form_outcomes : outcomes_to (in_set_form p) p.rows ≤ outcomes_to p p.rows
  unfolding in_set_form
  form_outcomes =
      sum_below (λ r. length (gathered (chance p r) 0 p.states)) (λ r. length (p.outcomes r)) p.rows
      (λ r l. gathered_few (p.outcomes r) p.states)

-- the same data, in set form, have the same outcomes in the same order
forms_say : (p q : Problem) → WellFormed p → WellFormed q → Same p q → Says (in_set_form p) (in_set_form q)
unfolding in_set_form
forms_say p q formed formed' h =
    record {
      start = h.start;
      tolerance = h.tolerance;
      penalty = h.penalty;
      total = h.total;
      states = h.states;
      rows = same_rows p q formed formed' h;
      estimates = h.estimates;
      goals = h.goals;
      row_counts = h.row_counts;
      first_rows =
          λ s l.
          sym (rows_sum p formed s)
          ∙ sum_same p.row_count q.row_count s (λ j m. h.row_counts j (omega arith))
          ∙ rows_sum q formed' s;
      costs = h.costs;
      outcomes =
          λ r l.
          gathered_same (chance p r) (chance q r) 0 p.states (λ t low m. h.chances r t l (omega arith))
          ∙ ap (gathered (chance q r) 0) h.states;
    }

-- A file with 3 settings has the total that needs no fourth.

no_fourth
    : (f : List ℕ) (b : Bool) → eqb (u16_at f 0) min_settings ≡ b → min_settings ≤ u16_at f 0
    → settings_on (eqb (total_on b (setting_of f 3)) thousandths) ≤ u16_at f 0
no_fourth f true e low = low
no_fourth f false e low =
    omega (arith, settings_on_high (eqb (setting_of f 3) thousandths), eqb-false (u16_at f 0) min_settings e)

few_settings : (f : List ℕ) → min_settings ≤ u16_at f 0 → setting_number (in_set_form (problem_of f)) ≤ u16_at f 0
unfolding setting_number in_set_form problem_of
few_settings f = no_fourth f (eqb (u16_at f 0) min_settings) refl

-- Accepted files.

module _ (f : List ℕ) (h : file_questions f ≡ passes) where
  -- no more outcomes than a file has
  outcomes_told : outcomes_to (problem_of f) (problem_of f).rows ≡ u16_at f (outcomes_at f)
  unfolding problem_of
  outcomes_told =
      let p = problem_of f in
      sum_same (λ r. length (p.outcomes r)) (outcome_count_of f) p.rows
      (λ r l. outcomes_count (drop (outcome_at f r) f) 0 (outcome_count_of f r))
      ∙ (laid f h).outcomes_sum

  pub file_outcomes : outcomes_to (problem_of f) (problem_of f).rows ≤ max_outcomes
  file_outcomes = omega (arith, outcomes_told, (laid f h).sections.outcomes_high)

  pub form_encodable : Encodable (in_set_form (problem_of f))
  unfolding in_set_form
  form_encodable =
      let formed = well_formed f h in
      record {
        formed = form_formed (problem_of f) formed;
        outcomes_fit = omega (arith, form_outcomes (problem_of f) formed, file_outcomes);
      }

  -- the set form is no longer than the file: what its outcomes and a fourth setting take is all that can differ
  pub form_short : length (set_form f) ≤ length f
  unfolding set_form in_set_form problem_of
  form_short =
      let sections = (laid f h).sections in
      omega (
        arith,
        encode_length (in_set_form (problem_of f)),
        form_outcomes (problem_of f) (well_formed f h),
        outcomes_told,
        few_settings f sections.settings_low,
        sections.states_at_lem,
        sections.rows_at_lem,
        sections.outcomes_at_lem,
        sections.end_at,
      )

  -- the set form passes all questions
  pub form_passes : file_questions (set_form f) ≡ passes
  unfolding set_form
  form_passes = encode_passes (in_set_form (problem_of f)) form_encodable

  -- it has 3 settings where the total is 1,000, and else 4
  pub form_count_lem : u16_at (set_form f) 0 ≡ settings_on (eqb (problem_of f).total thousandths)
  unfolding set_form in_set_form setting_number
  form_count_lem = settings_count (in_set_form (problem_of f)) form_encodable

  -- what its bytes say is the problem in set form
  form_said : Says (in_set_form (problem_of f)) (problem_of (set_form f))
  unfolding set_form
  form_said = encode_reads (in_set_form (problem_of f)) form_encodable

  form_row : (r : ℕ) → r < (problem_of (set_form f)).rows → r < (problem_of f).rows
  unfolding in_set_form
  form_row r l = omega (arith, l, form_said.rows)

  form_gathers
      : (r : ℕ) → r < (problem_of f).rows
      → gathered (chance (problem_of f) r) 0 (problem_of f).states ≡ (problem_of (set_form f)).outcomes r
  unfolding in_set_form
  form_gathers = form_said.outcomes

  -- every row of it has kind 0, outcomes that rise, and none with no chance
  pub form_kinds : (r : ℕ) → r < (problem_of (set_form f)).rows → kind_of (set_form f) r ≡ 0
  unfolding set_form in_set_form
  form_kinds r l = (row_read (in_set_form (problem_of f)) form_encodable r (form_row r l)).0

  pub form_rising
      : (r : ℕ) → r < (problem_of (set_form f)).rows → (i j : ℕ) → i < j → j < length (successors (problem_of (set_form f)) r)
      → get_or (successors (problem_of (set_form f)) r) i 0 < get_or (successors (problem_of (set_form f)) r) j 0
  form_rising r l =
      rw (← form_gathers r (form_row r l)) (gathered_rises (chance (problem_of f) r) 0 (problem_of f).states)

  pub form_weighs
      : (r : ℕ) → r < (problem_of (set_form f)).rows → (o : Outcome) → In o ((problem_of (set_form f)).outcomes r) → 1 ≤ o.weight
  form_weighs r l =
      rw (← form_gathers r (form_row r l)) (λ o i. (gathered_in (chance (problem_of f) r) 0 (problem_of f).states o i).3)

  -- it says the same data
  pub form_says_same : Same (problem_of f) (problem_of (set_form f))
  unfolding set_form in_set_form
  form_says_same =
      let form = in_set_form (problem_of f) in
      same_trans (problem_of f) form (problem_of (set_form f)) refl (form_same (problem_of f))
      (says_same form (problem_of (set_form f)) form_said)

  -- the same row values and remainders under every table

  pub form_row_values
      : (v : ℕ → ℕ) (r : ℕ) → r < (problem_of f).rows
      → row_value (problem_of (set_form f)) v r ≡ row_value (problem_of f) v r
  form_row_values v r l =
      let formed = well_formed (set_form f) form_passes in
      sym (same_values (problem_of f) (problem_of (set_form f)) (well_formed f h) formed form_says_same v r l)

  pub form_row_remainders
      : (v : ℕ → ℕ) (r : ℕ) → r < (problem_of f).rows
      → row_remainder (problem_of (set_form f)) v r ≡ row_remainder (problem_of f) v r
  form_row_remainders v r l =
      let formed = well_formed (set_form f) form_passes in
      sym (same_remainders (problem_of f) (problem_of (set_form f)) (well_formed f h) formed form_says_same v r l)

module _ (f g : List ℕ) (h : file_questions f ≡ passes) (k : file_questions g ≡ passes) where
  -- the same data, the same audit of every two tables
  same_data_audits
      : Same (problem_of f) (problem_of g) → (values picks : List ℕ) → audit f values picks ≡ audit g values picks
  unfolding audit_within
  same_data_audits same values picks =
      rw (h, k)
      (same_audits (problem_of f) (problem_of g) (well_formed f h) (well_formed g k) same values picks)

  -- "Two accepted files with equal settings, .. and total chance from each row to each state have equal set forms, and
  -- only such files do."

  pub same_forms : Same (problem_of f) (problem_of g) → set_form f ≡ set_form g
  unfolding set_form
  same_forms same =
      encode_same (in_set_form (problem_of f)) (in_set_form (problem_of g))
      (forms_say (problem_of f) (problem_of g) (well_formed f h) (well_formed g k) same)

  pub forms_same : set_form f ≡ set_form g → Same (problem_of f) (problem_of g)
  forms_same e =
      let p = problem_of f in
      let q = problem_of g in
      let r = problem_of (set_form g) in
      let formed = well_formed (set_form g) (form_passes g k) in
      let there : Same p r = subst (λ b. Same p (problem_of b)) e (form_says_same f h) in
      let back = form_says_same g k in
      same_trans p r q (same_rows p r (well_formed f h) formed there) there
      (same_sym q r (same_rows q r (well_formed g k) formed back) back)

  pub same_forms_audits : set_form f ≡ set_form g → (values picks : List ℕ) → audit f values picks ≡ audit g values picks
  same_forms_audits e = same_data_audits (forms_same e)

module _ (f : List ℕ) (h : file_questions f ≡ passes) where
  -- "Writing a set form again changes nothing."
  pub form_again : set_form (set_form f) ≡ set_form f
  form_again = sym (same_forms f (set_form f) h (form_passes f h) (form_says_same f h))

  pub form_audit : (values picks : List ℕ) → audit (set_form f) values picks ≡ audit f values picks
  form_audit = same_forms_audits (set_form f) f (form_passes f h) h form_again
