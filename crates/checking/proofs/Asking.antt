-- The stretches of questions 4 to 11 as the code puts them: each question's answer, from what the loops found.
-- A loop speaks of where its items begin; the layout says that this is where the model reads them.
use mathlib.Core.Path.{◌≡◌, refl, ◌∙◌, sym, ap}
use Prim.Native.Nat.{ℕ, ◌+◌, ◌*◌, ◌≤◌, ◌<◌}
use native.Mathlib.Omega.{arith}
use mathlib.Core.Bool.{Bool, true, not}
use mathlib.Core.List.{List}
use lib.Dec.{eqb}
use lib.ListN.{length, get_or}
use borrow.Author.Tests.{lt-leb, le-leb, eq-eqb, ne_eqb, ltb-true}
use Rattle.model.specs.Bytes.{u32_at}
use Rattle.model.specs.Limits.{max_penalty, weight_totals}
use Rattle.model.specs.Problem.{give_up_cost}
use Rattle.model.specs.Questions.{Verdict, passes, fails, ◌then◌, ask, ask_each, state_obeys, row_sound}
use Rattle.model.specs.Questions.{layout_questions, setting_questions, state_question, start_question}
use Rattle.model.specs.Questions.{row_number_question, row_question, outcome_number_question, outcome_question, estimate_question}
use Rattle.model.specs.Questions.{item_questions, file_questions, file_questions_within, undercut_state}
use Rattle.model.specs.Rounds.{fill_to}
use Rattle.model.specs.Search.{sum_to, one_of}
use Rattle.model.specs.Sections.{problem_of, outcome_at, goal_byte_of}
use Rattle.model.specs.Value.{by_state}
use Rattle.guarantee.specs.Searches.{then_first}
use Rattle.guarantee.specs.Tables.{fill_entry}
use Rattle.guarantee.specs.Undercuts.{SameRows, undercut_state_same, undercut_row_same}
use Rattle.guarantee.specs.WellFormed.{between_high, settings_yes, successors_states}
use Rattle.guarantee.specs.Values.{row_value-same}
use Rattle.reading.specs.declared.layout.Layout.{Layout}
use Rattle.reading.specs.declared.settings.Settings.{Settings}
use Rattle.checking.specs.Stretches.{RowsAsked, RowsAnswered, ValuesAsked, ValuesAnswered}
use Rattle.checking.specs.Stretches.{ItemsAnswered, FileAnswered}
use Rattle.checking.specs.IndexLeft.{states_filled, rows_filled, left_after}
use Rattle.reading.specs.Fields.{estimates_are, row_counts_are, first_rows_are, row_costs_are, outcome_starts_are}
use Rattle.reading.specs.Laid.{SettingsOf}
use Rattle.reading.specs.Ready.{Ready, Undercuts}
use Rattle.reading.specs.Bounds.{byte_bound}
use Rattle.reading.specs.Tests.{row_test, row_count_at, outcome_count_at, ticks_at, all_entries, RowsIndexed, index_for}
use Rattle.reading.specs.Tests.{outcomes_in, part_of}
use Rattle.checking.specs.ItemTests.{SettingsAnswered, state_test}
use Rattle.checking.proofs.Indexing.{index_holds, same_search, index_ready}

-- a refusal passes nothing
pub no_pass : {A : Type 0} (q i : ℕ) → fails q i ≡ passes → A
no_pass q i e = absurd (let z : ◌≡◌ {A = ℕ} 0 1 = cc in omega arith)

-- a stretch of three questions, and what follows it

stops : (u v w x said : Verdict) → said ≡ (u then v then w) → (said ≡ passes → ⊥) → said ≡ (u then v then w then x)
stops (fails q i) v w x said e n = e
stops passes (fails q i) w x said e n = e
stops passes passes (fails q i) x said e n = e
stops passes passes passes x said e n = absurd (n e)

goes_on : (u v w x said : Verdict) → passes ≡ (u then v then w) → said ≡ x → said ≡ (u then v then w then x)
goes_on (fails q i) v w x said e h = no_pass q i (sym e)
goes_on passes (fails q i) w x said e h = no_pass q i (sym e)
goes_on passes passes (fails q i) x said e h = no_pass q i (sym e)
goes_on passes passes passes x said e h = h

module _ {f : List ℕ} {l : Layout} (asked : RowsAsked f l) where
  -- what the loops of `row_questions` find
  abbrev row_sum : ℕ
  row_sum = sum_to (row_count_at f l.at1) l.states

  abbrev outcome_sum : ℕ
  outcome_sum = sum_to (outcome_count_at f l.at2) l.rows

  -- question 7

  row_sum_is : row_sum ≡ sum_to (problem_of f).row_count (problem_of f).states
  row_sum_is = ap (λ g. sum_to g l.states) (row_counts_are asked.laid) ∙ rw asked.laid.states_are

  seven : row_number_question (problem_of f) ≡ ask 7 0 (eqb row_sum l.rows)
  unfolding row_number_question
  seven = rw (row_sum_is, asked.laid.rows_are)

  pub seven_no : {total : ℕ} → total ≡ row_sum → (total ≡ l.rows → ⊥) → row_number_question (problem_of f) ≡ fails 7 0
  seven_no e h = rw (seven, ne_eqb _ _ (λ t. h (e ∙ t)))

  pub seven_yes : {total : ℕ} → total ≡ row_sum → total ≡ l.rows → row_number_question (problem_of f) ≡ passes
  seven_yes e h = rw (seven, eq-eqb _ _ (sym e ∙ h))

  -- question 8

  pub eight : {said : Verdict} → said ≡ ask_each 8 l.rows (row_test f l.at2) → row_question f (problem_of f) ≡ said
  unfolding row_question
  eight e = sym (e ∙ rw (asked.laid.rows_at_lem, asked.laid.rows_are) refl)

  -- question 9

  nine : outcome_number_question f (problem_of f) ≡ ask 9 0 (eqb outcome_sum l.outcomes)
  unfolding outcome_number_question
  nine = rw (asked.laid.rows_at_lem, asked.laid.rows_are, asked.laid.outcomes_are)

  pub nine_no
      : {total : ℕ} → total ≡ outcome_sum → (total ≡ l.outcomes → ⊥) → outcome_number_question f (problem_of f) ≡ fails 9 0
  nine_no e h = rw (nine, ne_eqb _ _ (λ t. h (e ∙ t)))

  pub nine_yes : {total : ℕ} → total ≡ outcome_sum → total ≡ l.outcomes → outcome_number_question f (problem_of f) ≡ passes
  nine_yes e h = rw (nine, eq-eqb _ _ (sym e ∙ h))

  -- what the index holds once the states are filled in, and once the rows are

  module _ (before : List ℕ) {states : List ℕ}
      (filled : states ≡ fill_to (sum_to (row_count_at f l.at1)) before (l.states + 1)) where
    states_left : states ≡ states_filled f before
    states_left =
        filled ∙ ap (λ g. fill_to g before (l.states + 1)) (first_rows_are asked.laid) ∙ rw asked.laid.states_are

    rows_left_lem : {after : List ℕ} {sum : ℕ} → RowsIndexed f l.at2 l.rows l.at3 states after sum
        → after ≡ rows_filled f (states_filled f before)
    rows_left_lem rows =
        rows.entries
        ∙ ap (λ starts. all_entries starts (ticks_at f l.at2) states l.rows) (outcome_starts_are asked.laid)
        ∙ ap (λ costs. all_entries (outcome_at f) costs states l.rows) (row_costs_are asked.laid)
        ∙ rw (asked.laid.rows_are, states_left)

    -- questions 7 to 9 together

    pub rows_stop_7 : row_number_question (problem_of f) ≡ fails 7 0 → RowsAnswered f before states (fails 7 0)
    rows_stop_7 e = record { verdict = rw e; left = rw e states_left; indexed = no_pass 7 0 }

    pub rows_stop_8
        : {q r : ℕ} → row_number_question (problem_of f) ≡ passes → row_question f (problem_of f) ≡ fails q r
        → RowsAnswered f before states (fails q r)
    rows_stop_8 d e = record { verdict = rw (d, e); left = rw (d, e) states_left; indexed = no_pass _ _ }

    module _ {after : List ℕ} {sum : ℕ} (rows : RowsIndexed f l.at2 l.rows l.at3 states after sum)
        (seventh : row_number_question (problem_of f) ≡ passes) (eighth : row_question f (problem_of f) ≡ passes) where
      pub rows_stop_9 : outcome_number_question f (problem_of f) ≡ fails 9 0 → RowsAnswered f before after (fails 9 0)
      rows_stop_9 g =
          record {
            verdict = rw (seventh, eighth, g);
            left = rw (seventh, eighth) (rows_left_lem rows);
            indexed = no_pass 9 0;
          }

      pub rows_pass
          : ((i : ℕ) → get_or f i 0 < byte_bound) → index_for l.rows ≤ length before → outcome_number_question f (problem_of f) ≡ passes
          → RowsAnswered f before after passes
      rows_pass bytes size ninth =
          let made = rows_left_lem rows in
          record {
            verdict = rw (seventh, eighth, ninth);
            left = rw (seventh, eighth) made;
            indexed = λ t. rw made (index_holds f before asked.whole bytes (rw (← asked.laid.rows_are) size) seventh ninth);
          }

-- questions 10 and 11

module _ {f index : List ℕ} {l : Layout} (asked : ValuesAsked f index l) where
  -- each row's part of the file obeys section 3
  pub ten
      : {total : ℕ} {said : Verdict} → total ≡ (problem_of f).total
      → said ≡ ask_each 10 l.rows (λ j. row_sound l.states total (outcomes_in (part_of f index j)))
      → outcome_question (problem_of f) ≡ said
  unfolding outcome_question
  ten is e = sym (e ∙ rw (is, asked.laid.states_are, asked.laid.rows_are, same_search asked.indexed) refl)

  pub values_stop_10 : {q r : ℕ} → outcome_question (problem_of f) ≡ fails q r → ValuesAnswered f index (fails q r)
  values_stop_10 e = record { verdict = rw e; ready = no_pass _ _ }

  pub values_rest
      : {said : Verdict} → outcome_question (problem_of f) ≡ passes → said ≡ estimate_question (problem_of f)
      → ValuesAnswered f index said
  values_rest d e = record { verdict = rw d e; ready = λ t. index_ready asked.indexed asked.total_known d }

-- question 11, of a table that has the estimates

module _ {f index : List ℕ} (ready : Ready f index) (passed : outcome_question (problem_of f) ≡ passes) (lent : List ℕ) {n : ℕ}
    {values : List ℕ} (states : n ≡ (problem_of f).states) (long : n ≤ length lent) (filled : values ≡ fill_to (problem_of f).estimate lent n) {s r : ℕ}
    (found : Undercuts f (by_state values) s r) where
  agree : (j : ℕ) → j < (problem_of f).states → by_state values j ≡ (problem_of f).estimate j
  agree j h = let below : j < n = rw states h in rw filled (fill_entry (problem_of f).estimate lent n j long below)

  rows_same : SameRows (problem_of f) (problem_of f) (by_state values) (problem_of f).estimate
  rows_same =
      record {
        states = refl;
        values = agree;
        first_rows = λ j h. refl;
        row_counts = λ j h. refl;
        row_values =
            λ j r h high.
            let within = ready.indexed.within.rows_within_lem j h in
            row_value-same (problem_of f) r _ _ (λ o i. agree o.successor (successors_states (problem_of f) passed r (omega arith) o i));
      }

  same_state : s ≡ undercut_state (problem_of f) (problem_of f).estimate
  same_state = found.state_is ∙ undercut_state_same _ _ _ _ rows_same

  pub eleven_no : s < n → fails 11 r ≡ estimate_question (problem_of f)
  unfolding estimate_question
  eleven_no h =
      let below : s < (problem_of f).states = rw (← states) h in
      let row = found.row_is below ∙ undercut_row_same _ _ _ _ rows_same s below in
      rw (← same_state, lt-leb _ _ below, ← row)

  pub eleven_yes : n ≤ s → passes ≡ estimate_question (problem_of f)
  unfolding estimate_question
  eleven_yes h = let above : (problem_of f).states ≤ s = rw (← states) h in rw (← same_state, le-leb _ _ above)

-- questions 4 to 6

module _ {f : List ℕ} {l : Layout} (asked : RowsAsked f l) {set : Settings} (known : SettingsOf f set) where
  -- questions 4 and 24: what is known of the settings where they pass

  pub four : {said : Verdict} → SettingsAnswered set l.states said → setting_questions (problem_of f) ≡ said
  four found =
      sym (found.says (problem_of f) (sym known.start_is) (sym asked.laid.states_are) (sym known.tolerance_is)
      (sym known.penalty_is) (sym known.total_is))

  module _ (found : SettingsAnswered set l.states passes) where
    pub start_below : set.start < (problem_of f).states
    start_below = rw known.start_is (ltb-true _ _ (settings_yes (problem_of f) (four found)).0)

    pub penalty_fits : (problem_of f).penalty ≤ max_penalty
    penalty_fits = between_high 1 max_penalty (problem_of f).penalty (settings_yes (problem_of f) (four found)).2

    pub total_fits : one_of (problem_of f).total weight_totals ≡ true
    total_fits = (settings_yes (problem_of f) (four found)).3

  -- question 5: each state obeys section 1

  pub five
      : {limit : ℕ} {said : Verdict} → limit ≡ give_up_cost (problem_of f) → said ≡ ask_each 5 l.states (state_test f l.at1 limit)
      → state_question f (problem_of f) ≡ said
  unfolding state_question
  five {limit = limit} give e =
      let test : (ℕ → ℕ) → (ℕ → ℕ) → ℕ → Bool = λ estimate rows s. state_obeys limit (estimate s) (rows s) (goal_byte_of f s) in
      let put : (ℕ → Bool) → Verdict = λ ok. ask_each 5 l.states ok in
      let a = ap (λ e. put (test e (problem_of f).row_count)) (sym (estimates_are asked.laid)) in
      let b = ap (λ c. put (test (λ s. u32_at f (l.at1 + 6 * s)) c)) (sym (row_counts_are asked.laid)) in
      rw (← asked.laid.states_are, ← give) (a ∙ b ∙ rw asked.laid.states_at_lem refl) ∙ sym e

  -- question 6

  pub six : {b : Bool} → b ≡ (problem_of f).goal set.start → start_question (problem_of f) ≡ ask 6 set.start (not b)
  unfolding start_question
  six e = rw (e, known.start_is)

-- questions 4 to 11 together

module _ {f index : List ℕ} where
  pub items_stop_4 : {q i : ℕ} → setting_questions (problem_of f) ≡ fails q i → ItemsAnswered f index index (fails q i)
  items_stop_4 e = record { verdict = rw e; left = rw e; ready = no_pass _ _ }

  pub items_stop_5
      : {q i : ℕ} → setting_questions (problem_of f) ≡ passes → state_question f (problem_of f) ≡ fails q i
      → ItemsAnswered f index index (fails q i)
  unfolding item_questions
  items_stop_5 d e = record { verdict = rw (d, e); left = rw (d, e); ready = no_pass _ _ }

  pub items_stop_6
      : {i : ℕ} → setting_questions (problem_of f) ≡ passes → state_question f (problem_of f) ≡ passes
      → start_question (problem_of f) ≡ fails 6 i → ItemsAnswered f index index (fails 6 i)
  unfolding item_questions
  items_stop_6 d e g = record { verdict = rw (d, e, g); left = rw (d, e, g); ready = no_pass 6 _ }

-- the chain is associative where its first part refuses or passes
module _ {f before after : List ℕ} (fourth : setting_questions (problem_of f) ≡ passes)
    (fifth : state_question f (problem_of f) ≡ passes) (sixth : start_question (problem_of f) ≡ passes) where
  pub items_stop_rows
      : {said : Verdict} → (said ≡ passes → ⊥) → RowsAnswered f before after said → ItemsAnswered f before after said
  unfolding item_questions
  items_stop_rows {said = said} stop a =
      let p = problem_of f in
      let rest = outcome_question p then estimate_question p in
      let all = stops (row_number_question p) (row_question f p) (outcome_number_question f p) rest said a.verdict stop in
      record {
        verdict = rw (fourth, fifth, sixth) all;
        left = rw (fourth, fifth, sixth) a.left;
        ready = λ t. absurd (stop t);
      }

  pub items_values
      : {said : Verdict} → RowsAnswered f before after passes → ValuesAnswered f after said → ItemsAnswered f before after said
  unfolding item_questions
  items_values {said = said} a b =
      let p = problem_of f in
      let rest = outcome_question p then estimate_question p in
      let v = row_number_question p in
      let all = goes_on v (row_question f p) (outcome_number_question f p) rest said a.verdict b.verdict in
      record { verdict = rw (fourth, fifth, sixth) all; left = rw (fourth, fifth, sixth) a.left; ready = b.ready }

-- questions 1 to 11 together

pub file_stops
    : {f index : List ℕ} {said : Verdict} → (said ≡ passes → ⊥) → said ≡ layout_questions f → FileAnswered f index index said
unfolding file_questions_within
file_stops {f = f} {index = index} {said = said} stop e =
    record {
      verdict = refuses (layout_questions f) _ e;
      left = untouched (layout_questions f) _ e;
      ready = λ t. absurd (stop t);
    }
  where
    refuses : (v w : Verdict) → said ≡ v → said ≡ (v then w)
    refuses passes w e = absurd (stop e)
    refuses (fails q i) w e = e

    untouched : (v w : Verdict) → said ≡ v → index ≡ left_after (v then w) f index
    untouched passes w e = absurd (stop e)
    untouched (fails q i) w e = refl

pub file_items
    : {f before after : List ℕ} {said : Verdict} → passes ≡ layout_questions f → ItemsAnswered f before after said
    → FileAnswered f before after said
unfolding file_questions_within
file_items e a = record { verdict = rw (← e) a.verdict; left = rw (← e) a.left; ready = a.ready }

-- a file that passes has whole sections
pub whole_file : (f : List ℕ) → file_questions f ≡ passes → layout_questions f ≡ passes
unfolding file_questions_within
whole_file f h = then_first (layout_questions f) _ h
