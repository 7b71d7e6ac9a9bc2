-- A file with another tolerance e says the same problem with e, questions 1 to 11 say yes to it too, and its audit asks what is
-- asked under e. Bytes 6 to 9 alone change, and only the tolerance reads them; only questions 4 and 19 read the tolerance.
use Rattle.std.specs.Prelude.{◌≡◌, ◌&&◌, not, leb, length, take}
use Rattle.std.proofs.Math.Path.{refl, sym, ap, ap₂}
use Rattle.std.proofs.Common.{◌∙◌, length-take-le, lt-ltb}
use Prim.Native.Nat.{ℕ, zero, suc, ◌+◌, ◌-◌, ◌*◌, ◌≤◌}
use Rattle.std.proofs.Math.Decide.{dec_le}
use native.Mathlib.Omega.{arith}
use Rattle.std.proofs.Math.Bool.{true, false}
use mathlib.Core.List.{List, [], ◌++◌}
use Rattle.std.proofs.Math.Dec.{eqb}
use Rattle.std.proofs.Math.ListN.{get_or, drop, replicate, length-append, length-drop, get_or-append}
use Rattle.std.proofs.Math.Seq.{drop-append-add, get_or-take, get_or-drop, drop-drop}
use Rattle.model.specs.Bytes.{u16_at, u32_at, number_bytes}
use Rattle.model.specs.Limits.{min_settings, max_settings, max_states, max_rows, max_outcomes, max_tolerance, max_penalty, give_up}
use Rattle.model.specs.Problem.{Problem, give_up_cost, own_row}
use Rattle.model.specs.Search.{sum_to}
use Rattle.model.specs.Sections.{states_at, rows_at, outcomes_at, file_end, setting_at, total_on, state_at, estimate_of, kind_of}
use Rattle.model.specs.Sections.{outcome_count_of, cost_number_of, seconds_on, outcome_at, outcomes_from, at_tolerance, problem_of}
use Rattle.model.specs.Value.{by_state, row_value}
use Rattle.model.specs.Questions.{Verdict, passes, ◌then◌, ask, ask_each, between, section_questions, end_question}
use Rattle.model.specs.Questions.{layout_questions, layout_questions_within, setting_questions, state_obeys, state_question, start_question}
use Rattle.model.specs.Questions.{row_number_question, row_obeys, row_question, outcome_number_question, outcome_question}
use Rattle.model.specs.Questions.{undercut_row, undercut_state, estimate_question, item_questions, file_questions, file_questions_within}
use Rattle.model.specs.Walk.{Trail, next_on, next, visit_state, walk, walk_with, pick_cost_on, pick_cost, least_on, least_to, least_cost}
use Rattle.model.specs.Walk.{least_cost_with}
use Rattle.model.specs.Audit.{accepted, pick_value_on, pick_value, open_state, audit}
use Rattle.guarantee.specs.WellFormed.{laid, well_formed}
use Rattle.guarantee.specs.Searches.{then_first, then_next, yes_between}
use Rattle.guarantee.specs.Accepted.{AcceptsWithin, Accepts, accepted_table, yes_audit}
use Rattle.guarantee.specs.ReadsBack.{number_length}
use Rattle.guarantee.specs.Standing.{at_whole, at_right, number_here, u32_at_lem}

-- the same problem with another tolerance
abbrev pub with_tolerance : ℕ → Problem → Problem
with_tolerance e p =
    record {
      start = p.start;
      tolerance = e;
      penalty = p.penalty;
      total = p.total;
      states = p.states;
      rows = p.rows;
      goal = p.goal;
      estimate = p.estimate;
      first_row = p.first_row;
      row_count = p.row_count;
      cost = p.cost;
      outcomes = p.outcomes;
    }

-- Walks, costs and values do not read the tolerance, so what is accepted under e is accepted of the problem with e.
module _ (e : ℕ) (p : Problem) (picks : ℕ → ℕ) where
  abbrev q : Problem
  q = with_tolerance e p

  next_retuned : (s : ℕ) → next q picks s ≡ next p picks s
  unfolding next
  next_retuned s =
      elim (not (p.goal s) && own_row p s (picks s)) as (λ b. next_on b q (picks s) ≡ next_on b p (picks s))
      [ true ↦ refl | false ↦ refl ]

  walk_retuned : walk q picks ≡ walk p picks
  unfolding walk_with
  walk_retuned =
      let clear : Trail = record { marks = replicate max_states 0; list = [] } in
      λ i. visit_state p.goal (λ s. next_retuned s i) max_states p.start clear

  value_retuned : (v : ℕ → ℕ) (s : ℕ) → pick_value q v picks s ≡ pick_value p v picks s
  unfolding pick_value row_value
  value_retuned v s =
      elim (eqb (picks s) give_up) as (λ b. pick_value_on b q v (picks s) ≡ pick_value_on b p v (picks s))
      [ true ↦ refl | false ↦ refl ]

  cost_retuned : (s : ℕ) → pick_cost q picks s ≡ pick_cost p picks s
  unfolding pick_cost
  cost_retuned s =
      elim (eqb (picks s) give_up) as (λ b. pick_cost_on b q (picks s) ≡ pick_cost_on b p (picks s))
      [ true ↦ refl | false ↦ refl ]

  least_to_retuned : (marks : List ℕ) (k : ℕ) → least_to q picks marks k ≡ least_to p picks marks k
  unfolding least_to
  least_to_retuned marks zero = cost_retuned p.start
  least_to_retuned marks (suc k) = ap₂ (least_on (open_state p marks k)) (cost_retuned k) (least_to_retuned marks k)

  least_retuned : least_cost q picks ≡ least_cost p picks
  unfolding least_cost_with
  least_retuned =
      ap (λ w. least_to q picks w.marks p.states) walk_retuned ∙ least_to_retuned (walk p picks).marks p.states

  accepts_retuned : (v : ℕ → ℕ) (C : ℕ) → AcceptsWithin p e v picks C → Accepts q v picks C
  unfolding row_value
  accepts_retuned v C given =
      record {
        goal_zero = given.goal_zero;
        value_high = given.value_high;
        no_undercut = given.no_undercut;
        pick_fits = rw walk_retuned given.pick_fits;
        pick_close = λ s. rw (walk_retuned, value_retuned v s) (given.pick_close s);
        least = given.least ∙ sym least_retuned;
      }

-- questions 1 and 2 of a section by its place, its count and the length of the file
abbrev asked : ℕ → ℕ → ℕ → ℕ → ℕ → ℕ → ℕ → Verdict
asked place size low high i count bytes =
    ask 1 place (leb (i + 2) bytes)
    then ask 2 place (between low high count)
    then ask 1 place (leb (i + 2 + size * count) bytes)

module _ (f : List ℕ) (e : ℕ) (low : 1 ≤ e) (high : e ≤ max_tolerance) (file : file_questions f ≡ passes) where
  abbrev g : List ℕ
  g = at_tolerance e f

  abbrev p : Problem
  p = problem_of f

  abbrev rest : List ℕ
  rest = number_bytes 4 e ++ drop 10 f

  places : (10 ≤ states_at f) × (10 ≤ rows_at f) × (10 ≤ outcomes_at f) × (10 ≤ length f)
  places =
      let s = (laid f file).sections in
      omega (arith, s.settings_low, s.states_at_lem, s.rows_at_lem, s.outcomes_at_lem, s.end_at)

  -- bytes 6 to 9 are those of e, all others are the file's

  front_length : length (take 6 f) ≡ 6
  front_length = length-take-le 6 f (omega (arith, places.3))

  length_same : length g ≡ length f
  unfolding at_tolerance
  length_same =
      let split = length-append (number_bytes 4 e) (drop 10 f) in
      omega (arith, places.3, length-append (take 6 f) rest, split, front_length, number_length 4 e, length-drop 10 f)

  tolerance_read : u32_at g 6 ≡ e
  unfolding at_tolerance
  tolerance_read =
      let after = at_right (take 6 f) rest 6 (omega (arith, front_length)) (at_whole g) in
      u32_at_lem e (number_here 4 e (drop 10 f) after) (omega arith)

  drop_same : (i : ℕ) → 10 ≤ i → drop i g ≡ drop i f
  unfolding at_tolerance number_bytes
  drop_same i l =
      let z : i ≡ 10 + (i - 10) = omega arith in
      let ten = ap (λ n. drop (n + 4) g) (sym front_length) ∙ drop-append-add (take 6 f) rest 4 in
      rw z (sym (drop-drop (i - 10) 10 g) ∙ ap (drop (i - 10)) ten ∙ drop-drop (i - 10) 10 f)

  byte_same : (i : ℕ) → (6 ≤ i → 10 ≤ i) → get_or g i 0 ≡ get_or f i 0
  unfolding at_tolerance
  byte_same i out = go (dec_le 6 i)
    where
      go : Dec (6 ≤ i) → get_or g i 0 ≡ get_or f i 0
      go (yes l) =
          let z : i ≡ i + 0 = omega arith in
          rw z (sym (get_or-drop i g 0 0) ∙ ap (λ b. get_or b 0 0) (drop_same i (out l)) ∙ get_or-drop i f 0 0)
      go (no l) = get_or-append (take 6 f) rest 0 i (omega (arith, front_length)) ∙ get_or-take 6 f i 0 (omega arith)

  u16_same : (i : ℕ) → (6 ≤ i + 1 → 10 ≤ i) → u16_at g i ≡ u16_at f i
  unfolding u16_at
  u16_same i out =
      ap₂ (λ a b. a + 256 * b) (byte_same i (λ l. out (omega arith))) (byte_same (i + 1) (λ l. omega (arith, out l)))

  u32_same : (i : ℕ) → (6 ≤ i + 3 → 10 ≤ i) → u32_at g i ≡ u32_at f i
  unfolding u32_at
  u32_same i out =
      ap₂ (λ a b. a + 65536 * b) (u16_same i (λ l. out (omega arith)))
      (u16_same (i + 2) (λ l. omega (arith, out (omega arith))))

  -- so each other number of the file stands where it stood

  count_same : u16_at g 0 ≡ u16_at f 0
  count_same = u16_same 0 (λ l. omega arith)

  states_at_lem : states_at g ≡ states_at f
  unfolding states_at
  states_at_lem = ap (λ n. 2 + 4 * n) count_same

  states_same : u16_at g (states_at g) ≡ u16_at f (states_at f)
  states_same = rw states_at_lem (u16_same _ (λ l. places.0))

  rows_at_lem : rows_at g ≡ rows_at f
  unfolding rows_at
  rows_at_lem = ap₂ (λ i n. i + 2 + 6 * n) states_at_lem states_same

  rows_same : u16_at g (rows_at g) ≡ u16_at f (rows_at f)
  rows_same = rw rows_at_lem (u16_same _ (λ l. places.1))

  outcomes_at_lem : outcomes_at g ≡ outcomes_at f
  unfolding outcomes_at
  outcomes_at_lem = ap₂ (λ i n. i + 2 + 4 * n) rows_at_lem rows_same

  outcomes_same : u16_at g (outcomes_at g) ≡ u16_at f (outcomes_at f)
  outcomes_same = rw outcomes_at_lem (u16_same _ (λ l. places.2))

  state_byte_same : (s k : ℕ) → get_or g (state_at g s + k) 0 ≡ get_or f (state_at f s + k) 0
  state_byte_same s k = rw states_at_lem (byte_same _ (λ l. omega (arith, places.0)))

  kind_same : (r : ℕ) → kind_of g r ≡ kind_of f r
  kind_same r = rw rows_at_lem (byte_same _ (λ l. omega (arith, places.1)))

  outcome_count_same : (r : ℕ) → outcome_count_of g r ≡ outcome_count_of f r
  outcome_count_same r = rw rows_at_lem (byte_same _ (λ l. omega (arith, places.1)))

  cost_number_same : (r : ℕ) → cost_number_of g r ≡ cost_number_of f r
  cost_number_same r = rw rows_at_lem (u16_same _ (λ l. omega (arith, places.1)))

  part_same : (r : ℕ) → drop (outcome_at g r) g ≡ drop (outcome_at f r) f
  part_same r =
      ap₂ (λ i n. drop (i + 2 + 4 * n) g) outcomes_at_lem (λ i. sum_to (λ k. outcome_count_same k i) r)
      ∙ drop_same (outcome_at f r) (omega (arith, places.2))

  pub retuned_problem : problem_of (at_tolerance e f) ≡ with_tolerance e (problem_of f)
  unfolding problem_of
  retuned_problem =
      λ i.
      record {
        start = u32_same (setting_at 0) (λ l. omega arith) i;
        tolerance = tolerance_read i;
        penalty = u32_same (setting_at 2) (λ l. omega arith) i;
        total = total_on (eqb (count_same i) min_settings) (u32_same (setting_at 3) (λ l. omega arith) i);
        states = states_same i;
        rows = rows_same i;
        goal = λ s. eqb (state_byte_same s 5 i) 1;
        estimate = λ s. estimate_same s i;
        first_row = λ s. sum_to (λ t. state_byte_same t 4 i) s;
        row_count = λ s. state_byte_same s 4 i;
        cost = λ r. seconds_on (eqb (kind_same r i) 0) (cost_number_same r i);
        outcomes = λ r. outcomes_from (part_same r i) 0 (outcome_count_same r i);
      }
    where
      estimate_same : (s : ℕ) → estimate_of g s ≡ estimate_of f s
      estimate_same s = rw states_at_lem (u32_same _ (λ l. omega (arith, places.0)))

  -- questions 1 to 3 read places, counts and the length; 4 reads the tolerance; 5 to 11 read nothing that changed

  layout_same : layout_questions g ≡ layout_questions f
  unfolding layout_questions_within section_questions end_question file_end
  layout_same =
      λ i.
      asked 0 4 min_settings max_settings 0 (count_same i) (length_same i)
      then asked 1 6 1 max_states (states_at_lem i) (states_same i) (length_same i)
      then asked 2 4 0 max_rows (rows_at_lem i) (rows_same i) (length_same i)
      then asked 3 4 0 max_outcomes (outcomes_at_lem i) (outcomes_same i) (length_same i)
      then ask 3 3 (eqb (outcomes_at_lem i + 2 + 4 * outcomes_same i) (length_same i))

  settings_pass : setting_questions (with_tolerance e p) ≡ passes
  unfolding setting_questions
  settings_pass =
      let formed = well_formed f file in
      rw (lt-ltb _ _ formed.start_state, yes_between 1 max_tolerance e low high)
      (rw (yes_between 1 max_penalty _ formed.penalty_low formed.penalty_high, formed.total_known) refl)

  items_same : item_questions g (with_tolerance e p) ≡ item_questions f p
  unfolding item_questions state_question start_question row_number_question row_question outcome_number_question outcome_question
      estimate_question undercut_state undercut_row row_value
  items_same =
      λ i.
      ask_each 5 p.states (λ s. state_obeys (give_up_cost p) (p.estimate s) (p.row_count s) (state_byte_same s 5 i))
      then start_question p
      then row_number_question p
      then ask_each 8 p.rows (λ r. row_obeys (kind_same r i) (outcome_count_same r i) (cost_number_same r i))
      then ask 9 0 (eqb (sum_to (λ r. outcome_count_same r i) p.rows) (outcomes_same i))
      then outcome_question p
      then estimate_question p

  pub retuned_passes : file_questions (at_tolerance e f) ≡ passes
  unfolding file_questions_within
  retuned_passes =
      let later = setting_questions p then item_questions f p in
      let items = then_next (setting_questions p) (item_questions f p) (then_next (layout_questions f) later file) in
      rw (layout_same, then_first (layout_questions f) later file, retuned_problem, settings_pass, items_same, items) refl

  pub retuned_accepts
      : (values picks : List ℕ) (C : ℕ) → (problem_of f).states ≤ length values → (problem_of f).states ≤ length picks
      → AcceptsWithin (problem_of f) e (by_state values) (by_state picks) C
      → audit (at_tolerance e f) values picks ≡ accepted C
  retuned_accepts values picks C values_long picks_long given =
      let told = accepts_retuned e p (by_state picks) (by_state values) C given in
      yes_audit g values picks C
      record {
        file_passes = retuned_passes;
        values_long = rw retuned_problem values_long;
        picks_long = rw retuned_problem picks_long;
        table_accepted = rw retuned_problem (accepted_table (with_tolerance e p) (by_state values) (by_state picks) C told);
      }
