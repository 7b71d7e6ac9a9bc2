-- Problems and tables that agree as far as the audit looks have the same audit: no question looks beyond states and rows.
-- A search depends on its test at the places it asks alone, and a pick's value and cost count only where question 18 said yes.
use Rattle.std.specs.Prelude.{◌≡◌, Bool, ◌||◌, List, eqb, get_or, pos}
use Rattle.std.proofs.Math.Path.{refl, ap, ap₂}
use Rattle.std.proofs.Common.{◌∙◌, arith, leb-false}
use Prim.Native.Nat.{ℕ, zero, suc, ◌+◌, ◌-◌, ◌≤◌, ◌<◌}
use Rattle.std.proofs.Math.Bool.{true, false, not}
use Rattle.std.proofs.Math.Dec.{leb}
use Rattle.std.proofs.Math.IntN.{sub_ℕ}
use Rattle.model.specs.Limits.{give_up}
use Rattle.model.specs.Problem.{Problem, give_up_cost, own_row}
use Rattle.model.specs.Value.{row_value}
use Rattle.model.specs.Search.{first}
use Rattle.model.specs.Walk.{walk, at_start_lem, least_cost, least_cost_with, least_on, least_to, pick_cost, pick_cost_on}
use Rattle.model.specs.Questions.{undercut_row, undercut_state}
use Rattle.model.specs.Audit.{Audited, accepted, refused, or_else, pick_value, pick_value_on, bounded_on, unbounded_state, open_state}
use Rattle.model.specs.Audit.{own_pick, stray_state, slack_state, table_questions, table_questions_with}
use Rattle.guarantee.specs.WellFormed.{WellFormed}
use Rattle.guarantee.specs.Searches.{or_clear, first_same, first_at, each_yes, implied}
use Rattle.guarantee.specs.Undercuts.{SameRows, undercut_row_same, undercut_state_same}
use Rattle.guarantee.specs.Values.{row_value-same_states}
use Rattle.guarantee.specs.Walks.{rows_within_lem, own_row_lem, reached_marked, walk_same}
use Rattle.guarantee.specs.Excess.{undercut_own}

-- the tests of questions 18 and 19

abbrev fits : Problem → (ℕ → ℕ) → List ℕ → ℕ → Bool
fits p picks marks s = not (open_state p marks s) || own_pick p s (picks s)

abbrev near : Problem → (ℕ → ℕ) → (ℕ → ℕ) → List ℕ → ℕ → Bool
near p v picks marks s = not (open_state p marks s) || leb (pick_value p v picks s) (v s + p.tolerance - 1)

-- the state at which question 19 stops is open
slack_open
    : (p : Problem) (v picks : ℕ → ℕ) (marks : List ℕ) → slack_state p v picks marks < p.states
    → open_state p marks (slack_state p v picks marks) ≡ true
unfolding slack_state
slack_open p v picks marks l =
    or_clear (open_state p marks (slack_state p v picks marks)) _ (first_at (near p v picks marks) 0 p.states (omega arith))

-- Two problems with two pairs of tables.

-- they agree on states and rows, and on which states their walks mark
pub record Alike (p q : Problem) (v w picks picks' : ℕ → ℕ) : Type 0 where
  pub start : p.start ≡ q.start
  pub tolerance : p.tolerance ≡ q.tolerance
  pub penalty : p.penalty ≡ q.penalty
  pub states : p.states ≡ q.states
  pub goals : (s : ℕ) → s < p.states → p.goal s ≡ q.goal s
  pub first_rows : (s : ℕ) → s < p.states → p.first_row s ≡ q.first_row s
  pub row_counts : (s : ℕ) → s < p.states → p.row_count s ≡ q.row_count s
  pub costs : (r : ℕ) → r < p.rows → p.cost r ≡ q.cost r
  pub row_values : (r : ℕ) → r < p.rows → row_value p v r ≡ row_value q w r
  pub values : (s : ℕ) → s < p.states → v s ≡ w s
  pub picked : (s : ℕ) → s < p.states → picks s ≡ picks' s
  pub marked : (s : ℕ) → s < p.states → get_or (walk p picks).marks s 0 ≡ get_or (walk q picks').marks s 0

or_else_same
    : {b b' : Bool} {r r' n n' : Audited} → b ≡ b' → (b ≡ false → r ≡ r') → (b ≡ true → n ≡ n') → or_else b r n ≡ or_else b' r' n'
or_else_same {b = true} e no_same yes_same = rw (← e) (yes_same refl)
or_else_same {b = false} e no_same yes_same = rw (← e) (no_same refl)

module _ (p q : Problem) (formed : WellFormed p) (v w picks picks' : ℕ → ℕ) (alike : Alike p q v w picks picks') where
  abbrev marks : List ℕ
  marks = (walk p picks).marks

  abbrev marks' : List ℕ
  marks' = (walk q picks').marks

  unbounded_same : unbounded_state p v ≡ unbounded_state q w
  unfolding unbounded_state
  unbounded_same =
      first_same
      (λ s. bounded_on (p.goal s) (give_up_cost p) (v s))
      (λ s. bounded_on (q.goal s) (give_up_cost q) (w s))
      0
      p.states
      (λ s low high. rw (alike.goals s (omega arith), alike.values s (omega arith), alike.penalty) refl)
      ∙ ap (first (λ s. bounded_on (q.goal s) (give_up_cost q) (w s)) 0) alike.states

  rows_alike : SameRows p q v w
  rows_alike =
      record {
        states = alike.states;
        values = alike.values;
        first_rows = alike.first_rows;
        row_counts = alike.row_counts;
        row_values = λ s r l high. alike.row_values r (omega (arith, rows_within_lem p formed s l));
      }

  row_same : (s : ℕ) → s < p.states → undercut_row p v s ≡ undercut_row q w s
  row_same = undercut_row_same p q v w rows_alike

  state_same : undercut_state p v ≡ undercut_state q w
  state_same = undercut_state_same p q v w rows_alike

  -- the refusal under question 17
  undercut_same
      : undercut_state p v < p.states
      → refused 17 (undercut_row p v (undercut_state p v))
      (sub_ℕ (v (undercut_state p v)) (row_value p v (undercut_row p v (undercut_state p v))))
      ≡ refused 17 (undercut_row q w (undercut_state q w))
      (sub_ℕ (w (undercut_state q w)) (row_value q w (undercut_row q w (undercut_state q w))))
  undercut_same l =
      let s = undercut_state p v in
      let own = alike.row_values (undercut_row p v s) (omega (arith, undercut_own p v l, rows_within_lem p formed s l)) in
      let here : refused 17 (undercut_row p v s) (sub_ℕ (v s) (row_value p v (undercut_row p v s)))
      ≡ refused 17 (undercut_row q w s) (sub_ℕ (w s) (row_value q w (undercut_row q w s))) =
      rw (own, alike.values s l, row_same s l) refl in
      here ∙ ap (λ x. refused 17 (undercut_row q w x) (sub_ℕ (w x) (row_value q w (undercut_row q w x)))) state_same

  open_same : (s : ℕ) → s < p.states → open_state p marks s ≡ open_state q marks' s
  open_same s l = rw (alike.goals s l, alike.marked s l) refl

  own_same : (s r : ℕ) → s < p.states → own_pick p s r ≡ own_pick q s r
  own_same s r l = rw (alike.first_rows s l, alike.row_counts s l) refl

  stray_same : stray_state p picks marks ≡ stray_state q picks' marks'
  unfolding stray_state
  stray_same =
      first_same (fits p picks marks) (fits q picks' marks') 0 p.states (λ s low high. at s (omega arith))
      ∙ ap (first (fits q picks' marks') 0) alike.states
    where
      at : (s : ℕ) → s < p.states → fits p picks marks s ≡ fits q picks' marks' s
      at s l = ap₂ (λ o f. not o || f) (open_same s l) (own_same s (picks s) l ∙ ap (own_pick q s) (alike.picked s l))

  -- a pick that gives up or is the state's own row has one value and one cost

  pick_same : (s : ℕ) → s < p.states → own_pick p s (picks s) ≡ true → pick_value p v picks s ≡ pick_value q w picks' s
  unfolding pick_value
  pick_same s l h = rw (← alike.picked s l) (go (eqb (picks s) give_up) h)
    where
      go : (b : Bool) → (b || own_row p s (picks s)) ≡ true → pick_value_on b p v (picks s) ≡ pick_value_on b q w (picks s)
      go true e = rw alike.penalty refl
      go false e = alike.row_values (picks s) (own_row_lem p formed s (picks s) l e)

  cost_same : (s : ℕ) → s < p.states → own_pick p s (picks s) ≡ true → pick_cost p picks s ≡ pick_cost q picks' s
  unfolding pick_cost
  cost_same s l h = rw (← alike.picked s l) (go (eqb (picks s) give_up) h)
    where
      go : (b : Bool) → (b || own_row p s (picks s)) ≡ true → pick_cost_on b p (picks s) ≡ pick_cost_on b q (picks s)
      go true e = rw alike.penalty refl
      go false e = rw (alike.costs (picks s) (own_row_lem p formed s (picks s) l e)) refl

  -- where question 18 says yes
  module _ (straight : leb p.states (stray_state p picks marks) ≡ true) where
    open_fits : (s : ℕ) → s < p.states → open_state p marks s ≡ true → own_pick p s (picks s) ≡ true
    unfolding stray_state
    open_fits s l o =
        implied (open_state p marks s) (own_pick p s (picks s)) (each_yes (fits p picks marks) p.states straight s l) o

    slack_same : slack_state p v picks marks ≡ slack_state q w picks' marks'
    unfolding slack_state
    slack_same =
        first_same (near p v picks marks) (near q w picks' marks') 0 p.states
        (λ s low high. at s (omega arith) (open_state p marks s) refl)
        ∙ ap (first (near q w picks' marks') 0) alike.states
      where
        at : (s : ℕ) → s < p.states → (b : Bool) → open_state p marks s ≡ b → near p v picks marks s ≡ near q w picks' marks' s
        at s l true o =
            rw (← open_same s l, pick_same s l (open_fits s l o), alike.values s l, alike.tolerance) refl
        at s l false o = rw (← open_same s l, o) refl

    -- the refusal under question 19
    slack_refusal
        : slack_state p v picks marks < p.states
        → refused 19 (slack_state p v picks marks)
        (sub_ℕ (v (slack_state p v picks marks)) (pick_value p v picks (slack_state p v picks marks)))
        ≡ refused 19 (slack_state q w picks' marks')
        (sub_ℕ (w (slack_state q w picks' marks')) (pick_value q w picks' (slack_state q w picks' marks')))
    slack_refusal l =
        let s = slack_state p v picks marks in
        let here : refused 19 s (sub_ℕ (v s) (pick_value p v picks s)) ≡ refused 19 s (sub_ℕ (w s) (pick_value q w picks' s)) =
        rw (pick_same s l (open_fits s l (slack_open p v picks marks l)), alike.values s l) refl in
        here ∙ ap (λ x. refused 19 x (sub_ℕ (w x) (pick_value q w picks' x))) slack_same

    start_fits : own_pick p p.start (picks p.start) ≡ true
    start_fits =
        open_fits p.start formed.start_state
        (rw (formed.start_open, reached_marked p formed picks p.start at_start_lem) refl)

    least_to_same : (k : ℕ) → k ≤ p.states → least_to p picks marks k ≡ least_to q picks' marks' k
    unfolding least_to
    least_to_same zero h = cost_same p.start formed.start_state start_fits ∙ ap (pick_cost q picks') alike.start
    least_to_same (suc k) h =
        rw (← open_same k (omega arith), ← least_to_same k (omega arith)) (at (open_state p marks k) refl)
      where
        at : (b : Bool) → open_state p marks k ≡ b
            → least_on b (pick_cost p picks k) (least_to p picks marks k)
            ≡ least_on b (pick_cost q picks' k) (least_to p picks marks k)
        at true o = rw (cost_same k (omega arith) (open_fits k (omega arith) o)) refl
        at false o = refl

    least_same : least_cost p picks ≡ least_cost q picks'
    unfolding least_cost_with
    least_same = least_to_same p.states (omega arith) ∙ ap (least_to q picks' marks') alike.states

  pub tables_alike : table_questions p v picks ≡ table_questions q w picks'
  unfolding table_questions_with
  tables_alike =
      or_else_same (ap₂ leb alike.states unbounded_same) (λ n. ap (λ s. refused 16 s (pos 0)) unbounded_same)
      λ bounded. or_else_same (ap₂ leb alike.states state_same) (λ n. undercut_same (leb-false _ _ n))
      λ above. or_else_same (ap₂ leb alike.states stray_same) (λ n. ap (λ s. refused 18 s (pos 0)) stray_same)
      λ straight.
      or_else_same (ap₂ leb alike.states (slack_same straight)) (λ n. slack_refusal straight (leb-false _ _ n))
      λ close. ap accepted (least_same straight)

-- one problem, and tables that agree on its states
module _ (p : Problem) (formed : WellFormed p) (v w picks picks' : ℕ → ℕ) (values_Agree : (s : ℕ) → s < p.states → v s ≡ w s)
    (picks_agree : (s : ℕ) → s < p.states → picks s ≡ picks' s) where
  pub tables_same : table_questions p v picks ≡ table_questions p w picks'
  tables_same =
      tables_alike p p formed v w picks picks'
      record {
        start = refl;
        tolerance = refl;
        penalty = refl;
        states = refl;
        goals = λ s l. refl;
        first_rows = λ s l. refl;
        row_counts = λ s l. refl;
        costs = λ r l. refl;
        row_values = row_value-same_states p formed v w values_Agree;
        values = values_Agree;
        picked = picks_agree;
        marked = λ s l. ap (λ t. get_or t.marks s 0) (walk_same p formed picks picks' picks_agree);
      }
