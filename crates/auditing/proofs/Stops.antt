-- Questions 15 to 19 as the code puts them: each return's answer is the audit's, by what the searches before it found.
use mathlib.Core.Path.{◌≡◌, refl, sym, ◌∙◌, ap}
use Prim.Native.Nat.{ℕ, ◌≤◌, ◌<◌}
use native.Mathlib.Omega.{arith}
use mathlib.Core.Bool.{true, false}
use mathlib.Core.List.{List}
use lib.Dec.{eqb, leb}
use lib.IntN.{ℤ, pos, sub_ℕ}
use lib.ListN.{length}
use borrow.Author.Tests.{lt-leb, le-leb}
use Rattle.model.specs.Limits.{give_up}
use Rattle.model.specs.Problem.{Problem}
use Rattle.model.specs.Questions.{Verdict, passes, fails, undercut_state}
use Rattle.model.specs.Sections.{problem_of}
use Rattle.model.specs.Value.{row_value, by_state}
use Rattle.model.specs.Walk.{walk, least_cost}
use Rattle.model.specs.Audit.{Audited, accepted, refused, pick_value_on, pick_value, unbounded_state, stray_state}
use Rattle.model.specs.Audit.{slack_state, table_questions, table_questions_with, problem_audit, problem_audit_with}
use Rattle.model.specs.Audit.{audit, audit_within}
use Rattle.guarantee.specs.Accepted.{AuditYes, audit_yes}
use Rattle.guarantee.specs.Excess.{undercut_own}
use Rattle.std.proofs.Common.{None, Some}
use Rattle.reading.specs.Ready.{FirstUndercut}
use Rattle.reading.specs.declared.value.Undercut.{Undercut}
use Rattle.checking.specs.Stretches.{FileAnswered}
use Rattle.walking.specs.Walkable.{walkable}
use Rattle.auditing.specs.Plans.{problem_in, values_in, picks_in}
use Rattle.auditing.specs.StateTests.{pick_questions}
use Rattle.auditing.specs.FileAudited.{FileAudited}
use Rattle.auditing.specs.declared.plan.Plan.{Plan}

module _ (plan : Plan) where
  abbrev p : Problem
  p = problem_in plan

  abbrev v : ℕ → ℕ
  v = values_in plan

  abbrev pick : ℕ → ℕ
  pick = picks_in plan

  -- a place before the end of a search, and its end
  no : (i : ℕ) → i < plan.states → leb p.states i ≡ false
  no i h = lt-leb p.states i (omega (arith, plan.states_are))

  yes : leb p.states plan.states ≡ true
  yes = le-leb p.states plan.states (omega (arith, plan.states_are))

  -- questions 18 and 19

  module _ {marks : List ℕ} (walked : marks ≡ (walk p pick).marks) (fit : stray_state p pick marks ≡ plan.states) where
    pub pick_stop_19 : {s value : ℕ} {z : ℤ} → (slack_state p v pick marks ≡ s) × (s < plan.states)
        → value ≡ pick_value_on (eqb (pick s) give_up) p v (pick s) → z ≡ sub_ℕ (v s) value
        → refused 19 s z ≡ pick_questions p v pick
    unfolding pick_value
    pick_stop_19 {s} h e d = ap (refused 19 s) d ∙ rw (← walked, fit, h.0, yes, no s h.1, e) refl

    pub pick_accept : {least : ℕ} → slack_state p v pick marks ≡ plan.states → least ≡ least_cost p pick
        → accepted least ≡ pick_questions p v pick
    pick_accept h e = rw (← walked, fit, h, yes, e) refl

  -- questions 16 and 17

  pub table_stop_16 : {s : ℕ} → (unbounded_state p v ≡ s) × (s < plan.states)
      → refused 16 s (pos 0) ≡ table_questions p v pick
  unfolding table_questions_with
  table_stop_16 {s} h = rw (h.0, no s h.1) refl

  module _ (bounded : unbounded_state p v ≡ plan.states) where
    pub table_stop_17 : {u : Undercut} {value : ℕ} {z : ℤ} → FirstUndercut plan.problem.file.now v (Some u)
        → value ≡ row_value p v u.row → z ≡ sub_ℕ (v u.state) value → refused 17 u.row z ≡ table_questions p v pick
    unfolding table_questions_with
    table_stop_17 {u} h e d =
        let before = no u.state (omega (arith, h.0, plan.states_are)) in
        ap (refused 17 u.row) d ∙ rw (bounded, ← h.1.state_is, yes, before, ← h.1.row_is h.0, e) refl

    pub table_goes_on : {said : Audited} → FirstUndercut plan.problem.file.now v None → said ≡ pick_questions p v pick
        → said ≡ table_questions p v pick
    unfolding table_questions_with
    table_goes_on h e = e ∙ rw (bounded, ← h.state_is, yes, le-leb p.states p.states (omega arith)) refl

  -- the undercut row is a row of the file
  pub undercut_there : {u : Undercut} → FirstUndercut plan.problem.file.now v (Some u) → u.row < p.rows
  undercut_there {u} h =
      let below : undercut_state p v < p.states = omega (arith, h.1.state_is, h.0) in
      omega (
        arith,
        rw h.1.state_is at (h.1.row_is h.0),
        undercut_own p v below,
        plan.problem.ready.indexed.within.rows_within_lem _ below,
      )

-- question 15
module _ (f values picks : List ℕ) {n : ℕ} (states_are : n ≡ (problem_of f).states) where
  pub stop_values : length values < n → refused 15 0 (pos 0) ≡ problem_audit (problem_of f) values picks
  unfolding problem_audit_with
  stop_values h = rw (← states_are, lt-leb n (length values) h) refl

  module _ (long : n ≤ length values) where
    pub stop_picks : length picks < n → refused 15 1 (pos 0) ≡ problem_audit (problem_of f) values picks
    unfolding problem_audit_with
    stop_picks h = rw (← states_are, le-leb n (length values) long, lt-leb n (length picks) h) refl

    pub asks_tables : {said : Audited} → n ≤ length picks
        → said ≡ table_questions (problem_of f) (by_state values) (by_state picks)
        → said ≡ problem_audit (problem_of f) values picks
    unfolding problem_audit_with
    asks_tables h e = e ∙ rw (← states_are, le-leb n (length values) long, le-leb n (length picks) h) refl

-- questions 1 to 11, and what is said of the index: where the audit accepts it is that of the file
module _ {f values picks before index : List ℕ} {v : Verdict} (asked : FileAnswered f before index v)
    {said : Audited} where
  file_audited : said ≡ audit f values picks → FileAudited f values picks before index said
  file_audited e =
      record {
        answer = e;
        left = asked.left;
        walkable = λ C a. walkable (yes C a).file_passes (asked.ready (asked.verdict ∙ (yes C a).file_passes));
        picks_long = λ C a. (yes C a).picks_long;
      }
    where
      yes : (C : ℕ) → said ≡ accepted C → AuditYes f values picks C
      yes C a = audit_yes f values picks C (sym e ∙ a)

  pub file_refused : {q i : ℕ} → v ≡ fails q i → said ≡ refused q i (pos 0)
      → FileAudited f values picks before index said
  unfolding audit_within
  file_refused t r = file_audited (r ∙ rw (← asked.verdict, t) refl)

  pub file_passed : v ≡ passes → said ≡ problem_audit (problem_of f) values picks
      → FileAudited f values picks before index said
  unfolding audit_within
  file_passed t r = file_audited (r ∙ rw (← asked.verdict, t) refl)
