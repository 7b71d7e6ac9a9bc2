-- What it means that questions 16 to 19 say yes to a table and picks, in plain facts, and that these facts are enough.
-- Each question is a search, read through the law that it ends at its bound exactly where every test says yes.
use Rattle.std.specs.Prelude.{◌≡◌, refl, ℕ, ◌+◌, ◌-◌, ◌≤◌, ◌<◌, Bool, false, ◌||◌, List, ◌⊎◌, ◌↔◌, leb, eqb, get_or, length, ℤ}
use Rattle.std.proofs.Common.{sym, ◌∙◌, arith, true≢false, inl, inr}
use Rattle.std.proofs.Math.Bool.{true, not}
use borrow.Author.Tests.{leb-true, le-leb, eqb-true, eq-eqb, not-true}
use Rattle.model.specs.Limits.{give_up}
use Rattle.model.specs.Problem.{Problem, give_up_cost, own_row}
use Rattle.model.specs.Value.{by_state}
use Rattle.model.specs.Sections.{problem_of}
use Rattle.model.specs.Questions.{Verdict, passes, fails, file_questions, undercut_state}
use Rattle.model.specs.Walk.{walk, least_cost}
use Rattle.model.specs.Audit.{Audited, accepted, refused, or_else, pick_value, bounded_on, unbounded_state, open_state, stray_state}
use Rattle.model.specs.Audit.{slack_state}
use Rattle.model.specs.Audit.{table_questions, table_questions_with, problem_audit, problem_audit_with, audit_on, audit, audit_within}
use Rattle.guarantee.specs.WellFormed.{WellFormed, well_formed}
use Rattle.guarantee.specs.Searches.{and_left, and_right, or_cases, or_left, or_right, implied, implies, each_yes, yes_each}
use Rattle.guarantee.specs.Undercuts.{NoUndercut, undercut_none, none_undercut}

-- the walk of the picks marks the state
abbrev pub Marked : Problem → (ℕ → ℕ) → ℕ → Type 0
Marked p picks s = eqb (get_or (walk p picks).marks s 0) 0 ≡ false

-- questions 16 to 19 say yes under tolerance e, and C is the least cost
pub record AcceptsWithin (p : Problem) (e : ℕ) (v picks : ℕ → ℕ) (C : ℕ) : Type 0 where
  pub goal_zero : (s : ℕ) → s < p.states → p.goal s ≡ true → v s ≡ 0
  pub value_high : (s : ℕ) → s < p.states → p.goal s ≡ false → v s ≤ give_up_cost p
  pub no_undercut : NoUndercut p v
  pub pick_fits
      : (s : ℕ) → s < p.states → p.goal s ≡ false → Marked p picks s → (picks s ≡ give_up) ⊎ (own_row p s (picks s) ≡ true)
  pub pick_close : (s : ℕ) → s < p.states → p.goal s ≡ false → Marked p picks s → pick_value p v picks s ≤ v s + e - 1
  pub least : C ≡ least_cost p picks

-- under the file's own
abbrev pub Accepts : Problem → (ℕ → ℕ) → (ℕ → ℕ) → ℕ → Type 0
Accepts p v picks C = AcceptsWithin p p.tolerance v picks C

-- and so under every larger one
pub accepts_wider
    : (p : Problem) (v picks : ℕ → ℕ) (C e d : ℕ) → e ≤ d → AcceptsWithin p e v picks C → AcceptsWithin p d v picks C
accepts_wider p v picks C e d wider facts =
    record {
      goal_zero = facts.goal_zero;
      value_high = facts.value_high;
      no_undercut = facts.no_undercut;
      pick_fits = facts.pick_fits;
      pick_close = λ s l goal marked. omega (arith, facts.pick_close s l goal marked);
      least = facts.least;
    }

-- goals included, V is at most 1000 × D
pub accepted_high
    : (p : Problem) (v picks : ℕ → ℕ) (C : ℕ) {e : ℕ} → AcceptsWithin p e v picks C → (s : ℕ) → s < p.states → v s ≤ give_up_cost p
accepted_high p v picks C facts s l = step (p.goal s) refl
  where
    step : (b : Bool) → p.goal s ≡ b → v s ≤ give_up_cost p
    step true e = rw (facts.goal_zero s l e) (omega arith)
    step false e = facts.value_high s l e

-- a refusal of the audit never accepts

else_yes : (b : Bool) (q i : ℕ) (excess : ℤ) (next : Audited) {C : ℕ} → or_else b (refused q i excess) next ≡ accepted C → b ≡ true
else_yes true q i excess next h = refl
else_yes false q i excess next h = cc

else_next : (b : Bool) (q i : ℕ) (excess : ℤ) (next : Audited) {C : ℕ} → or_else b (refused q i excess) next ≡ accepted C
    → next ≡ accepted C
else_next true q i excess next h = h
else_next false q i excess next h = cc

-- question 16

bounded_goal : (b : Bool) (limit x : ℕ) → bounded_on b limit x ≡ true → b ≡ true → x ≡ 0
bounded_goal true limit x h e = eqb-true x 0 h
bounded_goal false limit x h e = absurd (true≢false (sym e))

bounded_open : (b : Bool) (limit x : ℕ) → bounded_on b limit x ≡ true → b ≡ false → x ≤ limit
bounded_open true limit x h e = absurd (true≢false e)
bounded_open false limit x h e = leb-true x limit h

bounded_yes : (b : Bool) (limit x : ℕ) → (b ≡ true → x ≡ 0) → (b ≡ false → x ≤ limit) → bounded_on b limit x ≡ true
bounded_yes true limit x goal other = eq-eqb x 0 (goal refl)
bounded_yes false limit x goal other = le-leb x limit (other refl)

-- questions 18 and 19 look at marked states that are no goals

open_yes : (p : Problem) (marks : List ℕ) (s : ℕ) → p.goal s ≡ false → eqb (get_or marks s 0) 0 ≡ false → open_state p marks s ≡ true
open_yes p marks s goal marked = rw (goal, marked)

open_goal : (p : Problem) (marks : List ℕ) (s : ℕ) → open_state p marks s ≡ true → p.goal s ≡ false
open_goal p marks s h = not-true (p.goal s) (and_left (not (p.goal s)) (not (eqb (get_or marks s 0) 0)) h)

open_marked : (p : Problem) (marks : List ℕ) (s : ℕ) → open_state p marks s ≡ true → eqb (get_or marks s 0) 0 ≡ false
open_marked p marks s h = not-true (eqb (get_or marks s 0) 0) (and_right (not (p.goal s)) (not (eqb (get_or marks s 0) 0)) h)

-- the tests of questions 18 and 19 at such a state

abbrev fitting : Problem → (ℕ → ℕ) → ℕ → Bool
fitting p picks s = eqb (picks s) give_up || own_row p s (picks s)

abbrev close : Problem → (ℕ → ℕ) → (ℕ → ℕ) → ℕ → Bool
close p v picks s = leb (pick_value p v picks s) (v s + p.tolerance - 1)

fitting_cases : (p : Problem) (picks : ℕ → ℕ) (s : ℕ) → fitting p picks s ≡ true → (picks s ≡ give_up) ⊎ (own_row p s (picks s) ≡ true)
fitting_cases p picks s h = step (or_cases (eqb (picks s) give_up) (own_row p s (picks s)) h)
  where
    step : (eqb (picks s) give_up ≡ true) ⊎ (own_row p s (picks s) ≡ true) → (picks s ≡ give_up) ⊎ (own_row p s (picks s) ≡ true)
    step (inl e) = inl (eqb-true (picks s) give_up e)
    step (inr e) = inr e

cases_fitting : (p : Problem) (picks : ℕ → ℕ) (s : ℕ) → (picks s ≡ give_up) ⊎ (own_row p s (picks s) ≡ true) → fitting p picks s ≡ true
cases_fitting p picks s (inl e) = or_left (own_row p s (picks s)) (eq-eqb (picks s) give_up e)
cases_fitting p picks s (inr e) = or_right (eqb (picks s) give_up) e

module _ (p : Problem) (v picks : ℕ → ℕ) where
  -- the four questions, each as its search's end
  record TableYes (C : ℕ) : Type 0 where
    bounded : leb p.states (unbounded_state p v) ≡ true
    undercut : leb p.states (undercut_state p v) ≡ true
    stray : leb p.states (stray_state p picks (walk p picks).marks) ≡ true
    slack : leb p.states (slack_state p v picks (walk p picks).marks) ≡ true
    least : C ≡ least_cost p picks

  table_yes : (C : ℕ) → table_questions p v picks ≡ accepted C → TableYes C
  unfolding table_questions_with
  table_yes C h =
      let h₁ = else_next (leb p.states (unbounded_state p v)) _ _ _ _ h in
      let h₂ = else_next (leb p.states (undercut_state p v)) _ _ _ _ h₁ in
      let h₃ = else_next (leb p.states (stray_state p picks (walk p picks).marks)) _ _ _ _ h₂ in
      let h₄ : accepted (least_cost p picks) ≡ accepted C =
      else_next (leb p.states (slack_state p v picks (walk p picks).marks)) _ _ _ _ h₃ in
      record {
        bounded = else_yes _ _ _ _ _ h;
        undercut = else_yes _ _ _ _ _ h₁;
        stray = else_yes _ _ _ _ _ h₂;
        slack = else_yes _ _ _ _ _ h₃;
        least = cc;
      }

  yes_table : (C : ℕ) → TableYes C → table_questions p v picks ≡ accepted C
  unfolding table_questions_with
  yes_table C h = rw (h.bounded, h.undercut, h.stray, h.slack, h.least)

  -- question 16 says yes to a table that is 0 at goals and at most 1000 × D elsewhere
  pub bounded_table
      : ((s : ℕ) → s < p.states → p.goal s ≡ true → v s ≡ 0) → ((s : ℕ) → s < p.states → p.goal s ≡ false → v s ≤ give_up_cost p)
      → leb p.states (unbounded_state p v) ≡ true
  unfolding unbounded_state
  bounded_table zeros high =
      yes_each (λ s. bounded_on (p.goal s) (give_up_cost p) (v s)) p.states
      λ s l. bounded_yes (p.goal s) (give_up_cost p) (v s) (zeros s l) (high s l)

  -- question 18 says yes to picks that fit at the marked states
  pub fitting_picks
      : ((s : ℕ) → s < p.states → p.goal s ≡ false → Marked p picks s → (picks s ≡ give_up) ⊎ (own_row p s (picks s) ≡ true))
      → leb p.states (stray_state p picks (walk p picks).marks) ≡ true
  unfolding stray_state
  fitting_picks fits =
      let marks = (walk p picks).marks in
      yes_each (λ s. not (open_state p marks s) || fitting p picks s) p.states
      λ s l.
      implies (open_state p marks s) (fitting p picks s)
      λ e. cases_fitting p picks s (fits s l (open_goal p marks s e) (open_marked p marks s e))

  -- what question 19 says of each marked state that is no goal
  pub close_picks
      : leb p.states (slack_state p v picks (walk p picks).marks) ≡ true
      → (s : ℕ) → s < p.states → p.goal s ≡ false → Marked p picks s → pick_value p v picks s ≤ v s + p.tolerance - 1
  unfolding slack_state
  close_picks said s l goal marked =
      let marks = (walk p picks).marks in
      let test : (not (open_state p marks s) || close p v picks s) ≡ true = each_yes _ p.states said s l in
      leb-true _ _ (implied (open_state p marks s) (close p v picks s) test (open_yes p marks s goal marked))

  pub accepts : (C : ℕ) → table_questions p v picks ≡ accepted C → Accepts p v picks C
  unfolding unbounded_state stray_state
  accepts C h =
      let said = table_yes C h in
      let marks = (walk p picks).marks in
      record {
        goal_zero = λ s l. bounded_goal (p.goal s) (give_up_cost p) (v s) (each_yes _ p.states said.bounded s l);
        value_high = λ s l. bounded_open (p.goal s) (give_up_cost p) (v s) (each_yes _ p.states said.bounded s l);
        no_undercut = undercut_none p v said.undercut;
        pick_fits =
            λ s l goal marked.
            let test : (not (open_state p marks s) || fitting p picks s) ≡ true = each_yes _ p.states said.stray s l in
            fitting_cases p picks s (implied (open_state p marks s) (fitting p picks s) test (open_yes p marks s goal marked));
        pick_close = close_picks said.slack;
        least = said.least;
      }

  pub accepted_table : (C : ℕ) → Accepts p v picks C → table_questions p v picks ≡ accepted C
  unfolding slack_state
  accepted_table C facts =
      let marks = (walk p picks).marks in
      yes_table C
      record {
        bounded = bounded_table facts.goal_zero facts.value_high;
        undercut = none_undercut p v facts.no_undercut;
        stray = fitting_picks facts.pick_fits;
        slack =
            yes_each (λ s. not (open_state p marks s) || close p v picks s) p.states
            λ s l.
            implies (open_state p marks s) (close p v picks s)
            λ e. le-leb _ _ (facts.pick_close s l (open_goal p marks s e) (open_marked p marks s e));
        least = facts.least;
      }

-- the same of the whole audit of a file

-- questions 1 to 11 and 15 to 19 say yes
pub record AuditYes (f values picks : List ℕ) (C : ℕ) : Type 0 where
  pub file_passes : file_questions f ≡ passes
  pub values_long : (problem_of f).states ≤ length values
  pub picks_long : (problem_of f).states ≤ length picks
  pub table_accepted : table_questions (problem_of f) (by_state values) (by_state picks) ≡ accepted C

problem_yes : (p : Problem) (values picks : List ℕ) (C : ℕ) → problem_audit p values picks ≡ accepted C
    → (p.states ≤ length values) × (p.states ≤ length picks) × (table_questions p (by_state values) (by_state picks) ≡ accepted C)
unfolding problem_audit_with
problem_yes p values picks C h =
    let h₁ = else_next (leb p.states (length values)) _ _ _ _ h in (
      leb-true _ _ (else_yes (leb p.states (length values)) _ _ _ _ h),
      leb-true _ _ (else_yes (leb p.states (length picks)) _ _ _ _ h₁),
      else_next (leb p.states (length picks)) _ _ _ _ h₁,
    )

pub audit_yes : (f values picks : List ℕ) (C : ℕ) → audit f values picks ≡ accepted C → AuditYes f values picks C
unfolding audit_within
audit_yes f values picks C h = step (file_questions f) refl h
  where
    step : (q : Verdict) → file_questions f ≡ q → audit_on q (problem_of f) values picks ≡ accepted C → AuditYes f values picks C
    step passes e h =
        let said = problem_yes (problem_of f) values picks C h in
        record { file_passes = e; values_long = said.0; picks_long = said.1; table_accepted = said.2 }
    step (fails q i) e h = absurd (true≢false (cc))

-- with tables long enough the audit of a file that passes puts questions 16 to 19
pub audit_table
    : (f values picks : List ℕ) → file_questions f ≡ passes → (problem_of f).states ≤ length values → (problem_of f).states ≤ length picks
    → audit f values picks ≡ table_questions (problem_of f) (by_state values) (by_state picks)
unfolding audit_within problem_audit_with
audit_table f values picks file values_long picks_long =
    rw (file, le-leb (problem_of f).states (length values) values_long, le-leb (problem_of f).states (length picks) picks_long) refl

pub yes_audit : (f values picks : List ℕ) (C : ℕ) → AuditYes f values picks C → audit f values picks ≡ accepted C
yes_audit f values picks C given =
    audit_table f values picks given.file_passes given.values_long given.picks_long ∙ given.table_accepted

pub audit_formed : (f values picks : List ℕ) (C : ℕ) → audit f values picks ≡ accepted C → WellFormed (problem_of f)
audit_formed f values picks C h = well_formed f (audit_yes f values picks C h).file_passes

pub audit_accepts
    : (f values picks : List ℕ) (C : ℕ) → audit f values picks ≡ accepted C → Accepts (problem_of f) (by_state values) (by_state picks) C
audit_accepts f values picks C h = accepts (problem_of f) (by_state values) (by_state picks) C (audit_yes f values picks C h).table_accepted

-- "the audit accepts exactly when its questions all say yes", each told by what it asks
pub audit_exactly
    : (f values picks : List ℕ) (C : ℕ)
    → (audit f values picks ≡ accepted C)
    ↔ ((file_questions f ≡ passes)
    × ((problem_of f).states ≤ length values)
    × ((problem_of f).states ≤ length picks)
    × Accepts (problem_of f) (by_state values) (by_state picks) C)
audit_exactly f values picks C = (
  λ h. let yes = audit_yes f values picks C h in (yes.file_passes, yes.values_long, yes.picks_long, audit_accepts f values picks C h),
  λ h.
      yes_audit f values picks C
      (record {
        file_passes = h.0;
        values_long = h.1;
        picks_long = h.2;
        table_accepted = accepted_table (problem_of f) (by_state values) (by_state picks) C h.3;
      }),
)
