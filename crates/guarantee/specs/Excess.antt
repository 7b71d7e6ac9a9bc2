-- The excess of the audit's refusals: at least 1 at question 17, at most -e at question 19, and 0 elsewhere.
-- Question 17 stops at a row whose value lies below its state's, question 19 at a pick whose value is above V + e - 1.
use Rattle.std.specs.Prelude.{◌≡◌, refl, ℕ, suc, ◌+◌, ◌-◌, ◌≤◌, ◌<◌, Bool, true, false, ◌||◌, List, length, ℤ, pos, negsuc}
use Rattle.std.proofs.Common.{ap, arith}
use Rattle.std.proofs.Math.Bool.{not}
use Rattle.std.proofs.Math.Dec.{leb}
use Rattle.std.proofs.Math.IntN.{sub_ℕ}
use borrow.Author.Tests.{leb-false, lt-ltb, le-ltb}
use Rattle.model.specs.Problem.{Problem, end_row}
use Rattle.model.specs.Sections.{problem_of}
use Rattle.model.specs.Value.{row_value, by_state}
use Rattle.model.specs.Walk.{walk}
use Rattle.model.specs.Questions.{Verdict, passes, fails, file_questions}
use Rattle.model.specs.Questions.{undercut_state, undercut_row}
use Rattle.model.specs.Audit.{Audited, accepted, refused, or_else, open_state, pick_value, unbounded_state, stray_state, slack_state}
use Rattle.model.specs.Audit.{table_questions, table_questions_with, problem_audit_with, audit_on, audit, audit_within}
use Rattle.model.specs.Promises.{ExcessFits}
use Rattle.guarantee.specs.Searches.{or_none, first_at}
use Rattle.guarantee.specs.Numbers.{early_file, early_number}
use Rattle.guarantee.specs.WellFormed.{well_formed}

-- an answer that carries such an excess where it refuses
pub record Fitting (e : ℕ) (said : Audited) : Type 0 where
  pub fitting : (q i : ℕ) (z : ℤ) → said ≡ refused q i z → ExcessFits e q z

-- differences

above : (a b : ℕ) → b < a → (k : ℕ) × (sub_ℕ a b ≡ pos (suc k))
above a b h = (a - suc b, rw (le-ltb a b (omega arith)) (ap pos (omega arith)))

below : (e a b : ℕ) → 1 ≤ e → a + e - 1 < b → (k : ℕ) × (e ≤ suc k) × (sub_ℕ a b ≡ negsuc k)
below e a b low h = (b - suc a, omega arith, rw (lt-ltb a b (omega arith)))

-- a refusal's excess by its question

refuses : (e q i : ℕ) (z : ℤ) → ExcessFits e q z → Fitting e (refused q i z)
refuses e q i z h = record { fitting = λ q' i' z' same. let a : q ≡ q' = cc in let b : z ≡ z' = cc in rw (← a, ← b) h }

accepts_all : (e least : ℕ) → Fitting e (accepted least)
accepts_all e least = record { fitting = λ q i z same. absurd (let w : ◌≡◌ {A = ℕ} 0 1 = cc in omega arith) }

at_17 : (e i : ℕ) (z : ℤ) → (k : ℕ) × (z ≡ pos (suc k)) → Fitting e (refused 17 i z)
at_17 e i z h = refuses e 17 i z (record { undercut = λ q. h; slack = λ q. absurd (omega arith); none = λ n m. absurd (n refl) })

at_19 : (e i : ℕ) (z : ℤ) → (k : ℕ) × (e ≤ suc k) × (z ≡ negsuc k) → Fitting e (refused 19 i z)
at_19 e i z h = refuses e 19 i z (record { undercut = λ q. absurd (omega arith); slack = λ q. h; none = λ n m. absurd (m refl) })

elsewhere : (e q i : ℕ) → (q ≡ 17 → ⊥) → (q ≡ 19 → ⊥) → Fitting e (refused q i (pos 0))
elsewhere e q i n m =
    refuses e q i (pos 0) (record { undercut = λ h. absurd (n h); slack = λ h. absurd (m h); none = λ n m. refl })

fits_else : (e : ℕ) (b : Bool) (refusal next : Audited) → (b ≡ false → Fitting e refusal) → (b ≡ true → Fitting e next)
    → Fitting e (or_else b refusal next)
fits_else e true refusal next if_no if_yes = if_yes refl
fits_else e false refusal next if_no if_yes = if_no refl

-- questions 17 and 19

module _ (p : Problem) (v : ℕ → ℕ) where
  -- the row at which question 17 stops is the state's own
  pub undercut_own : undercut_state p v < p.states → undercut_row p v (undercut_state p v) < end_row p (undercut_state p v)
  unfolding undercut_state
  undercut_own h = leb-false _ _ (first_at (λ s. leb (end_row p s) (undercut_row p v s)) 0 p.states (omega arith))

  -- and its value lies below the state's
  undercut_below : undercut_state p v < p.states → row_value p v (undercut_row p v (undercut_state p v)) < v (undercut_state p v)
  unfolding undercut_row
  undercut_below h =
      let s = undercut_state p v in
      leb-false _ _ (first_at (λ r. leb (v s) (row_value p v r)) (p.first_row s) (p.row_count s) (undercut_own h))

module _ (p : Problem) (v picks : ℕ → ℕ) where
  -- the pick at which question 19 stops lies above V + e - 1
  slack_above : (marks : List ℕ) → leb p.states (slack_state p v picks marks) ≡ false
      → v (slack_state p v picks marks) + p.tolerance - 1 < pick_value p v picks (slack_state p v picks marks)
  unfolding slack_state
  slack_above marks h =
      let s = slack_state p v picks marks in
      let close = leb (pick_value p v picks s) (v s + p.tolerance - 1) in
      leb-false _ _
      (or_none (not (open_state p marks s)) close
      (first_at (λ s. not (open_state p marks s) || leb (pick_value p v picks s) (v s + p.tolerance - 1)) 0 p.states
      (omega (arith, leb-false p.states (slack_state p v picks marks) h))))

  pub table_excess : 1 ≤ p.tolerance → Fitting p.tolerance (table_questions p v picks)
  unfolding table_questions_with
  table_excess low =
      let e = p.tolerance in
      let marks = (walk p picks).marks in
      fits_else e (leb p.states (unbounded_state p v)) _ _ (λ n. elsewhere e 16 _ (λ h. omega arith) (λ h. omega arith))
      λ y.
      fits_else e (leb p.states (undercut_state p v)) _ _ (λ n. at_17 e _ _ (above _ _ (undercut_below p v (leb-false _ _ n))))
      λ y.
      fits_else e (leb p.states (stray_state p picks marks)) _ _ (λ n. elsewhere e 18 _ (λ h. omega arith) (λ h. omega arith))
      λ y.
      fits_else e (leb p.states (slack_state p v picks marks)) _ _ (λ n. at_19 e _ _ (below e _ _ low (slack_above marks n)))
      (λ y. accepts_all e _)

-- "The audit's refusals carry an excess: .. at least 1 at question 17; .. at 19, at most −e; 0 elsewhere."
pub audit_excess : (f values picks : List ℕ) (q i : ℕ) (z : ℤ) → audit f values picks ≡ refused q i z
    → ExcessFits (problem_of f).tolerance q z
unfolding audit_within problem_audit_with
audit_excess f values picks = (step (file_questions f) refl).fitting
  where
    step : (said : Verdict) → file_questions f ≡ said → Fitting (problem_of f).tolerance (audit_on said (problem_of f) values picks)
    step passes e =
        fits_else _ (leb (problem_of f).states (length values)) _ _ (λ n. elsewhere _ 15 _ (λ h. omega arith) (λ h. omega arith))
        λ y.
        fits_else _ (leb (problem_of f).states (length picks)) _ _ (λ n. elsewhere _ 15 _ (λ h. omega arith) (λ h. omega arith))
        λ y. table_excess (problem_of f) (by_state values) (by_state picks) (well_formed f e).tolerance_low
    step (fails q i) e =
        let late = early_number (early_file f) q i e in
        elsewhere _ q i (λ h. omega (arith, late (omega arith))) (λ h. omega (arith, late (omega arith)))
