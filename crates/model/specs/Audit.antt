-- "The audit": questions 15 to 19 of a file with a values table and a picks table, and what accepted carries.
use Rattle.std.specs.Prelude.{ℕ, ◌+◌, ◌-◌, Bool, true, false, ◌&&◌, ◌||◌, not, List, leb, eqb, get_or, length, ℤ, pos}
use Rattle.std.proofs.Math.IntN.{sub_ℕ}
use Rattle.model.specs.Limits.{Limits, max_states, in_force, give_up}
use Rattle.model.specs.Problem.{Problem, give_up_cost, own_row}
use Rattle.model.specs.Search.{first}
use Rattle.model.specs.Sections.{problem_of}
use Rattle.model.specs.Value.{row_value, by_state}
use Rattle.model.specs.Questions.{Verdict, passes, fails, file_questions_within, undercut_row, undercut_state}
use Rattle.model.specs.Walk.{walk_with, least_cost_with}

-- "Accepted .. carries C", "The audit's refusals carry an excess"
pub data Audited : Type 0 where
  accepted : (least : ℕ) → Audited
  refused : (question place : ℕ) (excess : ℤ) → Audited

abbrev pub or_else : Bool → Audited → Audited → Audited
or_else true refusal next = next
or_else false refusal next = refusal

-- the value of a pick: its row value, or 1000 × D where it gives up
abbrev pub pick_value_on : Bool → Problem → (ℕ → ℕ) → ℕ → ℕ
pick_value_on true p v r = give_up_cost p
pick_value_on false p v r = row_value p v r

unfoldable pub pick_value : Problem → (ℕ → ℕ) → (ℕ → ℕ) → ℕ → ℕ
pick_value p v picks s = pick_value_on (eqb (picks s) give_up) p v (picks s)

-- "Is V zero at goals, and at most 1000 × D elsewhere? 16 (state)."
abbrev pub bounded_on : Bool → ℕ → ℕ → Bool
bounded_on true limit x = eqb x 0
bounded_on false limit x = leb x limit

unfoldable pub unbounded_state : Problem → (ℕ → ℕ) → ℕ
unbounded_state p v = first (λ s. bounded_on (p.goal s) (give_up_cost p) (v s)) 0 p.states

-- a state that is reached and no goal
abbrev pub open_state : Problem → List ℕ → ℕ → Bool
open_state p marks s = not (p.goal s) && not (eqb (get_or marks s 0) 0)

-- a pick of state s's own: "that state's row or 65,535"
abbrev pub own_pick : Problem → ℕ → ℕ → Bool
own_pick p s r = eqb r give_up || own_row p s r

-- "Is each reached pick that state's row or 65,535, goals aside? 18 (state)."
unfoldable pub stray_state : Problem → (ℕ → ℕ) → List ℕ → ℕ
stray_state p picks marks = first (λ s. not (open_state p marks s) || own_pick p s (picks s)) 0 p.states

-- "Is each reached pick's value at most V + e − 1, goals aside? 19 (state)."
unfoldable pub slack_state : Problem → (ℕ → ℕ) → (ℕ → ℕ) → List ℕ → ℕ
slack_state p v picks marks =
    first (λ s. not (open_state p marks s) || leb (pick_value p v picks s) (v s + p.tolerance - 1)) 0 p.states

-- questions 16 to 19 in order, with k marks
unfoldable pub table_questions_with : ℕ → Problem → (ℕ → ℕ) → (ℕ → ℕ) → Audited
table_questions_with k p v picks =
    let unbounded = unbounded_state p v in
    let s = undercut_state p v in
    let r = undercut_row p v s in
    let marks = (walk_with k p picks).marks in
    let stray = stray_state p picks marks in
    let slack = slack_state p v picks marks in
    or_else (leb p.states unbounded) (refused 16 unbounded (pos 0))
    (or_else (leb p.states s) (refused 17 r (sub_ℕ (v s) (row_value p v r)))
    (or_else (leb p.states stray) (refused 18 stray (pos 0))
    (or_else (leb p.states slack) (refused 19 slack (sub_ℕ (v slack) (pick_value p v picks slack)))
    (accepted (least_cost_with k p picks)))))

-- "are values and picks long enough? 15 (table)."
unfoldable pub problem_audit_with : ℕ → Problem → List ℕ → List ℕ → Audited
problem_audit_with k p values picks =
    or_else (leb p.states (length values)) (refused 15 0 (pos 0))
    (or_else (leb p.states (length picks)) (refused 15 1 (pos 0)) (table_questions_with k p (by_state values) (by_state picks)))

abbrev pub audit_on_with : ℕ → Verdict → Problem → List ℕ → List ℕ → Audited
audit_on_with k passes p values picks = problem_audit_with k p values picks
audit_on_with k (fails q i) p values picks = refused q i (pos 0)

-- "The audit accepts exactly when its questions all say yes."
unfoldable pub audit_within : Limits → List ℕ → List ℕ → List ℕ → Audited
audit_within L f values picks = audit_on_with L.states (file_questions_within L f) (problem_of f) values picks

-- within the limits that are in force
abbrev pub table_questions : Problem → (ℕ → ℕ) → (ℕ → ℕ) → Audited
table_questions = table_questions_with max_states

abbrev pub problem_audit : Problem → List ℕ → List ℕ → Audited
problem_audit = problem_audit_with max_states

abbrev pub audit_on : Verdict → Problem → List ℕ → List ℕ → Audited
audit_on = audit_on_with max_states

abbrev pub audit : List ℕ → List ℕ → List ℕ → Audited
audit = audit_within in_force
