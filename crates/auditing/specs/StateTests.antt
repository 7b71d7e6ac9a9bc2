-- The tests of questions 16, 18 and 19 at one state, and these questions in order.
use Rattle.std.specs.Prelude.{ℕ, ◌+◌, ◌-◌, Bool, ◌||◌, not, List, leb, eqb, pos}
use Rattle.std.proofs.Math.IntN.{sub_ℕ}
use Rattle.model.specs.Limits.{give_up}
use Rattle.model.specs.Problem.{Problem, give_up_cost, own_row}
use Rattle.model.specs.Walk.{walk, least_cost}
use Rattle.model.specs.Audit.{Audited, accepted, refused, or_else, bounded_on, open_state, pick_value, stray_state}
use Rattle.model.specs.Audit.{slack_state}

-- V is zero at a goal and at most 1000 × D elsewhere
abbrev pub bounded_at : Problem → (ℕ → ℕ) → ℕ → Bool
bounded_at p v = λ s. bounded_on (p.goal s) (give_up_cost p) (v s)

-- a reached pick is the state's row or gives up, goals aside
abbrev pub fits_at : Problem → (ℕ → ℕ) → List ℕ → ℕ → Bool
fits_at p picks marks = λ s. not (open_state p marks s) || (eqb (picks s) give_up || own_row p s (picks s))

-- a reached pick's value is at most V + e - 1, goals aside
abbrev pub close_at : Problem → (ℕ → ℕ) → (ℕ → ℕ) → List ℕ → ℕ → Bool
close_at p v picks marks = λ s. not (open_state p marks s) || leb (pick_value p v picks s) (v s + p.tolerance - 1)

-- questions 18 and 19 in order, and then the least cost
abbrev pub pick_questions : Problem → (ℕ → ℕ) → (ℕ → ℕ) → Audited
pick_questions p v picks =
    let marks = (walk p picks).marks in
    let stray = stray_state p picks marks in
    let slack = slack_state p v picks marks in
    or_else (leb p.states stray) (refused 18 stray (pos 0))
    (or_else (leb p.states slack) (refused 19 slack (sub_ℕ (v slack) (pick_value p v picks slack)))
    (accepted (least_cost p picks)))
