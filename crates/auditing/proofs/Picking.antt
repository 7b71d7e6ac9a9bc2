-- Once question 18 has said yes, the picks at reached states that are no goals say what they cost.
use mathlib.Core.Path.{◌≡◌, refl}
use Prim.Native.Nat.{ℕ, ◌<◌}
use native.Mathlib.Omega.{arith}
use mathlib.Core.Bool.{true, false, ◌||◌, not}
use mathlib.Core.List.{List}
use mathlib.Core.Logic.{◌⊎◌, inl, inr, ⊎_elim}
use lib.Dec.{eqb}
use lib.ListN.{get_or}
use borrow.Author.Tests.{not-true, le-leb, eqb-true, eqb-false, ne_eqb}
use Rattle.model.specs.Audit.{open_state, stray_state, slack_state}
use Rattle.model.specs.Limits.{give_up}
use Rattle.model.specs.Problem.{Problem, own_row}
use Rattle.guarantee.specs.Searches.{and_left, and_right, each_yes, first_at, implied, or_clear, or_cases}
use Rattle.guarantee.specs.Walks.{own_row_lem}
use Rattle.walking.specs.Costs.{Costed}
use Rattle.auditing.specs.Plans.{problem_in, values_in, picks_in}
use Rattle.auditing.specs.StateTests.{fits_at, close_at}
use Rattle.auditing.specs.declared.plan.Plan.{Plan}

module _ (plan : Plan) (marks : List ℕ) where
  abbrev p : Problem
  p = problem_in plan

  abbrev pick : ℕ → ℕ
  pick = picks_in plan

  inside : {s : ℕ} → s < plan.states → s < p.states
  inside l = omega (arith, plan.states_are)

  module _ (fit : stray_state p pick marks ≡ plan.states) where
    fitting_pick : (s : ℕ) → s < p.states → p.goal s ≡ false → (get_or marks s 0 ≡ 0 → ⊥)
        → (eqb (pick s) give_up || own_row p s (pick s)) ≡ true
    unfolding stray_state
    fitting_pick s l goal marked =
        let opened : open_state p marks s ≡ true = rw (goal, ne_eqb (get_or marks s 0) 0 marked) refl in
        let yes = le-leb p.states (stray_state p pick marks) (omega (arith, fit, plan.states_are)) in
        implied (open_state p marks s) _ (each_yes (fits_at p pick marks) p.states yes s l) opened

    pub fits_costed : Costed plan.problem.file.now plan.picks.now marks
    fits_costed =
        record {
          long = omega (arith, plan.states_are, plan.picks_long);
          costs =
              λ s l goal marked.
              ⊎_elim (λ e. inl (eqb-true _ _ e)) (λ own. inr (own_row_lem p plan.problem.formed s (pick s) l own))
              (or_cases (eqb (pick s) give_up) _ (fitting_pick s l goal marked));
        }

  -- question 19 says no at a reached state that is no goal, whose pick says what it costs
  module _ (costed : Costed plan.problem.file.now plan.picks.now marks) (s : ℕ) (l : s < plan.states) where
    pub open_costed : open_state p marks s ≡ true → (pick s ≡ give_up) ⊎ (pick s < p.rows)
    open_costed h =
        let clear = eqb (get_or marks s 0) 0 in
        costed.costs s (inside l) (not-true (p.goal s) (and_left (not (p.goal s)) (not clear) h))
        (eqb-false _ _ (not-true clear (and_right (not (p.goal s)) (not clear) h)))

    pub slack_pick : slack_state p (values_in plan) pick marks ≡ s → (pick s ≡ give_up) ⊎ (pick s < p.rows)
    unfolding slack_state
    slack_pick found =
        let test = close_at p (values_in plan) pick marks in
        open_costed
        (or_clear (open_state p marks s) _ (rw found at (first_at test 0 p.states (omega (arith, found, inside l)))))
