-- Question 22 and the move of a plan, as the code puts them, from what the index says of a state's pick. The
-- definitions are opened here; the answers cite.
use mathlib.Core.Path.{◌≡◌, refl, sym, ◌∙◌}
use Prim.Native.Nat.{ℕ, ◌+◌, ◌≤◌, ◌<◌}
use native.Mathlib.Omega.{arith}
use mathlib.Core.Bool.{Bool, true, false}
use lib.Dec.{ltb, eqb}
use lib.ListN.{get_or, length}
use borrow.Author.Tests.{lt-ltb, eq-eqb, ne_eqb}
use Rattle.model.specs.Following.{leads_to, move_seconds, has_outcome, may_occur, report_questions, moved}
use Rattle.model.specs.Limits.{give_up, max_moves, max_spent, max_states}
use Rattle.model.specs.Problem.{Problem, own_row}
use Rattle.model.specs.Questions.{passes}
use Rattle.model.specs.Walk.{successors}
use Rattle.model.specs.declared.Follower.{Follower}
use Rattle.guarantee.specs.Occurs.{asked_occurs, asked_moves, asked_seconds, occurs_state, occurs_row, occurs_outcome}
use Rattle.guarantee.specs.Walks.{own_row_lem}
use Rattle.reading.specs.Picks.{Picks}
use Rattle.reading.specs.RowParts.{own_at_lem, seconds_at, index_seconds}
use Rattle.reading.specs.Tests.{own_at}
use Rattle.reading.specs.declared.picks.Pick.TheVariants.{Row}
use Rattle.auditing.specs.Plans.{problem_in, picks_in}
use Rattle.auditing.specs.declared.plan.Plan.{Plan}

-- where the questions of a report pass, the outcome may occur
pub may_occur_lem
    : (p : Problem) (pick : ℕ → ℕ) (w : Follower) (o : ℕ) → report_questions p pick w o ≡ passes
    → may_occur p pick w.state o ≡ true
may_occur_lem p pick w o asked = asked_occurs p pick w o asked

module _ (plan : Plan) where
  abbrev p : Problem
  p = problem_in plan

  abbrev pick : ℕ → ℕ
  pick = picks_in plan

  -- question 22

  module _ {s : ℕ} (o : ℕ) (l : s < plan.states) where
    abbrev occurs : Bool
    occurs = may_occur p pick s o

    inside : s < p.states
    inside = omega (arith, plan.states_are)

    pub given_occurs : pick s ≡ give_up → eqb o 0 ≡ occurs
    unfolding has_outcome
    given_occurs g = rw (lt-ltb s p.states inside, eq-eqb (pick s) give_up g) refl

    -- what the index says of the pick
    module _ {r : ℕ} (took : Picks (pick s) (Row r)) {own : Bool}
        (asked : own ≡ own_at plan.problem.index.now s r) where
      index_own : own ≡ own_row p s (pick s)
      index_own = asked ∙ rw (← took.0) (own_at_lem _ plan.problem.index.now plan.problem.ready s inside (pick s))

      pub own_there : own ≡ true → r < p.rows
      own_there t = rw (← took.0) (own_row_lem p plan.problem.formed s (pick s) inside (sym index_own ∙ t))

      pub stray_occurs : own ≡ false → own ≡ occurs
      stray_occurs t = rw (lt-ltb s p.states inside, ne_eqb (pick s) give_up took.1, ← index_own, t) refl

      pub own_occurs : own ≡ true → {k : ℕ} → k ≡ length (p.outcomes r) → ltb o k ≡ occurs
      unfolding has_outcome
      own_occurs t c =
          rw (lt-ltb s p.states inside, ne_eqb (pick s) give_up took.1, ← index_own, t, c, ← took.0) refl

  -- the move

  module _ (w : Follower) (o : ℕ) (asked : report_questions p pick w o ≡ passes) where
    occurring : may_occur p pick w.state o ≡ true
    occurring = may_occur_lem p pick w o asked

    pub moves_room : w.moves < max_moves
    moves_room = asked_moves p pick w o asked

    pub seconds_room : w.seconds ≤ max_spent
    seconds_room = asked_seconds p pick w o asked

    pub picked : (w.state < length plan.picks.now) × (w.state < max_states)
    picked =
        let l = occurs_state p pick w.state o occurring in
        (omega (arith, l, plan.states_are, plan.picks_long), omega (arith, l, plan.problem.formed.states_high))

    pub gave_up_moved : pick w.state ≡ give_up → {d : ℕ} → d ≡ p.penalty
        → record { state = w.state; moves = w.moves + 1; seconds = w.seconds + d; mark = 1 } ≡ moved p pick w o
    unfolding moved leads_to move_seconds
    gave_up_moved g d = rw (eq-eqb (pick w.state) give_up g, d) refl

    module _ {r : ℕ} (took : Picks (pick w.state) (Row r)) where
      pub row_there : r < p.rows
      row_there = rw (← took.0) (occurs_row p pick w.state o occurring plan.problem.formed took.1)

      pub outcome_there : o < length (p.outcomes r)
      outcome_there = rw (← took.0) (occurs_outcome p pick w.state o occurring took.1)

      pub went_moved : {t : ℕ} → ((s : ℕ) → t ≡ get_or (successors p r) o s)
          → {c : ℕ} → c ≡ seconds_at plan.problem.index.now r
          → record { state = t; moves = w.moves + 1; seconds = w.seconds + c; mark = w.mark } ≡ moved p pick w o
      unfolding moved leads_to move_seconds
      went_moved leads c =
          let cost = index_seconds plan.problem.ready r row_there in
          rw (ne_eqb (pick w.state) give_up took.1, took.0, leads w.state, c, cost) refl
