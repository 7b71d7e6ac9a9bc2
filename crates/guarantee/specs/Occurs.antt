-- Following a plan (request E2): outcomes that may occur, and what it means that a report's questions say yes.
-- Each test is turned into plain facts by the laws of Bools.
use Rattle.std.specs.Prelude.{◌≡◌, ℕ, zero, suc, ◌≤◌, ◌<◌, Bool, ◌&&◌, not, List, [], ◌∷◌, map, ltb, get_or, length}
use Rattle.std.proofs.Math.Path.{refl}
use Rattle.std.proofs.Common.{sym, ◌∙◌, ap}
use native.Mathlib.Omega.{arith}
use Rattle.std.proofs.Math.Bool.{true, false, true≢false}
use Rattle.std.proofs.Math.Dec.{eqb}
use borrow.Author.Tests.{not-true, eqb-true, ltb-true, lt-ltb, leb-true, eq-eqb, ne_eqb}
use Rattle.model.specs.Limits.{give_up, max_moves, max_spent, max_penalty}
use Rattle.model.specs.Problem.{Problem, Outcome, own_row}
use Rattle.model.specs.Questions.{passes, fails, ◌then◌, ask}
use Rattle.model.specs.Walk.{In, here, there, Reached, along, successors, next}
use Rattle.model.specs.Audit.{own_pick}
use Rattle.model.specs.Following.{leads_on, leads_to, move_seconds_on, move_seconds, at_end, in_shift, has_outcome, may_occur}
use Rattle.model.specs.Following.{report_questions}
use Rattle.model.specs.declared.Follower.{Follower}
use Rattle.guarantee.specs.Searches.{and_left, and_right, or_skip, or_none, then_first, then_next, ask_yes}
use Rattle.guarantee.specs.WellFormed.{WellFormed}
use Rattle.guarantee.specs.Walks.{own_row_lem, next_state}

-- Bools and lists

pub and_none : (a b : Bool) → (a && b) ≡ false → a ≡ true → b ≡ false
and_none true b h e = h
and_none false b h e = absurd (true≢false (sym e))

length_map : {A B : Type 0} (g : A → B) (l : List A) → length (map g l) ≡ length l
length_map g [] = refl
length_map g (a ∷ l) = ap suc (length_map g l)

get_d_in : {A : Type 0} (l : List A) (i : ℕ) (d : A) → i < length l → In (get_or l i d) l
get_d_in [] i d h = absurd (omega arith)
get_d_in (a ∷ l) zero d h = here
get_d_in (a ∷ l) (suc i) d h = there (get_d_in l i d (omega arith))

-- An outcome that may occur: question 22 says yes

module _ (p : Problem) (picks : ℕ → ℕ) (s o : ℕ) (h : may_occur p picks s o ≡ true) where
  pub occurs_state : s < p.states
  occurs_state = ltb-true _ _ (and_left (ltb s p.states) _ h)

  picked : (own_pick p s (picks s) && has_outcome p (picks s) o) ≡ true
  picked = and_right (ltb s p.states) _ h

  pub occurs_pick : own_pick p s (picks s) ≡ true
  occurs_pick = and_left (own_pick p s (picks s)) _ picked

  pub occurs_has : has_outcome p (picks s) o ≡ true
  occurs_has = and_right (own_pick p s (picks s)) _ picked

  pub occurs_own : (picks s ≡ give_up → ⊥) → own_row p s (picks s) ≡ true
  occurs_own n = or_skip _ _ occurs_pick (ne_eqb _ _ n)

  pub occurs_outcome : (picks s ≡ give_up → ⊥) → o < length (p.outcomes (picks s))
  unfolding has_outcome
  occurs_outcome n =
      ltb-true _ _ (rw (ne_eqb (picks s) give_up n) at occurs_has)

  pub occurs_given : picks s ≡ give_up → o ≡ 0
  unfolding has_outcome
  occurs_given g = eqb-true o 0 (rw (eq-eqb (picks s) give_up g) at occurs_has)

  pub occurs_row : WellFormed p → (picks s ≡ give_up → ⊥) → picks s < p.rows
  occurs_row formed n = own_row_lem p formed s (picks s) occurs_state (occurs_own n)

  -- it leads to a successor, and from a reached state to a reached one
  occurs_next : p.goal s ≡ false → (picks s ≡ give_up → ⊥) → In (get_or (successors p (picks s)) o s) (next p picks s)
  unfolding next
  occurs_next goal n =
      rw (goal, occurs_own n)
      (get_d_in (successors p (picks s)) o s
      (rw (length_map (λ (x : Outcome). x.successor) (p.outcomes (picks s))) (occurs_outcome n)))

  pub occurs_reached : Reached p picks s → p.goal s ≡ false → Reached p picks (leads_to p picks s o)
  unfolding leads_to
  occurs_reached r goal = step (eqb (picks s) give_up) refl
    where
      step : (b : Bool) → eqb (picks s) give_up ≡ b → Reached p picks (leads_on b p (picks s) s o)
      step true e = r
      step false e = along r (occurs_next goal (λ g. true≢false (sym (eq-eqb (picks s) give_up g) ∙ e)))

  pub occurs_leads : WellFormed p → p.goal s ≡ false → leads_to p picks s o < p.states
  unfolding leads_to
  occurs_leads formed goal = step (eqb (picks s) give_up) refl
    where
      step : (b : Bool) → eqb (picks s) give_up ≡ b → leads_on b p (picks s) s o < p.states
      step true e = occurs_state
      step false e =
          next_state p formed picks s _ occurs_state
          (occurs_next goal (λ g. true≢false (sym (eq-eqb (picks s) give_up g) ∙ e)))

  pub occurs_seconds : WellFormed p → move_seconds p picks s ≤ max_penalty
  unfolding move_seconds
  occurs_seconds formed = step (eqb (picks s) give_up) refl
    where
      step : (b : Bool) → eqb (picks s) give_up ≡ b → move_seconds_on b p (picks s) ≤ max_penalty
      step true e = formed.penalty_high
      step false e =
          omega (
            arith,
            formed.cost_high (picks s) (occurs_row formed (λ g. true≢false (sym (eq-eqb (picks s) give_up g) ∙ e))),
          )

-- A report's questions say yes

module _ (p : Problem) (picks : ℕ → ℕ) (w : Follower) (o : ℕ) (h : report_questions p picks w o ≡ passes) where
  pub asked_open : at_end p w ≡ false
  unfolding report_questions
  asked_open = not-true (at_end p w) (ask_yes 20 0 _ (then_first _ _ h))

  pub asked_shift : in_shift w ≡ true
  unfolding report_questions
  asked_shift = ask_yes 21 0 _ (then_first _ _ (then_next (ask 20 0 (not (at_end p w))) _ h))

  pub asked_occurs : may_occur p picks w.state o ≡ true
  unfolding report_questions
  asked_occurs =
      ask_yes 22 0 _ (then_next (ask 21 0 (in_shift w)) _ (then_next (ask 20 0 (not (at_end p w))) _ h))

  pub asked_moves : w.moves < max_moves
  asked_moves = ltb-true _ _ (and_left (ltb w.moves max_moves) _ asked_shift)

  pub asked_seconds : w.seconds ≤ max_spent
  asked_seconds = leb-true _ _ (and_right (ltb w.moves max_moves) _ asked_shift)

-- a state of the file at which the record is not at its end is no goal
pub open_goal : (p : Problem) (w : Follower) → at_end p w ≡ false → w.state < p.states → p.goal w.state ≡ false
open_goal p w h l =
    let goal = or_none (not (eqb w.mark 0)) _ h in and_none (ltb w.state p.states) _ goal (lt-ltb _ _ l)

-- the questions before the one that says no say yes

question_is : {q r i j : ℕ} → fails q i ≡ fails r j → q ≡ r
question_is h = cc

pub asked_22 : (a b c : Bool) {i : ℕ} → (ask 20 0 a then ask 21 0 b then ask 22 0 c) ≡ fails 22 i → (a ≡ true) × (c ≡ false)
asked_22 true true true h = absurd (true≢false (cc))
asked_22 true true false h = (refl, refl)
asked_22 true false c h = absurd (omega (arith, question_is h))
asked_22 false b c h = absurd (omega (arith, question_is h))

pub asked_21 : (a b c : Bool) {i : ℕ} → (ask 20 0 a then ask 21 0 b then ask 22 0 c) ≡ fails 21 i → b ≡ false
asked_21 true true true h = absurd (true≢false (cc))
asked_21 true true false h = absurd (omega (arith, question_is h))
asked_21 true false c h = refl
asked_21 false b c h = absurd (omega (arith, question_is h))
