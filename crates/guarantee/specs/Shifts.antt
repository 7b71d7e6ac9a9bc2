-- Following a plan (request E2): what holds of the record after every list of reports from opening.
-- Each law over lists is one induction, with the case split of one report.
use Rattle.std.specs.Prelude.{◌≡◌, ℕ, ◌+◌, ◌*◌, ◌≤◌, ◌<◌, Bool, not, eqb, ℤ, length}
use Rattle.std.proofs.Math.Path.{refl}
use Rattle.std.proofs.Common.{sym, ◌∙◌, ap, true≢false, ⊎_elim}
use native.Mathlib.Omega.{arith}
use Rattle.std.proofs.Math.Bool.{true, false}
use mathlib.Core.List.{List, [], ◌∷◌}
use Rattle.std.proofs.Math.Dec.{ltb}
use borrow.Author.Tests.{not-true, ltb-true, ltb-false, lt-ltb, leb-false, eq-eqb}
use Rattle.model.specs.Limits.{give_up, max_moves, max_spent, max_penalty}
use Rattle.model.specs.Problem.{own_row}
use Rattle.model.specs.Value.{by_state}
use Rattle.model.specs.Sections.{problem_of}
use Rattle.model.specs.Questions.{passes}
use Rattle.model.specs.Walk.{Reached, at_start_lem}
use Rattle.model.specs.Audit.{accepted, refused as audit_refused, own_pick, audit}
use Rattle.model.specs.Following.{way_to, way_seconds, at_end, in_shift, has_outcome, may_occur, report_questions, done, refused, Report}
use Rattle.model.specs.Following.{at_start, opening, moved, report, reports, keep_on, accepted_of}
use Rattle.model.specs.declared.Follower.{Follower}
use Rattle.guarantee.specs.Searches.{and_both, or_left, or_right}
use Rattle.guarantee.specs.Walks.{reached_state, reached_marked}
use Rattle.guarantee.specs.Accepted.{audit_formed, audit_accepts}
use Rattle.guarantee.specs.Occurs.{and_none, asked_21, asked_22, asked_moves, asked_occurs, asked_open, open_goal}
use Rattle.guarantee.specs.Occurs.{occurs_reached, occurs_seconds, occurs_state}
use Rattle.guarantee.specs.Follows.{Reported, stays, moves, reported, ended_refused, opening_stays, refused_audit}
use Rattle.guarantee.specs.Follows.{report_failed, takes_done}

module _ (f values picks : List ℕ) where
  -- what holds of a record and is kept by every move holds after every list of reports
  pub reports_keep
      : (P : Follower → Type 0)
      → ((w : Follower) (o C : ℕ) → audit f values picks ≡ accepted C → report_questions (problem_of f) (by_state picks) w o ≡ passes
      → P w → P (moved (problem_of f) (by_state picks) w o))
      → (os : List ℕ) (w : Follower) → P w → P (reports f values picks os w)
  unfolding reports
  reports_keep P keep [] w h = h
  reports_keep P keep (o ∷ os) w h = reports_keep P keep os (report f values picks w o).left (step _ (reported f values picks w o))
    where
      step : (r : Report) → Reported f values picks w o r → P r.left
      step _ stays = h
      step _ (moves C a v) = keep w o C a v h

  -- "its state is the one that the accepted reports lead to, its moves are their number, and its seconds the sum of their costs"
  pub record Came (w : Follower) (os : List ℕ) (left : Follower) : Type 0 where
    pub state_is : left.state ≡ way_to (problem_of f) (by_state picks) w.state os
    pub moves_are : left.moves ≡ w.moves + length os
    pub seconds_are : left.seconds ≡ w.seconds + way_seconds (problem_of f) (by_state picks) w.state os

  came_on : (w : Follower) (o : ℕ) (os : List ℕ) (left : Follower) → Came (moved (problem_of f) (by_state picks) w o) os left
      → Came w (o ∷ os) left
  unfolding moved way_to way_seconds
  came_on w o os left c =
      record {
        state_is = c.state_is;
        moves_are = omega (arith, c.moves_are);
        seconds_are = omega (arith, c.seconds_are);
      }

  pub reports_came : (os : List ℕ) (w : Follower) → Came w (accepted_of f values picks os w) (reports f values picks os w)
  unfolding reports accepted_of way_to way_seconds
  reports_came [] w = record { state_is = refl; moves_are = omega arith; seconds_are = omega arith }
  reports_came (o ∷ os) w = step (report f values picks w o) (reported f values picks w o) (reports_came os)
    where
      step
          : (r : Report) → Reported f values picks w o r
          → ((w : Follower) → Came w (accepted_of f values picks os w) (reports f values picks os w))
          → Came w (keep_on r.answer o (accepted_of f values picks os r.left)) (reports f values picks os r.left)
      step _ stays next = next w
      step _ (moves C a v) next = came_on w o _ _ (next _)

  -- where the opening is refused, so is every report after it
  pub nothing_follows : (w : Follower) {q i : ℕ} {z : ℤ} → (opening f values picks w).answer ≡ refused q i z
      → (os : List ℕ) → reports f values picks os (opening f values picks w).left ≡ w
  nothing_follows w {q} {i} {z} h os = rw (opening_stays f values picks w h) (reports_keep (λ u. u ≡ w) none os w refl)
    where
      none : (u : Follower) (o C : ℕ) → audit f values picks ≡ accepted C
          → report_questions (problem_of f) (by_state picks) u o ≡ passes → u ≡ w → moved (problem_of f) (by_state picks) u o ≡ w
      none u o C a v e = absurd (clash (sym (refused_audit f values picks w h) ∙ a))
        where
          clash : {C : ℕ} → audit_refused q i z ≡ accepted C → ⊥
          clash e = true≢false (cc)

  -- at its end the record stays, whatever is reported
  pub ended_stays : {C : ℕ} → audit f values picks ≡ accepted C → (w : Follower) → at_end (problem_of f) w ≡ true → (os : List ℕ)
      → reports f values picks os w ≡ w
  unfolding reports
  ended_stays a w e [] = refl
  ended_stays a w e (o ∷ os) = rw (ended_refused f values picks a w e o) (ended_stays a w e os)

  -- What holds after every list of reports from opening: the state is reached, each move took at most 400,000 seconds, and no more than a
  -- million were made
  pub record OnTheWay (w : Follower) : Type 0 where
    pub reached : Reached (problem_of f) (by_state picks) w.state
    pub seconds_low : w.seconds ≤ max_penalty * w.moves
    pub moves_high : w.moves ≤ max_moves

  underway_start : OnTheWay (at_start (problem_of f))
  underway_start = record { reached = at_start_lem; seconds_low = omega arith; moves_high = omega arith }

  underway_moved : (w : Follower) (o C : ℕ) → audit f values picks ≡ accepted C
      → report_questions (problem_of f) (by_state picks) w o ≡ passes → OnTheWay w → OnTheWay (moved (problem_of f) (by_state picks) w o)
  unfolding moved
  underway_moved w o C a v under =
      let p = problem_of f in
      let occurs = asked_occurs p (by_state picks) w o v in
      let state = occurs_state p (by_state picks) w.state o occurs in
      let goal = open_goal p w (asked_open p (by_state picks) w o v) state in
      record {
        reached = occurs_reached p (by_state picks) w.state o occurs under.reached goal;
        seconds_low =
            omega (
              arith,
              under.seconds_low,
              occurs_seconds p (by_state picks) w.state o occurs (audit_formed f values picks C a),
            );
        moves_high = omega (arith, asked_moves p (by_state picks) w o v);
      }

  pub reports_underway : (os : List ℕ) → OnTheWay (reports f values picks os (at_start (problem_of f)))
  reports_underway os = reports_keep OnTheWay underway_moved os (at_start (problem_of f)) underway_start

  -- a goal that the record comes to is a state of the file
  pub goal_ended : {C : ℕ} → audit f values picks ≡ accepted C → (w : Follower) → OnTheWay w → (problem_of f).goal w.state ≡ true
      → at_end (problem_of f) w ≡ true
  goal_ended {C} a w under goal =
      let state = reached_state (problem_of f) (audit_formed f values picks C a) (by_state picks) w.state under.reached in
      or_right (not (eqb w.mark 0)) (and_both (lt-ltb w.state (problem_of f).states state) goal)

  -- the state is in the file, and where it is no goal its pick is its own
  way_state : {C : ℕ} → audit f values picks ≡ accepted C → (w : Follower) → OnTheWay w → w.state < (problem_of f).states
  way_state {C} a w under = reached_state (problem_of f) (audit_formed f values picks C a) (by_state picks) w.state under.reached

  way_own : {C : ℕ} → audit f values picks ≡ accepted C → (w : Follower) → OnTheWay w → (problem_of f).goal w.state ≡ false
      → own_pick (problem_of f) w.state (by_state picks w.state) ≡ true
  way_own {C} a w under goal =
      let p = problem_of f in
      let s = w.state in
      let marked = ap (λ m. eqb m 0) (reached_marked p (audit_formed f values picks C a) (by_state picks) s under.reached) in
      ⊎_elim (λ g. or_left (own_row p s (by_state picks s)) (eq-eqb (by_state picks s) give_up g))
      (λ r. or_right (eqb (by_state picks s) give_up) r)
      ((audit_accepts f values picks C a).pick_fits s (way_state a w under) goal marked)

  -- so 22 comes for the outcome alone
  pub outcome_missing : {C : ℕ} → audit f values picks ≡ accepted C → (w : Follower) → OnTheWay w → (o : ℕ) {i : ℕ} {z : ℤ}
      → (report f values picks w o).answer ≡ refused 22 i z
      → (w.state < (problem_of f).states) × (own_pick (problem_of f) w.state (by_state picks w.state) ≡ true)
      × (has_outcome (problem_of f) (by_state picks w.state) o ≡ false)
  unfolding report_questions
  outcome_missing a w under o h =
      let p = problem_of f in
      let said = asked_22 (not (at_end p w)) (in_shift w) (may_occur p (by_state picks) w.state o)
      (report_failed f values picks a w o h) in
      let state = way_state a w under in
      let own = way_own a w under (open_goal p w (not-true (at_end p w) said.0) state) in
      (state, own, and_none _ _ (and_none _ _ said.1 (lt-ltb w.state p.states state)) own)

  -- and an outcome that is there is taken, before the end and a million moves
  pub way_goes_on : {C : ℕ} → audit f values picks ≡ accepted C → (w : Follower) → OnTheWay w → w.mark ≡ 0
      → (problem_of f).goal w.state ≡ false → w.moves < max_moves → (o : ℕ)
      → has_outcome (problem_of f) (by_state picks w.state) o ≡ true → (report f values picks w o).answer ≡ done
  way_goes_on {C} a w under mark goal few o has =
      takes_done f values picks w o
      (record {
        accepts = (C, a);
        mark_clear = mark;
        state_there = way_state a w under;
        no_goal = goal;
        moves_few = few;
        seconds_few = omega (arith, few, under.seconds_low);
        pick_own = way_own a w under goal;
        outcome_there = has;
      })

  -- from opening, 21 comes at a million moves, and never for the seconds
  pub moves_spent : {C : ℕ} → audit f values picks ≡ accepted C → (w : Follower) → OnTheWay w → (o : ℕ) {i : ℕ} {z : ℤ}
      → (report f values picks w o).answer ≡ refused 21 i z → w.moves ≡ max_moves
  unfolding report_questions
  moves_spent a w under o h =
      let p = problem_of f in
      let said = asked_21 (not (at_end p w)) (in_shift w) (may_occur p (by_state picks) w.state o) (report_failed f values picks a w o h) in
      step (ltb w.moves max_moves) refl said
    where
      step : (b : Bool) → ltb w.moves max_moves ≡ b → in_shift w ≡ false → w.moves ≡ max_moves
      step true e h =
          let late = leb-false w.seconds max_spent (and_none _ _ h e) in
          absurd (omega (arith, ltb-true w.moves max_moves e, under.seconds_low, late))
      step false e h = omega (arith, ltb-false w.moves max_moves e, under.moves_high)
