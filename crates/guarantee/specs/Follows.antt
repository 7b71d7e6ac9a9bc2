-- Following a plan (request E2): what an opening and a report do, for any record.
-- A report stays or moves on (`Reported`); each law is that case split.
use Rattle.std.specs.Prelude.{◌≡◌, ℕ, ◌+◌, ◌≤◌, ◌<◌, List, ℤ, pos}
use Rattle.std.proofs.Math.Path.{refl}
use native.Mathlib.Omega.{arith}
use Rattle.std.proofs.Math.Bool.{true, false}
use Rattle.std.proofs.Common.{true≢false}
use Rattle.std.proofs.Math.ListN.{get_or, length}
use borrow.Author.Tests.{eqb-true, eq-eqb, ne_eqb, lt-ltb, le-leb}
use Rattle.model.specs.Limits.{give_up, max_states, max_moves, max_spent, max_penalty}
use Rattle.model.specs.Value.{by_state}
use Rattle.model.specs.Sections.{problem_of}
use Rattle.model.specs.Questions.{Verdict, passes, fails}
use Rattle.model.specs.Walk.{successors}
use Rattle.model.specs.Audit.{Audited, accepted, refused as audit_refused, own_pick, audit}
use Rattle.model.specs.Following.{leads_to, move_seconds, at_end, has_outcome, may_occur, report_questions, done, refused, Report}
use Rattle.model.specs.Following.{follow, at_start, opening, opening_within, moved, report, report_within}
use Rattle.model.specs.declared.Follower.{Follower}
use Rattle.guarantee.specs.Searches.{and_both, or_clear}
use Rattle.guarantee.specs.Accepted.{audit_formed}
use Rattle.guarantee.specs.Occurs.{open_goal, asked_moves, asked_occurs, asked_open, asked_seconds}
use Rattle.guarantee.specs.Occurs.{occurs_state, occurs_pick, occurs_has, occurs_given, occurs_outcome, occurs_leads}
use Rattle.guarantee.specs.Occurs.{occurs_seconds}

-- what a record shows where the answer is done: a state of the file, at most a million moves, the seconds of the last move over the
-- most that a report takes
pub record Shown (w : Follower) : Type 0 where
  pub state_low : w.state < max_states
  pub moves_low : w.moves ≤ max_moves
  pub seconds_low : w.seconds ≤ max_spent + max_penalty

module _ (f values picks : List ℕ) where
  -- what a report does: it is refused and the record stays, or every question says yes and it moves on
  pub data Reported (w : Follower) (o : ℕ) : Report → Type 0 where
    stays : {q i : ℕ} {z : ℤ} → Reported w o (record { answer = refused q i z; left = w })
    moves : (C : ℕ) → audit f values picks ≡ accepted C → report_questions (problem_of f) (by_state picks) w o ≡ passes
        → Reported w o (record { answer = done; left = moved (problem_of f) (by_state picks) w o })

  pub reported : (w : Follower) (o : ℕ) → Reported w o (report f values picks w o)
  unfolding report_within
  reported w o = step (audit f values picks) (report_questions (problem_of f) (by_state picks) w o) refl refl
    where
      step : (a : Audited) (v : Verdict) → audit f values picks ≡ a → report_questions (problem_of f) (by_state picks) w o ≡ v
          → Reported w o (follow a v w (moved (problem_of f) (by_state picks) w o))
      step (accepted C) passes a v = moves C a v
      step (accepted C) (fails q i) a v = stays
      step (audit_refused q i z) v a e = stays

  -- the audit's questions come first: where one says no, it is the answer
  pub audit_first : {q i : ℕ} {z : ℤ} → audit f values picks ≡ audit_refused q i z → (w : Follower)
      → (opening f values picks w ≡ record { answer = refused q i z; left = w })
      × ((o : ℕ) → report f values picks w o ≡ record { answer = refused q i z; left = w })
  unfolding opening_within report_within
  audit_first a w = (rw a refl, λ o. rw a refl)

  -- an opening is done exactly where the audit accepts
  pub opened : {C : ℕ} → audit f values picks ≡ accepted C → (w : Follower)
      → opening f values picks w ≡ record { answer = done; left = at_start (problem_of f) }
  unfolding opening_within
  opened a w = rw a refl

  pub opens : (w : Follower) → (opening f values picks w).answer ≡ done → (C : ℕ) × (audit f values picks ≡ accepted C)
  unfolding opening_within
  opens w h = step (audit f values picks) refl h
    where
      step : (a : Audited) → audit f values picks ≡ a → (follow a passes w (at_start (problem_of f))).answer ≡ done
          → (C : ℕ) × (audit f values picks ≡ accepted C)
      step (accepted C) a h = (C, a)
      step (audit_refused q i z) a h = absurd (true≢false (cc))

  -- a refusal leaves the record
  pub opening_stays : (w : Follower) {q i : ℕ} {z : ℤ} → (opening f values picks w).answer ≡ refused q i z
      → (opening f values picks w).left ≡ w
  unfolding opening_within
  opening_stays w h = step (audit f values picks) h
    where
      step : (a : Audited) {q i : ℕ} {z : ℤ} → (follow a passes w (at_start (problem_of f))).answer ≡ refused q i z
          → (follow a passes w (at_start (problem_of f))).left ≡ w
      step (accepted C) h = absurd (true≢false (cc))
      step (audit_refused q i z) h = refl

  pub report_stays : (w : Follower) (o : ℕ) {q i : ℕ} {z : ℤ} → (report f values picks w o).answer ≡ refused q i z
      → (report f values picks w o).left ≡ w
  report_stays w o h = step (report f values picks w o) (reported w o) h
    where
      step : (r : Report) → Reported w o r → {q i : ℕ} {z : ℤ} → r.answer ≡ refused q i z → r.left ≡ w
      step _ stays h = refl
      step _ (moves C a v) h = absurd (true≢false (cc))

  -- an opening is refused by the audit alone
  pub refused_audit : (w : Follower) {q i : ℕ} {z : ℤ} → (opening f values picks w).answer ≡ refused q i z
      → audit f values picks ≡ audit_refused q i z
  unfolding opening_within
  refused_audit w h = step (audit f values picks) h
    where
      step : (a : Audited) {q i : ℕ} {z : ℤ} → (follow a passes w (at_start (problem_of f))).answer ≡ refused q i z
          → a ≡ audit_refused q i z
      step (accepted C) h = absurd (true≢false (cc))
      step (audit_refused q i z) {q = q'} {i = i'} {z = z'} h = same h
        where
          same : refused q i z ≡ refused q' i' z' → audit_refused q i z ≡ audit_refused q' i' z'
          same h = cc

  -- at its end the record meets 20 and stays
  pub ended_refused : {C : ℕ} → audit f values picks ≡ accepted C → (w : Follower) → at_end (problem_of f) w ≡ true → (o : ℕ)
      → report f values picks w o ≡ record { answer = refused 20 0 (pos 0); left = w }
  unfolding report_within report_questions
  ended_refused a w e o = rw (a, e) refl

  -- giving up sets the mark
  pub given_up_ended : (w : Follower) (o : ℕ) → (report f values picks w o).answer ≡ done → by_state picks w.state ≡ give_up
      → at_end (problem_of f) (report f values picks w o).left ≡ true
  unfolding moved
  given_up_ended w o h g = step (report f values picks w o) (reported w o) h
    where
      step : (r : Report) → Reported w o r → r.answer ≡ done → at_end (problem_of f) r.left ≡ true
      step _ stays h = absurd (true≢false (cc))
      step _ (moves C a v) h = rw (eq-eqb (by_state picks w.state) give_up g) refl

  -- what a report that is done leaves: the state gave up, or one of its rows was taken
  pub given_up_left : (w : Follower) (o : ℕ) → (report f values picks w o).answer ≡ done → by_state picks w.state ≡ give_up
      → (o ≡ 0) × ((report f values picks w o).left
      ≡ record { state = w.state; moves = w.moves + 1; seconds = w.seconds + (problem_of f).penalty; mark = 1 })
  unfolding moved leads_to move_seconds
  given_up_left w o h g = step (report f values picks w o) (reported w o) h
    where
      step : (r : Report) → Reported w o r → r.answer ≡ done
          → (o ≡ 0) × (r.left
          ≡ record { state = w.state; moves = w.moves + 1; seconds = w.seconds + (problem_of f).penalty; mark = 1 })
      step _ stays h = absurd (true≢false (cc))
      step _ (moves C a v) h =
          let e = eq-eqb (by_state picks w.state) give_up g in
          (occurs_given (problem_of f) (by_state picks) w.state o (asked_occurs (problem_of f) (by_state picks) w o v) g, rw e refl)

  pub row_left : (w : Follower) (o : ℕ) → (report f values picks w o).answer ≡ done → (by_state picks w.state ≡ give_up → ⊥)
      → (o < length ((problem_of f).outcomes (by_state picks w.state))) × ((report f values picks w o).left
      ≡ record {
        state = get_or (successors (problem_of f) (by_state picks w.state)) o w.state;
        moves = w.moves + 1;
        seconds = w.seconds + (problem_of f).cost (by_state picks w.state);
        mark = 0;
      })
  unfolding moved leads_to move_seconds
  row_left w o h n = step (report f values picks w o) (reported w o) h
    where
      step : (r : Report) → Reported w o r → r.answer ≡ done
          → (o < length ((problem_of f).outcomes (by_state picks w.state))) × (r.left
          ≡ record {
            state = get_or (successors (problem_of f) (by_state picks w.state)) o w.state;
            moves = w.moves + 1;
            seconds = w.seconds + (problem_of f).cost (by_state picks w.state);
            mark = 0;
          })
      step _ stays h = absurd (true≢false (cc))
      step _ (moves C a v) h =
          let p = problem_of f in
          let clear = eqb-true w.mark 0 (or_clear _ _ (asked_open p (by_state picks) w o v)) in (
            occurs_outcome p (by_state picks) w.state o (asked_occurs p (by_state picks) w o v) n,
            rw (ne_eqb (by_state picks w.state) give_up n, clear) refl,
          )

  -- a report is done exactly where the audit accepts and questions 20 to 22 say yes, each told by what it asks
  pub record Takes (w : Follower) (o : ℕ) : Type 0 where
    pub accepts : (C : ℕ) × (audit f values picks ≡ accepted C)
    pub mark_clear : w.mark ≡ 0
    pub state_there : w.state < (problem_of f).states
    pub no_goal : (problem_of f).goal w.state ≡ false
    pub moves_few : w.moves < max_moves
    pub seconds_few : w.seconds ≤ max_spent
    pub pick_own : own_pick (problem_of f) w.state (by_state picks w.state) ≡ true
    pub outcome_there : has_outcome (problem_of f) (by_state picks w.state) o ≡ true

  pub done_takes : (w : Follower) (o : ℕ) → (report f values picks w o).answer ≡ done → Takes w o
  done_takes w o h = step (report f values picks w o) (reported w o) h
    where
      step : (r : Report) → Reported w o r → r.answer ≡ done → Takes w o
      step _ stays h = absurd (true≢false (cc))
      step _ (moves C a v) h =
          let p = problem_of f in
          let occurs = asked_occurs p (by_state picks) w o v in
          let state = occurs_state p (by_state picks) w.state o occurs in
          record {
            accepts = (C, a);
            mark_clear = eqb-true w.mark 0 (or_clear _ _ (asked_open p (by_state picks) w o v));
            state_there = state;
            no_goal = open_goal p w (asked_open p (by_state picks) w o v) state;
            moves_few = asked_moves p (by_state picks) w o v;
            seconds_few = asked_seconds p (by_state picks) w o v;
            pick_own = occurs_pick p (by_state picks) w.state o occurs;
            outcome_there = occurs_has p (by_state picks) w.state o occurs;
          }

  pub takes_done : (w : Follower) (o : ℕ) → Takes w o → (report f values picks w o).answer ≡ done
  unfolding report_within report_questions
  takes_done w o t =
      let inside = lt-ltb w.state (problem_of f).states t.state_there in
      let first : at_end (problem_of f) w ≡ false = rw (eq-eqb w.mark 0 t.mark_clear, inside, t.no_goal) refl in
      let second = and_both (lt-ltb w.moves max_moves t.moves_few) (le-leb w.seconds max_spent t.seconds_few) in
      let third : may_occur (problem_of f) (by_state picks) w.state o ≡ true =
      and_both inside (and_both t.pick_own t.outcome_there) in
      rw (t.accepts.1, first, second, third) refl

  -- which of a report's questions said no
  pub report_failed : {C : ℕ} → audit f values picks ≡ accepted C → (w : Follower) (o : ℕ) {q i : ℕ} {z : ℤ}
      → (report f values picks w o).answer ≡ refused q i z → report_questions (problem_of f) (by_state picks) w o ≡ fails q i
  unfolding report_within
  report_failed {C} a w o h = step (report_questions (problem_of f) (by_state picks) w o) (rw a at h)
    where
      step : (v : Verdict) {q i : ℕ} {z : ℤ}
          → (follow (accepted C) v w (moved (problem_of f) (by_state picks) w o)).answer ≡ refused q i z → v ≡ fails q i
      step passes h = absurd (true≢false (cc))
      step (fails q i) {q = q'} {i = i'} {z = z} h = same h
        where
          same : refused q i (pos 0) ≡ refused q' i' z → fails q i ≡ fails q' i'
          same h = cc

  pub opening_shown : (w : Follower) → (opening f values picks w).answer ≡ done → Shown (opening f values picks w).left
  opening_shown w h =
      let a = opens w h in
      let formed = audit_formed f values picks a.0 a.1 in
      rw (opened a.1 w)
      (record {
        state_low = omega (arith, formed.start_state, formed.states_high);
        moves_low = omega arith;
        seconds_low = omega arith;
      })

  pub report_shown : (w : Follower) (o : ℕ) → (report f values picks w o).answer ≡ done → Shown (report f values picks w o).left
  unfolding moved
  report_shown w o h = step (report f values picks w o) (reported w o) h
    where
      step : (r : Report) → Reported w o r → r.answer ≡ done → Shown r.left
      step _ stays h = absurd (true≢false (cc))
      step _ (moves C a v) h =
          let p = problem_of f in
          let formed = audit_formed f values picks C a in
          let occurs = asked_occurs p (by_state picks) w o v in
          let state = occurs_state p (by_state picks) w.state o occurs in
          let goal = open_goal p w (asked_open p (by_state picks) w o v) state in
          record {
            state_low = omega (arith, occurs_leads p (by_state picks) w.state o occurs formed goal, formed.states_high);
            moves_low = omega (arith, asked_moves p (by_state picks) w o v);
            seconds_low =
                omega (
                  arith,
                  asked_seconds p (by_state picks) w o v,
                  occurs_seconds p (by_state picks) w.state o occurs formed,
                );
          }
