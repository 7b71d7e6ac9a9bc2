-- Request E2, "Following a plan through the shift": where an outcome leads and what a move costs; opening and a report, with their
-- questions and what a refusal leaves; lists of reports. The record, `Follower`, is declared in src/lib.rt.
use Rattle.std.specs.Prelude.{ℕ, ◌+◌, Bool, true, false, ◌&&◌, ◌||◌, not, List, [], ◌∷◌, leb, ltb, eqb, ℤ, pos, get_or, length}
use Rattle.model.specs.Limits.{Limits, in_force, give_up, max_moves, max_spent}
use Rattle.model.specs.Problem.{Problem}
use Rattle.model.specs.Sections.{problem_of}
use Rattle.model.specs.Value.{by_state}
use Rattle.model.specs.Questions.{Verdict, passes, fails, ◌then◌, ask}
use Rattle.model.specs.Walk.{successors}
use Rattle.model.specs.Audit.{Audited, accepted, refused as audit_refused, own_pick, audit_within}
use Rattle.model.specs.declared.Follower.{Follower}

-- Moves, with no refusals

-- "Each report names which outcome of the picked row occurred, counted from 0." A state that gives up "keeps the state"; and so does
-- an outcome that is not there
abbrev pub leads_on : Bool → Problem → ℕ → ℕ → ℕ → ℕ
leads_on true p r s o = s
leads_on false p r s o = get_or (successors p r) o s

unfoldable pub leads_to : Problem → (ℕ → ℕ) → ℕ → ℕ → ℕ
leads_to p picks s o = leads_on (eqb (picks s) give_up) p (picks s) s o

-- what a move costs, in seconds: c of the picked row; giving up "adds D"
abbrev pub move_seconds_on : Bool → Problem → ℕ → ℕ
move_seconds_on true p r = p.penalty
move_seconds_on false p r = p.cost r

unfoldable pub move_seconds : Problem → (ℕ → ℕ) → ℕ → ℕ
move_seconds p picks s = move_seconds_on (eqb (picks s) give_up) p (picks s)

-- the state that a list of outcomes leads to, and the sum of the costs on the way
unfoldable pub way_to : Problem → (ℕ → ℕ) → ℕ → List ℕ → ℕ
way_to p picks s [] = s
way_to p picks s (o ∷ os) = way_to p picks (leads_to p picks s o) os

unfoldable pub way_seconds : Problem → (ℕ → ℕ) → ℕ → List ℕ → ℕ
way_seconds p picks s [] = 0
way_seconds p picks s (o ∷ os) = move_seconds p picks s + way_seconds p picks (leads_to p picks s o) os

-- Questions

-- "20 when the mark is set or the record's state is a goal": a number that is no state is no goal
abbrev pub at_end : Problem → Follower → Bool
at_end p w = not (eqb w.mark 0) || (ltb w.state p.states && p.goal w.state)

-- "21 at a million moves or more or above 400,000,000,000 seconds"
abbrev pub in_shift : Follower → Bool
in_shift w = ltb w.moves max_moves && leb w.seconds max_spent

-- "A state that gives up has outcome 0 only"
abbrev pub has_outcome_on : Bool → Problem → ℕ → ℕ → Bool
has_outcome_on true p r o = eqb o 0
has_outcome_on false p r o = ltb o (length (p.outcomes r))

unfoldable pub has_outcome : Problem → ℕ → ℕ → Bool
has_outcome p r o = has_outcome_on (eqb r give_up) p r o

-- "22 when the record's state isn't in the file, has no pick of its own, or its pick has no such outcome"
abbrev pub may_occur : Problem → (ℕ → ℕ) → ℕ → ℕ → Bool
may_occur p picks s o = ltb s p.states && (own_pick p s (picks s) && has_outcome p (picks s) o)

-- "in that order, place 0"
unfoldable pub report_questions : Problem → (ℕ → ℕ) → Follower → ℕ → Verdict
report_questions p picks w o =
    ask 20 0 (not (at_end p w)) then ask 21 0 (in_shift w) then ask 22 0 (may_occur p picks w.state o)

-- Opening and reports

-- the answer of an opening or a report, and the record as it is left
pub data Followed : Type 0 where
  done : Followed
  refused : (question place : ℕ) (excess : ℤ) → Followed

pub record Report : Type 0 where
  pub answer : Followed
  pub left : Follower

-- "Opening and each report put the audit's questions first." "A refused opening or report alters nothing.": `w` is the record as lent,
-- `w'` what it becomes where every question says yes
abbrev pub follow : Audited → Verdict → Follower → Follower → Report
follow (accepted C) passes w w' = record { answer = done; left = w' }
follow (accepted C) (fails q i) w w' = record { answer = refused q i (pos 0); left = w }
follow (audit_refused q i excess) v w w' = record { answer = refused q i excess; left = w }

-- "A follower is opened .. at the start state." "Opening starts with no moves, no seconds and the mark clear."
abbrev pub at_start : Problem → Follower
at_start p = record { state = p.start; moves = 0; seconds = 0; mark = 0 }

unfoldable pub opening_within : Limits → List ℕ → List ℕ → List ℕ → Follower → Report
opening_within L f values picks w = follow (audit_within L f values picks) passes w (at_start (problem_of f))

abbrev pub opening : List ℕ → List ℕ → List ℕ → Follower → Report
opening = opening_within in_force

-- giving up "sets a mark in the record and so ends it"
abbrev pub mark_on : Bool → ℕ → ℕ
mark_on true mark = 1
mark_on false mark = mark

-- "it counts as a move, adds D, keeps the state"; a move by a row adds its seconds and goes where its outcome leads
unfoldable pub moved : Problem → (ℕ → ℕ) → Follower → ℕ → Follower
moved p picks w o =
    record {
      state = leads_to p picks w.state o;
      moves = w.moves + 1;
      seconds = w.seconds + move_seconds p picks w.state;
      mark = mark_on (eqb (picks w.state) give_up) w.mark;
    }

unfoldable pub report_within : Limits → List ℕ → List ℕ → List ℕ → Follower → ℕ → Report
report_within L f values picks w o =
    follow (audit_within L f values picks) (report_questions (problem_of f) (by_state picks) w o) w
    (moved (problem_of f) (by_state picks) w o)

abbrev pub report : List ℕ → List ℕ → List ℕ → Follower → ℕ → Report
report = report_within in_force

-- "For every list of reports .., all on one file and plan": the record that the list leaves, and its accepted reports
unfoldable pub reports : List ℕ → List ℕ → List ℕ → List ℕ → Follower → Follower
reports f values picks [] w = w
reports f values picks (o ∷ os) w = reports f values picks os (report f values picks w o).left

abbrev pub keep_on : Followed → ℕ → List ℕ → List ℕ
keep_on done o os = o ∷ os
keep_on (refused q i excess) o os = os

unfoldable pub accepted_of : List ℕ → List ℕ → List ℕ → List ℕ → Follower → List ℕ
accepted_of f values picks [] w = []
accepted_of f values picks (o ∷ os) w =
    keep_on (report f values picks w o).answer o (accepted_of f values picks os (report f values picks w o).left)
