-- What the calls promise beyond the definitions' own answers: the clauses of the contracts of `solve`, `audit`,
-- of following, of writing files, and of the programs `plan` and `audit`.
use Rattle.std.specs.Prelude.{◌≡◌, ℕ, suc, ◌+◌, ◌-◌, ◌*◌, ◌≤◌, Bool, true, false, List, leb, ℤ, pos, negsuc, length, replicate, take, Result}
use Rattle.model.specs.Limits.{Limits, in_force, list_end, plan_rounds, plan_holds}
use Rattle.model.specs.Problem.{Problem}
use Rattle.model.specs.Sections.{at_tolerance, problem_of}
use Rattle.model.specs.Questions.{Verdict, passes, fails, ◌then◌, ask, file_questions}
use Rattle.model.specs.Value.{by_state}
use Rattle.model.specs.Walk.{Reached}
use Rattle.model.specs.Solution.{refused, Tables, tables, Solution, solve_questions, solution}
use Rattle.model.specs.Audit.{accepted, pick_value, audit}
use Rattle.model.specs.Cover.{Choice, Cover, plan_of, allowance, open_to}
use Rattle.model.specs.Carried.{Said, Carried}
use Rattle.model.specs.Following.{Report}
use Rattle.model.specs.Answers.{answer_carries, follow_carries, followed_carries, write_carries, wrote_carries}
use Rattle.model.specs.Buffers.{Writing, Holds}
use Rattle.model.specs.declared.Kind.{Kind}
use Rattle.model.specs.declared.Kind.TheVariants.{Plain, Finishing}
use Rattle.model.specs.declared.Follower.{Follower}
use Rattle.model.specs.declared.AuditRefusal.{AuditRefusal}
use Rattle.model.specs.declared.Refusal.{Refusal}
use Rattle.model.specs.Lines.{plan_text, run_states, audit_line}
use Rattle.model.specs.TableFiles.{entries16, entries32}

-- what a call of `solve` answers and the four tables as it leaves them are those of a solution
pub record Leaves (carried : Carried) (t : Tables) (s : Solution) : Type 0 where
  pub answer : carried ≡ answer_carries s.answer
  pub left : t ≡ s.tables

-- (A + 1) × (n + 1), with the allowance for any tolerance
unfoldable pub round_bound : Problem → ℕ → ℕ
round_bound p e = (allowance p e + 1) * (open_to p p.states + 1)

-- (A + 1) × (n + 1) for the plain run; E8: "It ends within (B + 1) × (n + 1) + 1 rounds, B being the allowance computed with e = 1."
abbrev pub rounds_enough : Kind → Problem → ℕ
rounds_enough Plain p = round_bound p p.tolerance
rounds_enough Finishing p = round_bound p 1 + 1

-- "Whatever the file and the lent tables hold, if questions 1 to 13 say yes, a run of the rounds of document 01 given at least
-- (A + 1) × (n + 1) rounds ends solved", and within so many; so does a finishing run with its own
abbrev pub EndsSolved : Kind → List ℕ → ℕ → Tables → Carried → Type 0
EndsSolved kind f budget t carried =
    file_questions f ≡ passes → solve_questions (problem_of f) budget t ≡ passes → rounds_enough kind (problem_of f) ≤ budget
    → (carried.said ≡ Said.solved) × (carried.counts.rounds ≤ rounds_enough kind (problem_of f))

-- "Whenever a run of these rounds ends solved, at whatever budget, the audit accepts that file with the values and picks the run left,
-- and gives the run's C."
abbrev pub PassesAudit : List ℕ → Tables → Carried → Type 0
PassesAudit f left carried = carried.said ≡ Said.solved → audit f left.values left.picks ≡ accepted carried.counts.least

-- "For every whole K of at least 1, every cover, in K-ths of a tick, of every plan for that file has at the start at least
-- K × V(start). And C × V covers the accepted plan in (C − e)-ths.", under whatever e it is accepted. The set of the first half is told by a
-- Bool here, since a contract cannot range over predicates; the theorem `closeness_lower` has it for any predicate.
pub record Close (p : Problem) (e : ℕ) (v picks : ℕ → ℕ) (C : ℕ) : Type 0 where
  pub lower : (K : ℕ) → 1 ≤ K → (plan : ℕ → Choice) (u : ℕ → ℕ) (inside : ℕ → Bool) → Cover p K plan u (λ s. inside s ≡ true)
      → K * v p.start ≤ u p.start
  pub upper : Cover p (C - e) (plan_of p picks) (λ s. C * v s) (Reached p picks)
  pub positive : 1 ≤ C - e

-- E8, of the values and picks that a solved finishing run left, with its C: "the value at every walked state is exactly the pick's row
-- value, or 1000 × D." "The audit accepts the answer under the file's own e and under 1.", which is the audit of the file with 1 in the
-- bytes of its tolerance; and so C × V covers the plan in (C − 1)-ths
pub record Exact (f values picks : List ℕ) (C : ℕ) : Type 0 where
  pub exact
      : (s : ℕ) → Reached (problem_of f) (by_state picks) s → (problem_of f).goal s ≡ false
      → by_state values s ≡ pick_value (problem_of f) (by_state values) (by_state picks) s
  pub tick_passes : file_questions (at_tolerance 1 f) ≡ passes
  pub tick_accepted : audit (at_tolerance 1 f) values picks ≡ accepted C
  pub close : Close (problem_of f) 1 (by_state values) (by_state picks) C

abbrev pub FinishesExact : List ℕ → Tables → Carried → Type 0
FinishesExact f left carried = carried.said ≡ Said.solved → Exact f left.values left.picks carried.counts.least

-- "The audit's refusals carry an excess: V(s) minus row value, a signed number, at least 1 at question 17; V(s) minus the pick's value
-- or 1000 × D at 19, at most −e; 0 elsewhere." `negsuc k` is −(k + 1)
pub record ExcessFits (e q : ℕ) (z : ℤ) : Type 0 where
  pub undercut : q ≡ 17 → (k : ℕ) × (z ≡ pos (suc k))
  pub slack : q ≡ 19 → (k : ℕ) × (e ≤ suc k) × (z ≡ negsuc k)
  pub none : (q ≡ 17 → ⊥) → (q ≡ 19 → ⊥) → z ≡ pos 0

-- what an opening or a report answers, and the record as it leaves it, are those of a definition
pub record Answered (answer : Result Unit AuditRefusal) (left : Follower) (said : Report) : Type 0 where
  pub answer_is : follow_carries answer left ≡ followed_carries said.answer said.left
  pub left_is : left ≡ said.left

-- what writing a file answers, and the output as it leaves it, are those of a definition
pub record Writes (answer : Result ℕ Refusal) (left : List ℕ) (said : Writing) : Type 0 where
  pub answer_is : write_carries answer ≡ wrote_carries said.answer
  pub left_is : left ≡ said.left

-- "The program `plan` .. runs up to 1,000,000 rounds", of the plain run or, with `--finish`, of E8's: with lent values and picks, and tables
-- of its own for what is remembered and for the walk list
abbrev pub plan_tables : Limits → List ℕ → List ℕ → Tables
plan_tables L values picks = tables values picks (replicate L.rows 0) (replicate L.states list_end)

-- Request E9: "25 when the standard input of `plan` is longer than 65,536 bytes, before question 1, place 0."
abbrev pub plan_question : List ℕ → Verdict
plan_question f = ask 25 0 (leb (length f) plan_holds)

-- where it says no, that is the answer, and the tables are as they were lent
unfoldable pub held_on : Verdict → Tables → Solution → Solution
held_on passes t s = s
held_on (fails q i) t s = record { answer = refused q i; tables = t }

abbrev pub plan_solution : Kind → List ℕ → List ℕ → List ℕ → Solution
plan_solution kind f values picks =
    let t = plan_tables in_force values picks in held_on (plan_question f) t (solution kind f plan_rounds t)

-- the text of a solution was put at the front of `out`, and nothing of it was cut; the tables are the solution's; a refusal is that of
-- `asked`; the number of states that is told is 0 after a refusal, and lies within both tables
pub record Shown (p : Problem) (s : Solution) (asked : Verdict) (out values' picks' out' : List ℕ) (size states : ℕ) : Type 0 where
  pub text : Holds out out' size (plan_text p s)
  pub whole : take size out' ≡ plan_text p s
  pub values_are : values' ≡ s.tables.values
  pub picks_are : picks' ≡ s.tables.picks
  pub refused_by : (q i : ℕ) → s.answer ≡ refused q i → asked ≡ fails q i
  pub states_are : states ≡ run_states s.answer p.states
  pub values_hold : states ≤ length values'
  pub picks_hold : states ≤ length picks'

-- a refusal is 25 or one of questions 1 to 11, none of the program's own tables or budget
abbrev pub Plans : Kind → (f values picks out values' picks' out' : List ℕ) → ℕ → ℕ → Type 0
Plans kind f values picks = Shown (problem_of f) (plan_solution kind f values picks) (plan_question f then file_questions f)

-- the line of the audit of a file with the tables of two table files was put at the front of `out`, and nothing of it was cut
pub record Audits (f values picks out out' : List ℕ) (size : ℕ) : Type 0 where
  pub line : Holds out out' size (audit_line (audit f (entries32 values) (entries16 picks)))
  pub whole : take size out' ≡ audit_line (audit f (entries32 values) (entries16 picks))
