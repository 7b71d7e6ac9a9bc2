-- "When an answer is an enum, a definition gives this paper's number and values for each of its cases."
use Rattle.std.specs.Prelude.{ℕ, pos, Result, Ok, Err}
use Rattle.model.specs.Carried.{Said, Carried, counts, no_counts, ended, following, sized, refusal}
use Rattle.model.specs.Questions.{Verdict, passes, fails}
use Rattle.model.specs.Solution.{Answer, solved, spent, refused}
use Rattle.model.specs.Audit.{Audited, accepted, refused as audit_refused}
use Rattle.model.specs.Following.{Followed, done, refused as report_refused}
use Rattle.model.specs.Buffers.{Wrote, written, refused as write_refused}
use Rattle.model.specs.declared.AuditRefusal.{AuditRefusal}
use Rattle.model.specs.declared.Ended.{Ended}
use Rattle.model.specs.declared.Ended.TheVariants.{Solved, Spent}
use Rattle.model.specs.declared.Follower.{Follower}
use Rattle.model.specs.declared.Question.{Question}
use Rattle.model.specs.declared.Question.TheVariants as asks
use Rattle.model.specs.declared.Refusal.{Refusal}

-- the papers' number of each question
abbrev pub number_of : Question → ℕ
number_of asks.Whole = 1
number_of asks.Count = 2
number_of asks.End = 3
number_of asks.Setting = 4
number_of asks.State = 5
number_of asks.Start = 6
number_of asks.RowNumbers = 7
number_of asks.Row = 8
number_of asks.OutcomeNumbers = 9
number_of asks.Outcomes = 10
number_of asks.Estimate = 11
number_of asks.RunTables = 12
number_of asks.Budget = 13
number_of asks.AuditTables = 15
number_of asks.Bounds = 16
number_of asks.Undercut = 17
number_of asks.Stray = 18
number_of asks.Slack = 19
number_of asks.Underway = 20
number_of asks.Shift = 21
number_of asks.Outcome = 22
number_of asks.Room = 23
number_of asks.WeightTotal = 24
number_of asks.Input = 25

-- what the code's refusals carry
abbrev pub refusal_carries : Refusal → Carried
refusal_carries r = refusal (number_of r.question) r.place (pos 0)

abbrev pub audit_refusal_carries : AuditRefusal → Carried
audit_refusal_carries r = refusal (number_of r.question) r.place r.excess

-- what the code's answers carry, case by case: of questions 1 to 11,
abbrev pub file_carries : Result Unit Refusal → Carried
file_carries (Ok _) = ended Said.passed no_counts
file_carries (Err r) = refusal_carries r

-- of solving a file,
abbrev pub solve_carries : Result Ended Refusal → Carried
solve_carries (Ok (Solved counts)) = ended Said.solved counts
solve_carries (Ok (Spent counts)) = ended Said.spent counts
solve_carries (Err r) = refusal_carries r

-- of the audit: "Accepted .. carries C. .. The audit's refusals carry an excess",
abbrev pub audit_carries : Result ℕ AuditRefusal → Carried
audit_carries (Ok least) = ended Said.accepted (counts 0 0 least)
audit_carries (Err r) = audit_refusal_carries r

-- of opening and reports, whose record stands beside the answer,
abbrev pub follow_carries : Result Unit AuditRefusal → Follower → Carried
follow_carries (Ok _) w = following w
follow_carries (Err r) w = audit_refusal_carries r

-- and of writing a file to a lent output
abbrev pub write_carries : Result ℕ Refusal → Carried
write_carries (Ok n) = sized n
write_carries (Err r) = refusal_carries r

-- what the answers of the definitions carry

abbrev pub verdict_carries : Verdict → Carried
verdict_carries passes = ended Said.passed no_counts
verdict_carries (fails q i) = refusal q i (pos 0)

abbrev pub answer_carries : Answer → Carried
answer_carries (solved counts) = ended Said.solved counts
answer_carries (spent counts) = ended Said.spent counts
answer_carries (refused q i) = refusal q i (pos 0)

abbrev pub audited_carries : Audited → Carried
audited_carries (accepted least) = ended Said.accepted (counts 0 0 least)
audited_carries (audit_refused q i excess) = refusal q i excess

abbrev pub followed_carries : Followed → Follower → Carried
followed_carries done w = following w
followed_carries (report_refused q i excess) w = refusal q i excess

abbrev pub wrote_carries : Wrote → Carried
wrote_carries (written n) = sized n
wrote_carries (write_refused q i) = refusal q i (pos 0)

-- inside a crate a code's answer is read as that of the definitions: the case of the same name

abbrev pub verdict_of : {A : Type 0} → Result A Refusal → Verdict
verdict_of (Ok _) = passes
verdict_of (Err r) = fails (number_of r.question) r.place

abbrev pub answer_of : Result Ended Refusal → Answer
answer_of (Ok (Solved counts)) = solved counts
answer_of (Ok (Spent counts)) = spent counts
answer_of (Err r) = refused (number_of r.question) r.place

abbrev pub audited_of : Result ℕ AuditRefusal → Audited
audited_of (Ok least) = accepted least
audited_of (Err r) = audit_refused (number_of r.question) r.place r.excess
