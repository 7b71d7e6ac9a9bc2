-- What a line tells of a refusal: the number of its question, its place and its excess. The answers of the code's own refusals are those
-- that the definitions read.
use Rattle.std.specs.Prelude.{◌≡◌, ℕ, ℤ, pos, refl, Result, Ok, Err}
use Rattle.model.specs.Answers.{number_of, answer_of, audited_of}
use Rattle.model.specs.Audit.{Audited, accepted, refused as audit_refused}
use Rattle.model.specs.Solution.{Answer, solved, spent, refused}
use Rattle.model.specs.declared.AuditRefusal.{AuditRefusal}
use Rattle.model.specs.declared.Ended.{Ended}
use Rattle.model.specs.declared.Ended.TheVariants.{Solved, Spent}
use Rattle.model.specs.declared.Refusal.{Refusal}
use Rattle.printing.specs.declared.refusals.Numbers.{Numbers}

-- an answer, read by what its refusal tells
abbrev pub answer_by : {R : Type 0} → (R → ℕ) → (R → ℕ) → Result Ended R → Answer
answer_by question place (Ok (Solved counts)) = solved counts
answer_by question place (Ok (Spent counts)) = spent counts
answer_by question place (Err r) = refused (question r) (place r)

abbrev pub audited_by : {R : Type 0} → (R → ℕ) → (R → ℕ) → (R → ℤ) → Result ℕ R → Audited
audited_by question place excess (Ok least) = accepted least
audited_by question place excess (Err r) = audit_refused (question r) (place r) (excess r)

-- what the code's refusals tell
abbrev pub question_in : Refusal → ℕ
question_in r = number_of r.question

abbrev pub place_in : Refusal → ℕ
place_in r = r.place

abbrev pub no_excess_in : Refusal → ℤ
no_excess_in r = pos 0

abbrev pub audit_question_in : AuditRefusal → ℕ
audit_question_in r = number_of r.question

abbrev pub audit_place_in : AuditRefusal → ℕ
audit_place_in r = r.place

abbrev pub audit_excess_in : AuditRefusal → ℤ
audit_excess_in r = r.excess

-- and plain numbers
abbrev pub own_question : Numbers → ℕ
own_question r = r.question

abbrev pub own_place : Numbers → ℕ
own_place r = r.place

abbrev pub own_excess : Numbers → ℤ
own_excess r = r.excess

-- so that the code's answers are read as the definitions do
pub answer_read : (a : Result Ended Refusal) → answer_by question_in place_in a ≡ answer_of a
answer_read (Ok (Solved counts)) = refl
answer_read (Ok (Spent counts)) = refl
answer_read (Err r) = refl

pub audited_read : (a : Result ℕ AuditRefusal) → audited_by audit_question_in audit_place_in audit_excess_in a ≡ audited_of a
audited_read (Ok least) = refl
audited_read (Err r) = refl
