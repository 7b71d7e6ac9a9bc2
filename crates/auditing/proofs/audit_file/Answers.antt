-- `audit_file` answers the model's audit: a file's refusal, or what is said of the problem and the tables.
use mathlib.Core.Path.{refl, sym}
use Rattle.std.proofs.lemmas.Result.{err_from_is_err_and}
use Rattle.walking.specs.Walkable.{walkable}
use Rattle.auditing.proofs.Stops.{file_refused, file_passed}
use Rattle.auditing.proofs.audit_file.Goals as goal

pub returns-in_err-questions : goal.returns-in_err-questions
returns-in_err-questions c =
    let p = err_from_is_err_and c.from_residual.result c.from_residual.ensures.1 in
    rw (p.1, p.2) (file_refused c.in_err-questions.ensures refl refl)

pub invariant_of-audit_problem : goal.invariant_of-audit_problem
invariant_of-audit_problem c =
    let asked = c.in_ok-questions.ensures in
    let walks = walkable (sym asked.verdict) (asked.ready refl) in record { ready = walks.ready; formed = walks.formed }

pub returns : goal.returns
returns c = file_passed c.in_ok-questions.ensures refl c.audit_problem.ensures
