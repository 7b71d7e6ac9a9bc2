-- `open_by` answers the audit's refusal, or the record at the start.
use Prim.Native.Nat.{ℕ}
use mathlib.Core.Path.{ap}
use Rattle.std.proofs.lemmas.Result.{err_from_is_err_and}
use Rattle.following.proofs.Reports.{opening_refused, opening_done}
use Rattle.following.proofs.open_by.Goals as goal

pub returns-in_err-audit_file : goal.returns-in_err-audit_file
returns-in_err-audit_file c =
    let p = err_from_is_err_and c.from_residual.result c.from_residual.ensures.1 in
    rw (p.1, p.2) (opening_refused _ _ _ c.in_err-audit_file.ensures.answer)

pub returns : goal.returns
returns c =
    opening_done _ _ _ c.in_ok-audit_file.ensures.answer
    (ap (λ (s : ℕ). record { state = s; moves = 0; seconds = 0; mark = 0 }) c.start_of.ensures)
