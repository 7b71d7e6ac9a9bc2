-- `step_by` answers the audit's refusal, or what the report's own questions and the move give.
use mathlib.Core.Path.{sym}
use Rattle.std.proofs.lemmas.Result.{err_from_is_err_and}
use Rattle.guarantee.specs.Accepted.{audit_yes}
use Rattle.following.proofs.Reports.{report_refused, report_is}
use Rattle.following.proofs.step_by.Goals as goal

pub returns-in_err-audit_file : goal.returns-in_err-audit_file
returns-in_err-audit_file c =
    let p = err_from_is_err_and c.from_residual.result c.from_residual.ensures.1 in
    rw (p.1, p.2) (report_refused _ _ _ c.in_err-audit_file.ensures.answer c.args.w _)

pub report_on-requires : goal.report_on-requires
report_on-requires c =
    let yes = audit_yes _ _ _ _ (sym c.in_ok-audit_file.ensures.answer) in (yes.values_long, yes.picks_long)

pub returns : goal.returns
returns c =
    rw (← report_is _ _ _ c.in_ok-audit_file.ensures.answer c.args.w c.args.outcome)
    (c.report_on.ensures c.in_ok-audit_file.field-0)
