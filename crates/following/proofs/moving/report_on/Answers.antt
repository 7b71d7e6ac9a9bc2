-- `report_on` puts questions 20 to 22 in order, and then moves on.
use Rattle.std.proofs.lemmas.Result.{err_from_is_err_and}
use Rattle.following.proofs.Reports.{stops_20, stops_21, stops_22, all_pass, goes_on}
use Rattle.following.proofs.moving.report_on.Goals as goal

pub returns-in_err-ask : goal.returns-in_err-ask
returns-in_err-ask c =
    let p = err_from_is_err_and c.from_residual.result c.from_residual.ensures.1 in
    rw (p.1, p.2)
    (stops_20 _ _ c.args.w c.args.outcome c.is_open-open.ensures c.is_in_shift-in_shift.ensures
    c.may_occur-occurs.ensures c.in_err-ask.ensures)

pub returns-in_err-ask-2 : goal.returns-in_err-ask-2
returns-in_err-ask-2 c =
    let p = err_from_is_err_and c.from_residual-in_err-ask-2.result c.from_residual-in_err-ask-2.ensures.1 in
    rw (p.1, p.2)
    (stops_21 _ _ c.args.w c.args.outcome c.is_open-open.ensures c.is_in_shift-in_shift.ensures
    c.may_occur-occurs.ensures c.in_ok-ask.ensures c.in_err-ask-2.ensures)

pub returns-in_err-ask-3 : goal.returns-in_err-ask-3
returns-in_err-ask-3 c =
    let p = err_from_is_err_and c.from_residual-in_err-ask-3.result c.from_residual-in_err-ask-3.ensures.1 in
    rw (p.1, p.2)
    (stops_22 _ _ c.args.w c.args.outcome c.is_open-open.ensures c.is_in_shift-in_shift.ensures
    c.may_occur-occurs.ensures c.in_ok-ask.ensures c.in_ok-ask-2.ensures c.in_err-ask-3.ensures)

pub moved-requires : goal.moved-requires
moved-requires c =
    all_pass _ _ c.args.w c.args.outcome c.is_open-open.ensures c.is_in_shift-in_shift.ensures
    c.may_occur-occurs.ensures c.in_ok-ask.ensures c.in_ok-ask-2.ensures c.in_ok-ask-3.ensures

pub returns : goal.returns
returns c =
    goes_on _ _ c.args.w c.args.outcome c.is_open-open.ensures c.is_in_shift-in_shift.ensures
    c.may_occur-occurs.ensures c.in_ok-ask.ensures c.in_ok-ask-2.ensures c.in_ok-ask-3.ensures c.moved.ensures
