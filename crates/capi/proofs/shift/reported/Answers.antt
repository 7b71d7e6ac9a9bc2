-- `reported` hands on the report, or 4 where there is no room.
use Rattle.capi.proofs.Handing.{report_fits}
use Rattle.capi.proofs.shift.reported.Goals as goal

pub hand_on-requires : goal.hand_on-requires
hand_on-requires c =
    (report_fits c.args.file.now c.args.values.now c.args.picks.now _ _ c.step.ensures, c.if-answer-lt3.false)

pub returns : goal.returns
returns c = c.hand_on.ensures _ _ c.step.ensures
