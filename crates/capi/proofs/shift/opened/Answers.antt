-- `opened` hands on the opening, or 4 where there is no room.
use Rattle.capi.proofs.Handing.{opening_fits}
use Rattle.capi.proofs.shift.opened.Goals as goal

pub hand_on-requires : goal.hand_on-requires
hand_on-requires c =
    (opening_fits c.args.file.now c.args.values.now c.args.picks.now _ c.open_at_start.ensures, c.if-answer-lt3.false)

pub returns : goal.returns
returns c = c.hand_on.ensures _ _ c.open_at_start.ensures
