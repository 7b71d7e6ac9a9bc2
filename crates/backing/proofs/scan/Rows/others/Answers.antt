-- `others` scans the rows in order, but for the pick before: what is left of the scan gives the same as the whole.
use native.Mathlib.Omega.{arith}
use Rattle.backing.proofs.Scanning.{scannable_of, rowed_at, left_starts, left_row, left_room, left_taken, left_done}
use Rattle.backing.proofs.scan.Rows.others.Goals as goal

pub loop-k-init : goal.loop-k-init
loop-k-init c = left_starts _ _ c.requires.3 _ c.requires.1

pub consider-a-requires : goal.consider-a-requires
consider-a-requires c =
    let row = left_row _ _ c.requires.3 _ c.stop-k-end.ensures _ _ c.loop-k.invariant c.loop-k-test.true c.other-r.ensures in (
      rowed_at (scannable_of c.args.self (omega (arith, c.requires.0, c.loop-k.auto.remembered))) (omega (arith, c.requires.2, row))
          c.row.ensures.2 c.args.self.total_is c.row.ensures.0 c.row.ensures.1,
      left_room _ _ c.requires.3 _ c.stop-k-end.ensures _ _ c.loop-k.invariant c.requires.4,
    )

pub loop-k-preserved : goal.loop-k-preserved
loop-k-preserved c =
    left_taken _ _ c.requires.3 _ c.stop-k-end.ensures _ _ c.loop-k.invariant c.loop-k-test.true c.other-r.ensures c.consider-a.ensures

pub returns : goal.returns
returns c = left_done _ _ c.requires.3 _ c.stop-k-end.ensures _ _ c.loop-k.invariant c.loop-k-test.false
