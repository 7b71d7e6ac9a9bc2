-- `copy_front` copies byte after byte, and ends where one of the two does.
use mathlib.Core.Path.{◌∙◌}
use native.Mathlib.Omega.{arith}
use Prim.Native.Nat.{◌<◌}
use lib.ListN.{length, length-set}
use Rattle.capi.proofs.Copies.{copy_more, copy_end}
use Rattle.capi.proofs.copy_front.Goals as goal

pub loop-i-preserved : goal.loop-i-preserved
loop-i-preserved c =
    let (long, same) = c.loop-i.invariant in
    let more : c.loop-i.i < length c.args.from.now = omega (arith, c.loop-i-test.true, c.min-i-end.ensures) in
    let room : c.loop-i.i < length c.args.to.now = omega (arith, c.loop-i-test.true, c.min-i-end.ensures) in
    (length-set c.loop-i.to c.loop-i.i _ ∙ long, rw same (copy_more c.args.from.now c.args.to.now c.loop-i.i more room))

pub returns : goal.returns
returns c =
    c.loop-i.invariant.1
    ∙ copy_end c.args.from.now c.args.to.now c.loop-i.i (omega (arith, c.loop-i.auto.i-end, c.loop-i-test.false, c.min-i-end.ensures))
