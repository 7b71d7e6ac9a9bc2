-- `seen` tells as many bytes as were read, and there is room for more than any table has.
use mathlib.Core.Path.{ap}
use lib.ListN.{length}
use Rattle.plan.proofs.Reading.{shows}
use native.Mathlib.Omega.{arith}
use Rattle.plan.proofs.seen.Goals as goal

pub returns : goal.returns
returns c =
    λ f read. rw (ap length c.front.ensures) (shows f c.args.bytes.now c.args.read read (omega (arith, c.front.type_inv)))
