-- `put` stores as much of the text as there is room for.
use mathlib.Core.Path.{refl}
use Rattle.writing.specs.Putting.{stored}
use native.Mathlib.Omega.{arith}
use Rattle.writing.proofs.page.Page.put.Goals as goal

pub returns : goal.returns
returns c = record { buffer = refl; held = stored _ _ _ _ _ _ c.args.self.now.within (omega arith) c.min-n.ensures c.copy_from_slice.ensures.after }
