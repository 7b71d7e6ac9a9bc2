-- `copy_front` copies as far as it fits: after i bytes the front of `to` is the front of `from`.
use mathlib.Core.Path.{◌≡◌}
use lib.ListN.{length}
use Rattle.capi.proofs.Copies.{copied_to}
use Rattle.capi.proofs.copy_front.Given as goal

abbrev pub invariant-loop-i : goal.invariant-loop-i
invariant-loop-i l = (length l.to ≡ length l.initial.to) × (l.to ≡ copied_to l.from l.initial.to l.i)
