-- `others` scans the rows in order, but for the pick before: what is left of the scan gives the same as the whole.
use mathlib.Core.Path.{◌≡◌}
use Prim.Native.Nat.{◌-◌}
use Rattle.backing.specs.Backable.{rest_others_under}
use Rattle.backing.specs.Scanned.{resting_of}
use Rattle.backing.proofs.Scanning.{left_from}
use Rattle.backing.proofs.scan.Rows.others.Given as goal

abbrev pub invariant-loop-k : goal.invariant-loop-k
invariant-loop-k l =
    left_from l.self.problem.file.now l.self.values.now l.prev l.end l.k (resting_of l.a l.remembered)
    ≡ rest_others_under
    l.self.problem.file.now l.self.values.now l.prev l.first (l.end - l.first) (resting_of l.initial.a l.initial.remembered)
