-- `marks_of` marks the listed states: a state is listed exactly where it is marked, or stands in what is left of the list.
use Rattle.printing.proofs.Listing.{Marking}
use Rattle.printing.proofs.lines.marks_of.Given as goal

abbrev pub invariant-loop-s : goal.invariant-loop-s
invariant-loop-s l = Marking l.marks l.walk l.s-index
