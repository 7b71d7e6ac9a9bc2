-- `marks_of` marks the listed states: a state is listed exactly where it is marked, or stands in what is left of the list.
use Rattle.printing.proofs.Listing.{marks_start, marks_go_on, marks_skip, marks_end}
use Rattle.printing.proofs.lines.marks_of.Goals as goal
use Rattle.printing.proofs.lines.marks_of.Goals.{then-s-lt-MAX_STATES, else-s-lt-MAX_STATES}

pub loop-s-init : goal.loop-s-init
loop-s-init c = marks_start _

pub loop-s-preserved : goal.loop-s-preserved
loop-s-preserved c =
    elim c.if-s-lt-MAX_STATES.branch [
      | then-s-lt-MAX_STATES w ↦
          rw w.marks-is (marks_go_on _ c.loop-s.invariant _ c.from-s.ensures c.loop-s-test.true w.if-s-lt-MAX_STATES.true)
      | else-s-lt-MAX_STATES w ↦
          rw w.marks-is (marks_skip _ c.loop-s.invariant _ c.from-s.ensures c.loop-s-test.true w.if-s-lt-MAX_STATES.false)
    ]

pub returns : goal.returns
returns c = marks_end _ c.loop-s.invariant c.loop-s-test.false
