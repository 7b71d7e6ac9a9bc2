-- `put_answer` puts the line of each kind of answer.
use Rattle.std.proofs.Common.{arith}
use Rattle.model.specs.Lines.{answer_line}
use Rattle.printing.proofs.lines.put_answer.Goals as goal

pub returns-in-Ok-Solved : goal.returns-in-Ok-Solved
unfolding answer_line
returns-in-Ok-Solved g c =
    let line = rw c.into.ensures at c.put_line.ensures in
    let solved = rw c.in-Ok-Solved.is at c.in-Ok-Solved.field-0-is in
    rw (c.in-Ok-Solved.is, solved) (record { puts = line.puts; brief = omega (arith, line.brief) })

pub returns-in-Ok-Spent : goal.returns-in-Ok-Spent
unfolding answer_line
returns-in-Ok-Spent g c =
    let line = c.put_line-in-Ok-Spent.ensures in
    let spent = rw c.in-Ok-Spent.is at c.in-Ok-Spent.field-0-is in
    rw (c.in-Ok-Spent.is, spent) (record { puts = line.puts; brief = omega (arith, line.brief) })

pub returns-in-Err : goal.returns-in-Err
unfolding answer_line
returns-in-Err g c =
    let line = rw (c.into-in-Err.ensures, c.into-in-Err-2.ensures) at c.put_line-in-Err.ensures in
    rw (c.in-Err.is, ← c.question.ensures, ← c.place.ensures)
    (record { puts = line.puts; brief = omega (arith, line.brief) })
