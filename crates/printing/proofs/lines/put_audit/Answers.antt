-- `put_audit` puts the line of each kind of answer.
use Rattle.std.proofs.Common.{arith}
use Rattle.model.specs.Lines.{audit_line}
use Rattle.printing.proofs.lines.put_audit.Goals as goal

pub returns-in-Ok : goal.returns-in-Ok
unfolding audit_line
returns-in-Ok g c =
    let line = rw c.into.ensures at c.put_line.ensures in
    rw c.in-Ok.is (record { puts = line.puts; brief = omega (arith, line.brief) })
