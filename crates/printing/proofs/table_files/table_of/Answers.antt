-- `table_of` reads entry after entry: so many entries as turns stand at the front.
use Rattle.std.proofs.Common.{arith}
use Rattle.writing.specs.Putting.{grown_starts}
use Rattle.printing.proofs.Entries.{no_entries, read_more, read_all}
use Rattle.printing.proofs.table_files.table_of.Goals as goal

pub loop-i-init : goal.loop-i-init
loop-i-init g c = grown_starts (no_entries _) (omega arith)

pub loop-i-preserved : goal.loop-i-preserved
loop-i-preserved g c =
    let count = rw c.BYTES.ensures at c.min-count.ensures in
    read_more g.met.E.Entry.laws c.args.bytes.now c.loop-i.i (omega arith) (omega arith) (rw c.BYTES-in-loop-i.ensures at c.at.ensures)
    c.loop-i.invariant

pub returns : goal.returns
returns g c =
    let count = rw c.BYTES.ensures at c.min-count.ensures in
    read_all g.met.E.Entry.laws c.args.bytes.now {table = c.loop-i.table} c.loop-i.i (omega arith) (omega arith) c.loop-i.invariant
