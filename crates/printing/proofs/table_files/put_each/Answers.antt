-- `put_each` puts entry after entry: the bytes of so many entries as turns stand there.
use Rattle.guarantee.specs.ReadsBack.{no_bytes}
use Rattle.writing.specs.Pages.{puts_nothing, puts_more, puts_same}
use Rattle.printing.proofs.Entries.{bytes_more, bytes_all}
use Rattle.printing.proofs.table_files.put_each.Goals as goal

pub loop-entry-init : goal.loop-entry-init
loop-entry-init g c = puts_nothing _ (no_bytes _)

pub loop-entry-preserved : goal.loop-entry-preserved
loop-entry-preserved g c =
    let at = c.loop-entry in
    rw (bytes_more g.met.E.Entry.laws c.args.table.now at.entry-index c.loop-entry-test.true c.entry-item.is)
    (puts_more at.invariant c.put.ensures)

pub returns : goal.returns
returns g c = puts_same (bytes_all g.met.E.Entry.laws c.args.table.now c.loop-entry-test.false) c.loop-entry.invariant
