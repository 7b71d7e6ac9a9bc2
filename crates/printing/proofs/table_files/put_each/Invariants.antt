-- `put_each` puts entry after entry: the bytes of so many entries as turns stand there.
use Rattle.std.proofs.Common.{take}
use Rattle.model.specs.TableFiles.{table_bytes}
use Rattle.writing.specs.Pages.{Puts}
use Rattle.printing.proofs.table_files.put_each.Given as goal

abbrev pub invariant-loop-entry : goal.invariant-loop-entry
invariant-loop-entry g l =
    let e = g.E.Entry in
    Puts l.initial.page l.page (table_bytes e.BYTES (take l.entry-index (e.numbers l.table)))
