-- `table_of` reads entry after entry: so many entries as turns stand at the front.
use Rattle.printing.proofs.Entries.{ReadTo}
use Rattle.printing.proofs.table_files.table_of.Given as goal

abbrev pub invariant-loop-i : goal.invariant-loop-i
invariant-loop-i g l =
    let e = g.E.Entry in
    ReadTo e.number_at e.BYTES l.bytes (e.numbers l.initial.table) (e.numbers l.table) l.i
