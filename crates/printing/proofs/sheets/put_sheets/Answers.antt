-- `put_sheets` puts a sheet for each length: so many lengths are done as turns.
use Rattle.writing.specs.Pages.{puts_nothing, puts_more}
use Rattle.printing.proofs.Sheeting.{no_sheets, sheets_next}
use Rattle.printing.proofs.sheets.put_sheets.Goals as goal

pub loop-mm-init : goal.loop-mm-init
loop-mm-init c = puts_nothing _ (no_sheets _)

pub loop-mm-preserved : goal.loop-mm-preserved
loop-mm-preserved c = rw (sheets_next c.args.lengths.now c.loop-mm.mm-index) (puts_more c.loop-mm.invariant c.put_sheet.ensures)
