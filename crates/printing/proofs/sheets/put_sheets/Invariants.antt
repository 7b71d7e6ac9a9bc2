-- `put_sheets` puts a sheet for each length: so many lengths are done as turns.
use Rattle.model.specs.Sheets.{sheets_to}
use Rattle.writing.specs.Pages.{Puts}
use Rattle.printing.proofs.sheets.put_sheets.Given as goal

abbrev pub invariant-loop-mm : goal.invariant-loop-mm
invariant-loop-mm l = Puts l.initial.page l.page (sheets_to l.lengths l.mm-index)
