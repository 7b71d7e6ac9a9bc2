-- `put_sheet` puts a line for each rate: so many rates are done as turns.
use Rattle.std.proofs.Common.{◌-◌}
use Rattle.model.specs.Limits.{min_rate}
use Rattle.model.specs.Sections.{length_seconds}
use Rattle.model.specs.Sheets.{rate_lines}
use Rattle.writing.specs.Pages.{Puts}
use Rattle.printing.proofs.sheets.put_sheet.Given as goal

abbrev pub invariant-loop-rate : goal.invariant-loop-rate
invariant-loop-rate l = Puts l.initial.page l.page (rate_lines (length_seconds l.mm) (l.rate - min_rate))
