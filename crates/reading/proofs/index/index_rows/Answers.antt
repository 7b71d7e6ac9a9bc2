-- `index_rows` fills in the rows. So far the total is the sum and the entries are made; a row's number of outcomes is a byte.
use Rattle.std.proofs.Common.{rules}
use Rattle.model.specs.Search.{sum_to}
use Rattle.guarantee.specs.Searches.{sum_next}
use Rattle.guarantee.specs.WellFormed.{row_cost}
use Rattle.reading.specs.Tests.{row_entries}
use Rattle.reading.proofs.RowEntries.{entries_next}
use Rattle.reading.proofs.index.index_rows.Goals as goal

pub loop-r-init : goal.loop-r-init
unfolding sum_to row_entries
loop-r-init c = search rules

pub ticks-requires : goal.ticks-requires
ticks-requires c = search (rules, row_cost)

pub loop-r-preserved : goal.loop-r-preserved
loop-r-preserved c = search (rules, sum_next, entries_next)
