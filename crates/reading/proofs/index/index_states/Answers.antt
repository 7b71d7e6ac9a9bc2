-- `index_states` fills in the first rows. So far the total is the sum and the table is filled; a state's row number is a byte.
use Rattle.std.proofs.Common.{rules}
use Rattle.model.specs.Search.{sum_to}
use Rattle.model.specs.Rounds.{fill_to}
use Rattle.guarantee.specs.Searches.{sum_next}
use Rattle.guarantee.specs.Tables.{fill_next}
use Rattle.reading.proofs.index.index_states.Goals as goal

pub loop-s-init : goal.loop-s-init
unfolding sum_to fill_to
loop-s-init c = search rules

pub loop-s-preserved : goal.loop-s-preserved
loop-s-preserved c = search (rules, sum_next, fill_next)

pub returns : goal.returns
returns c = search (rules, fill_next)
