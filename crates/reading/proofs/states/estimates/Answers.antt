-- `estimates` fills in the estimates: the table so far is the one with its first s entries filled in.
use Rattle.std.proofs.Common.{rules}
use Rattle.model.specs.Rounds.{fill_to}
use Rattle.guarantee.specs.Tables.{fill_next}
use Rattle.reading.proofs.states.estimates.Goals as goal

pub loop-s-init : goal.loop-s-init
unfolding fill_to
loop-s-init c = search rules

pub loop-s-preserved : goal.loop-s-preserved
loop-s-preserved c = search (rules, fill_next)
