-- `remainders_of` fills a table of zeros where there was a run.
use Rattle.programs.proofs.Remaining.{none_filled}
use Rattle.programs.proofs.remainders.remainders_of.Goals as goal

pub returns-else-n-ne0 : goal.returns-else-n-ne0
returns-else-n-ne0 c = none_filled c.if-n-ne0.false
