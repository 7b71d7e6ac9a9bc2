-- `settings_of` answers the settings: the problem reads them at the same places.
use Rattle.std.proofs.Common.{rules}
use Rattle.reading.proofs.Places.{start_at, tolerance_at, penalty_at}
use Rattle.reading.proofs.settings.settings_of.Goals as goal

pub returns : goal.returns
returns c = search (rules, start_at, tolerance_at, penalty_at)
