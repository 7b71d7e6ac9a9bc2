-- `total_of` answers the weight total: by the count of the settings it is 1,000 or the fourth.
use Rattle.std.proofs.Common.{rules}
use Rattle.reading.proofs.Places.{no_fourth, fourth_at}
use Rattle.reading.proofs.settings.total_of.Goals as goal

pub returns-then-u16_at-eq-MIN_SETTINGS : goal.returns-then-u16_at-eq-MIN_SETTINGS
returns-then-u16_at-eq-MIN_SETTINGS c = search (rules, no_fourth)

pub returns : goal.returns
returns c = search (rules, fourth_at)
