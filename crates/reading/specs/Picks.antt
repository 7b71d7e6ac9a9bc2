-- What an entry of a picks table says: giving up, or the row of that number.
use Rattle.std.specs.Prelude.{◌≡◌, ℕ, ◌≢◌}
use Rattle.model.specs.Limits.{give_up}
use Rattle.reading.specs.declared.picks.Pick.{Pick}
use Rattle.reading.specs.declared.picks.Pick.TheVariants.{GiveUp, Row}

abbrev pub Picks : ℕ → Pick → Type 0
Picks entry GiveUp = entry ≡ give_up
Picks entry (Row r) = (entry ≡ r) × (entry ≢ give_up)
