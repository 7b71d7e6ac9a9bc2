-- That the row values of a sound machine fit in 32 bits: its values are at most 1000 × D.
use Rattle.std.specs.Prelude.{ℕ, ◌<◌}
use Rattle.model.specs.Limits.{value_bound}
use Rattle.model.specs.Problem.{Problem}
use Rattle.model.specs.Value.{row_value, by_state}
use Rattle.model.specs.Rounds.{Machine}
use Rattle.guarantee.specs.WellFormed.{WellFormed}
use Rattle.guarantee.specs.Values.{row_value-fits}
use Rattle.guarantee.specs.Sound.{Sound}

module _ (p : Problem) (formed : WellFormed p) where
  -- in a sound machine every row value fits in 32 bits
  pub evaluation_fits : (m : Machine) → Sound p m → (r : ℕ) → r < p.rows → row_value p (by_state m.values) r < value_bound
  evaluation_fits m sound = row_value-fits p formed (by_state m.values) sound.high
