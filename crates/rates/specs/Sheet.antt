-- The printed sheet: "a sheet of 991 seconds, for rates 10 to 1,000".
use Rattle.std.specs.Prelude.{◌≡◌, ℕ, ◌-◌, ◌≤◌, List, get_or}
use Rattle.model.specs.Limits.{min_rate, max_rate}
use Rattle.model.specs.Sections.{rate_seconds}

-- "Every rate keeps its cost": entry r − 10 has the seconds of rate r. Entry 690 is 858, at rate 700.
pub record RateSheet (sheet : List ℕ) : Type 0 where
  pub keeps : (rate : ℕ) → min_rate ≤ rate → rate ≤ max_rate → get_or sheet (rate - min_rate) 0 ≡ rate_seconds rate
