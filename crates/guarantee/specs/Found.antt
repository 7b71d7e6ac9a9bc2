-- What a search for the first place that fails hands back.
use Rattle.std.specs.Prelude.{◌≡◌, ℕ, ◌<◌, Option, MatchOption}

-- of n places, the place i where the search stops; none where it ends, at n
abbrev pub Found : ℕ → ℕ → Option ℕ → Type 0
Found n i r = MatchOption r (i ≡ n) (λ s. (i ≡ s) × (s < n))
