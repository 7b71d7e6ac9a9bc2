-- One view of a problem file: numbers, and functions of a state or a row number. Everything above the reader speaks of this.
use Rattle.std.specs.Prelude.{ℕ, ◌+◌, ◌*◌, Bool, ◌&&◌, List, leb, ltb}
use Rattle.model.specs.Limits.{ticks_per_second}

-- "successor state, weight w"
pub record Outcome : Type 0 where
  pub successor : ℕ
  pub weight : ℕ

pub record Problem : Type 0 where
  pub start : ℕ
  pub tolerance : ℕ
  pub penalty : ℕ
  pub total : ℕ
  pub states : ℕ
  pub rows : ℕ
  pub goal : ℕ → Bool
  pub estimate : ℕ → ℕ
  pub first_row : ℕ → ℕ
  pub row_count : ℕ → ℕ
  pub cost : ℕ → ℕ
  pub outcomes : ℕ → List Outcome

-- "Giving up costs 1000 × D"
abbrev pub give_up_cost : Problem → ℕ
give_up_cost p = ticks_per_second * p.penalty

-- the number after a state's last row
abbrev pub end_row : Problem → ℕ → ℕ
end_row p s = p.first_row s + p.row_count s

-- whether row r is one of state s's own
abbrev pub own_row : Problem → ℕ → ℕ → Bool
own_row p s r = leb (p.first_row s) r && ltb r (end_row p s)
