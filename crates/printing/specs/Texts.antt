-- Numbers after a word, how long the text of a plan is, the marks of listed states, and tables that have room for them.
use Rattle.std.specs.Prelude.{◌≡◌, ℕ, ◌+◌, ◌*◌, ◌≤◌, ◌<◌, Bool, false, List, ◌++◌, length, get_or}
use Rattle.std.specs.List.{fold}
use Rattle.model.specs.Buffers.{line_most, state_most}
use Rattle.model.specs.Limits.{max_states, max_total}
use Rattle.model.specs.Lines.{blank_number, listed}

-- a text with the lines of n states is no longer than it can be
abbrev pub Brief : List ℕ → ℕ → Type 0
Brief text n = n ≤ max_states → length text ≤ line_most + state_most * n

-- a word, and numbers after it, each after a blank
abbrev pub numbered : List ℕ → List ℕ → List ℕ
numbered = fold (λ text n. text ++ blank_number n)

-- a mark for each state, set where it stands in a walk list
pub record Marked (marks : List Bool) (walk : List ℕ) : Type 0 where
  pub size : length marks ≡ max_states
  pub tells : (s : ℕ) → s < max_states → get_or marks s false ≡ listed s walk

-- a walk list of so many entries as there are states, and tables with at least as many; remainders are less than the largest weight total
pub record WalkWithin (walk values picks remainders : List ℕ) : Type 0 where
  pub states : length walk ≤ max_states
  pub values_long : length walk ≤ length values
  pub picks_long : length walk ≤ length picks
  pub remainders_long : length walk ≤ length remainders
  pub remainders_low : (s : ℕ) → s < length walk → get_or remainders s 0 < max_total
