-- Where the sections' items begin and how many there are, once questions 1 to 3 have said yes, and the settings.
-- These are the only places at which the file's numbers are looked for.
use Rattle.std.specs.Prelude.{◌≡◌, ℕ, ◌+◌, ◌*◌, ◌≤◌, List, length}
use Rattle.model.specs.Bytes.{u16_at}
use Rattle.model.specs.Limits.{max_settings, max_states, max_rows, max_outcomes}
use Rattle.model.specs.Sections.{states_at, rows_at, outcomes_at, problem_of}
use Rattle.reading.specs.declared.layout.Layout.{Layout}
use Rattle.reading.specs.declared.settings.Settings.{Settings}

-- where the settings begin: after their count
abbrev pub first_setting : ℕ
first_setting = 2

-- where the states begin: after the settings, 4 bytes each and as many as their count says, and the states' own count
abbrev pub first_state : List ℕ → ℕ
first_state f = first_setting + 4 * u16_at f 0 + 2

-- no file has its outcomes begin later
abbrev pub last_outcomes : ℕ
last_outcomes = first_setting + 4 * max_settings + 2 + 6 * max_states + 2 + 4 * max_rows + 2

pub record LaidOut (f : List ℕ) (l : Layout) : Type 0 where
  pub states_are : l.states ≡ (problem_of f).states
  pub rows_are : l.rows ≡ (problem_of f).rows
  pub outcomes_are : l.outcomes ≡ u16_at f (outcomes_at f)
  pub states_at_lem : l.at1 ≡ states_at f + 2
  pub rows_at_lem : l.at2 ≡ rows_at f + 2
  pub outcomes_at_lem : l.at3 ≡ outcomes_at f + 2
  pub states_there : l.at1 + 6 * l.states ≤ length f
  pub rows_there : l.at2 + 4 * l.rows ≤ length f
  pub outcomes_there : l.at3 + 4 * l.outcomes ≡ length f
  pub states_low : 1 ≤ l.states
  pub states_high : l.states ≤ max_states
  pub rows_high : l.rows ≤ max_rows
  pub outcomes_high : l.outcomes ≤ max_outcomes
  pub outcomes_near : l.at3 ≤ last_outcomes

pub record SettingsOf (f : List ℕ) (s : Settings) : Type 0 where
  pub start_is : s.start ≡ (problem_of f).start
  pub tolerance_is : s.tolerance ≡ (problem_of f).tolerance
  pub penalty_is : s.penalty ≡ (problem_of f).penalty
  pub total_is : s.total ≡ (problem_of f).total
