-- The model's questions as the loops put them: of the item at a place counted from where its section's items begin.
use Rattle.std.specs.Prelude.{◌≡◌, ℕ, ◌+◌, ◌*◌, ◌≤◌, Bool, List, length, get_or}
use Rattle.model.specs.Bytes.{u16_at, u32_at}
use Rattle.model.specs.Problem.{Problem}
use Rattle.model.specs.Questions.{Verdict, setting_questions}
use Rattle.model.specs.Questions.{state_obeys, row_obeys}
use Rattle.reading.specs.declared.settings.Settings.{Settings}
use Rattle.reading.specs.Tests.{rows_base}
use Rattle.reading.specs.Bounds.{max_byte}

-- what `setting_questions` answers of the settings
pub record SettingsAnswered (s : Settings) (states : ℕ) (said : Verdict) : Type 0 where
  pub says : (p : Problem) → p.start ≡ s.start → p.states ≡ states → p.tolerance ≡ s.tolerance → p.penalty ≡ s.penalty
      → p.total ≡ s.total → said ≡ setting_questions p

-- whether the state, or the row, whose bytes begin at i obeys its section
abbrev pub state_obeys_at : List ℕ → ℕ → ℕ → Bool
state_obeys_at f limit i = state_obeys limit (u32_at f i) (get_or f (i + 4) 0) (get_or f (i + 5) 0)

abbrev pub row_obeys_at : List ℕ → ℕ → Bool
row_obeys_at f i = row_obeys (get_or f i 0) (get_or f (i + 1) 0) (u16_at f (i + 2))

-- of the states whose bytes begin at i
abbrev pub state_test : List ℕ → ℕ → ℕ → ℕ → Bool
state_test f i limit = λ s. state_obeys_at f limit (i + 6 * s)

-- a part's ends lie in the file, and it has no more outcomes than a row can have
pub record PartThere (f index : List ℕ) (r : ℕ) : Type 0 where
  pub ordered : get_or index (rows_base + 2 * r) 0 ≤ get_or index (rows_base + 2 * r + 2) 0
  pub inside : get_or index (rows_base + 2 * r + 2) 0 ≤ length f
  pub few : get_or index (rows_base + 2 * r + 2) 0 ≤ get_or index (rows_base + 2 * r) 0 + 4 * max_byte
