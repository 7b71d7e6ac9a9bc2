-- A table of entries that leads a walk: each state's code tells a part of the file whose outcomes lead to states.
-- What a walk by such a table leaves, and what that is where the codes are those of the picks.
use Rattle.std.specs.Prelude.{◌≡◌, ℕ, ◌*◌, ◌≤◌, ◌<◌, false, List, length, take}
use Rattle.model.specs.Questions.{passes, layout_questions}
use Rattle.model.specs.Sections.{problem_of}
use Rattle.model.specs.Value.{by_state}
use Rattle.model.specs.Walk.{walk}
use Rattle.guarantee.specs.WellFormed.{WellFormed}
use Rattle.reading.specs.Entries.{code_in, code_from, code_to}
use Rattle.walking.specs.Trails.{AmongStates, leads, Outcomes, Along, walk_on}

-- the graph of the entries: where the part that a state's code tells leads
abbrev pub led_by : List ℕ → List ℕ → ℕ → List ℕ
led_by f entries s = leads f (code_from (code_in entries s)) (code_to (code_in entries s))

-- each code of a state tells whole outcomes of the file, and none at a goal
pub record Led (f entries : List ℕ) : Type 0 where
  pub whole : layout_questions f ≡ passes
  pub formed : WellFormed (problem_of f)
  pub long : 2 * (problem_of f).states ≤ length entries
  pub outcomes : (s : ℕ) → s < (problem_of f).states
      → Outcomes f (code_from (code_in entries s)) (code_to (code_in entries s))
  pub no_goal : (s : ℕ) → s < (problem_of f).states → code_from (code_in entries s) < code_to (code_in entries s)
      → (problem_of f).goal s ≡ false

pub led_along : {f entries : List ℕ} → Led f entries → Along f (led_by f entries)
led_along led = record { whole = led.whole; formed = led.formed; among = λ s t l i. (led.outcomes s l).lead t i }

pub led_among : {f entries : List ℕ} → Led f entries → AmongStates f (led_by f entries)
led_among led = (led_along led).among

-- the first r of the list are those of the walk over the entries' graph, and the list has an entry for each state
pub record WalkedBy (f entries list' : List ℕ) (r : ℕ) : Type 0 where
  pub list : take r list' ≡ (walk_on f (led_by f entries)).list
  pub count : r ≡ length (walk_on f (led_by f entries)).list
  pub few : r ≤ (problem_of f).states
  pub list_long : (problem_of f).states ≤ length list'

-- the first r of the list are those of the model's walk with the picks
pub record Listing (f picks list' : List ℕ) (r : ℕ) : Type 0 where
  pub list : take r list' ≡ (walk (problem_of f) (by_state picks)).list
  pub few : r ≤ (problem_of f).states
  pub list_long : (problem_of f).states ≤ length list'
