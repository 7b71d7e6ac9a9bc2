-- What the audit of a file answers and leaves.
use Rattle.std.specs.Prelude.{◌≡◌, ℕ, ◌≤◌, List, length}
use Rattle.model.specs.Audit.{Audited, accepted, audit}
use Rattle.model.specs.Sections.{problem_of}
use Rattle.checking.specs.IndexLeft.{index_left}
use Rattle.walking.specs.Walkable.{Walkable}

-- the audit's answer; the index as questions 1 to 11 leave it, and that of the file where the audit accepts
pub record FileAudited (f values picks before index : List ℕ) (said : Audited) : Type 0 where
  pub answer : said ≡ audit f values picks
  pub left : index ≡ index_left f before
  pub walkable : (C : ℕ) → said ≡ accepted C → Walkable f index
  pub picks_long : (C : ℕ) → said ≡ accepted C → (problem_of f).states ≤ length picks
