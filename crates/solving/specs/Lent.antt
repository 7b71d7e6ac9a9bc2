-- The tables that a caller lends, read as the model's: as they are lent, and as they are left.
use Rattle.std.specs.Prelude.{◌≡◌, ℕ, ◌≤◌, List, length}
use Rattle.std.specs.Borrow.{MutBor}
use Rattle.model.specs.Problem.{Problem}
use Rattle.model.specs.Solution.{Tables, tables}
use Rattle.solving.specs.declared.Tables as Given

abbrev pub tables_in : Given.Tables → Tables
tables_in t = tables t.values.now t.picks.now t.remembered.now t.walk.now

-- the same of tables that were handed over, as they are left
abbrev pub tables_left : MutBor (List ℕ) × (MutBor (List ℕ) × (MutBor (List ℕ) × (MutBor (List ℕ) × Unit {0}))) → Tables
tables_left t = tables t.0.now t.1.0.now t.1.1.0.now t.1.1.1.0.now

-- each table is lent as before and as long, whatever stands in it
pub record Same (t t' : Given.Tables) : Type 0 where
  pub values : (t'.values.ghost_name ≡ t.values.ghost_name) × (length t'.values.now ≡ length t.values.now)
  pub picks : (t'.picks.ghost_name ≡ t.picks.ghost_name) × (length t'.picks.now ≡ length t.picks.now)
  pub remembered : (t'.remembered.ghost_name ≡ t.remembered.ghost_name) × (length t'.remembered.now ≡ length t.remembered.now)
  pub walk : (t'.walk.ghost_name ≡ t.walk.ghost_name) × (length t'.walk.now ≡ length t.walk.now)

-- tables that a run of a problem can begin in
pub record Long (p : Problem) (values picks remembered : List ℕ) : Type 0 where
  pub values_long : p.states ≤ length values
  pub picks_long : p.states ≤ length picks
  pub remembered_long : p.rows ≤ length remembered
