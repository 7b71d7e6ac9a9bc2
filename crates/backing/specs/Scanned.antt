-- A problem, a scan so far and the tables of a run, as the code holds them, read as the model's.
use Rattle.std.specs.Prelude.{◌≡◌, ℕ, Bool, List, length}
use Rattle.std.specs.Borrow.{MutBor}
use Rattle.model.specs.Problem.{Problem}
use Rattle.model.specs.Rounds.{Found, Machine}
use Rattle.model.specs.Sections.{problem_of}
use Rattle.guarantee.specs.Sound.{SoundTables}
use Rattle.guarantee.specs.Rests.{Resting}
use Rattle.reading.specs.declared.problem.Problem as Given
use Rattle.backing.specs.Backable.{found, resting, machine, Kept}
use Rattle.backing.specs.declared.Memory.{Memory}
use Rattle.backing.specs.declared.scan.Found as Scanned

abbrev pub problem_in : Given.Problem → Problem
problem_in p = problem_of p.file.now

-- a scan so far, with what each row remembers beside it, and with rest
abbrev pub found_of : Scanned.Found → List ℕ → Found
found_of a remembered = found a.best a.pick a.count remembered

abbrev pub resting_of : Scanned.Found → List ℕ → Resting
resting_of a remembered = resting a.best a.pick a.count remembered a.rest

-- the machine of a run's tables, with a walk list, the evaluations so far, and whether something moved
abbrev pub machine_of : List ℕ → Memory → List ℕ → ℕ → Bool → Machine
machine_of values m list count moved = machine values m.picks.now m.remembered.now list count moved

-- the entries fit
abbrev pub KeptIn : Given.Problem → Memory → Type 0
KeptIn p m = Kept p.file.now p.index.now m.picks.now m.remembered.now m.entries.now

-- what backing up stands on: sound tables, and entries that fit
pub record Fitting (p : Given.Problem) (values : List ℕ) (m : Memory) : Type 0 where
  pub sound : SoundTables (problem_in p) values m.picks.now m.remembered.now
  pub kept : KeptIn p m

-- a table is lent as before and as long, whatever stands in it
abbrev pub SameTable : MutBor (List ℕ) → MutBor (List ℕ) → Type 0
SameTable t t' = (t'.ghost_name ≡ t.ghost_name) × (length t'.now ≡ length t.now)

abbrev pub Same : Memory → Memory → Type 0
Same m m' = SameTable m.picks m'.picks × SameTable m.remembered m'.remembered × SameTable m.entries m'.entries
