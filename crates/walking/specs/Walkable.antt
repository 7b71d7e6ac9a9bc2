-- A file that questions 1 to 11 let through, and its index: what a walk over it asks, and a look at its picks.
use Rattle.std.specs.Prelude.{◌≡◌, ℕ, List}
use Rattle.model.specs.Questions.{passes, file_questions}
use Rattle.model.specs.Sections.{problem_of}
use Rattle.guarantee.specs.WellFormed.{WellFormed}
use Rattle.guarantee.specs.WellFormed.{well_formed}
use Rattle.reading.specs.Ready.{Ready}
use Rattle.reading.specs.declared.problem.Problem.{Problem}

pub record Walkable (f index : List ℕ) : Type 0 where
  pub ready : Ready f index
  pub formed : WellFormed (problem_of f)

pub walkable : {f index : List ℕ} → file_questions f ≡ passes → Ready f index → Walkable f index
walkable {f} h ready = record { ready = ready; formed = well_formed f h }

pub problem_walkable : (p : Problem) → Walkable p.file.now p.index.now
problem_walkable p = record { ready = p.ready; formed = p.formed }
