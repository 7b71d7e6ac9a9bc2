-- What solving a file stands on: a file that may be run, and what a call leaves, the lent index included.
use Rattle.std.specs.Prelude.{◌≡◌, ℕ, ◌*◌, ◌≤◌, List, get_or, length}
use Rattle.model.specs.Carried.{Said, Carried}
use Rattle.model.specs.Questions.{passes, file_questions}
use Rattle.model.specs.Sections.{problem_of}
use Rattle.model.specs.Promises.{Leaves}
use Rattle.model.specs.declared.Kind.{Kind}
use Rattle.model.specs.Solution.{Tables, solve_questions, solution}
use Rattle.reading.specs.Ready.{Ready}
use Rattle.checking.specs.IndexLeft.{index_left}

-- questions 1 to 13 say yes
pub record Solvable (f : List ℕ) (budget : ℕ) (t : Tables) : Type 0 where
  pub file_passes : file_questions f ≡ passes
  pub tables_pass : solve_questions (problem_of f) budget t ≡ passes

-- entries for each state, all of them 0: no row is picked, and 0 serves as every rest
pub record Unentered (f entries : List ℕ) : Type 0 where
  pub long : 2 * (problem_of f).states ≤ length entries
  pub clear : (i : ℕ) → get_or entries i 0 ≡ 0

-- what a call answers and leaves; the index as questions 1 to 11 leave it, and that of the file where there was a run
pub record FileSolved
    (kind : Kind) (f : List ℕ) (budget : ℕ) (t : Tables) (before index : List ℕ) (carried : Carried) (t' : Tables) : Type 0 where
  pub leaves : Leaves carried t' (solution kind f budget t)
  pub left : index ≡ index_left f before
  pub ready : (carried.said ≡ Said.refused → ⊥) → Ready f index
