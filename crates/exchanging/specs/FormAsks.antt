-- What writing a set form asks for and leaves.
use Rattle.std.specs.Prelude.{◌≡◌, ℕ, ◌<◌, List, length, get_or}
use Rattle.model.specs.Bytes.{number_bytes}
use Rattle.model.specs.Problem.{Problem}
use Rattle.model.specs.Sections.{problem_of}
use Rattle.model.specs.SetForm.{in_set_form}
use Rattle.exchanging.specs.Codes.{codes}

-- the problem of a file, in set form
abbrev pub form_of : List ℕ → Problem
form_of f = in_set_form (problem_of f)

-- how many outcomes row r has in set form, and a table that has it for each row, and no more
abbrev pub form_count : List ℕ → ℕ → ℕ
form_count f = λ r. length ((form_of f).outcomes r)

pub record Counted (f counts : List ℕ) : Type 0 where
  pub long : length counts ≡ (problem_of f).rows
  pub holds : (r : ℕ) → r < (problem_of f).rows → get_or counts r 0 ≡ form_count f r

-- the codes of the outcomes of row r in set form
abbrev pub row_codes : List ℕ → ℕ → List ℕ
row_codes f = λ r. codes ((form_of f).outcomes r)

-- the bytes of the outcome whose code is entry i of a table
abbrev pub code_as : List ℕ → ℕ → List ℕ
code_as table = λ i. number_bytes 4 (get_or table i 0)
