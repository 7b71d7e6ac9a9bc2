-- "Looking up a state gives back its rows as a stretch of the caller's bytes. The stretch is empty where the file is refused
-- under questions 1 to 11 or the number isn't a state."
use Rattle.std.specs.Prelude.{ℕ, ◌*◌, Bool, true, false, List, [], ltb, take, drop}
use Rattle.model.specs.Limits.{Limits, in_force}
use Rattle.model.specs.Sections.{problem_of, row_at}
use Rattle.model.specs.Questions.{Verdict, passes, fails, file_questions_within}

-- the rows of state s, 4 bytes each
unfoldable pub stretch : List ℕ → ℕ → List ℕ
stretch f s = take (4 * (problem_of f).row_count s) (drop (row_at f ((problem_of f).first_row s)) f)

unfoldable pub rows_on : Verdict → Bool → List ℕ → ℕ → List ℕ
rows_on passes true f s = stretch f s
rows_on passes false f s = []
rows_on (fails q i) b f s = []

unfoldable pub rows_within : Limits → List ℕ → ℕ → List ℕ
rows_within L f s = rows_on (file_questions_within L f) (ltb s (problem_of f).states) f s

abbrev pub rows_of : List ℕ → ℕ → List ℕ
rows_of = rows_within in_force
