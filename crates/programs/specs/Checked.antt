-- How many states a file has of which questions 1 to 11 were asked.
use Rattle.std.specs.Prelude.{ℕ}
use Rattle.model.specs.Questions.{Verdict, passes, fails}

-- n where it passes, and none where it is refused
unfoldable pub passed_states : Verdict → ℕ → ℕ
passed_states passes n = n
passed_states (fails q i) n = 0
