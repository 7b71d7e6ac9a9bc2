-- `first_undercut` answers the first state that a row of its own undercuts, and its first such row: in both loops what is left
-- of the search gives the same answer as the whole.
use Prim.Native.Nat.{◌-◌}
use lib.ListN.{get_or}
use mathlib.Core.Path.{◌≡◌}
use Rattle.std.specs.Prelude.{None}
use Rattle.model.specs.Questions.{undercut_state, undercut_row}
use Rattle.model.specs.Search.{first}
use Rattle.model.specs.Sections.{problem_of}
use Rattle.model.specs.Value.{by_state}
use Rattle.reading.proofs.UndercutLoops.{row_holds, state_holds}
use Rattle.reading.proofs.problem.Indexed.first_undercut.Given as goal

abbrev pub invariant-loop-r : goal.invariant-loop-r
invariant-loop-r l =
    (l.found ≡ None)
    × (undercut_row (problem_of l.self.file.now) (by_state l.values) l.s
    ≡ first (row_holds (problem_of l.self.file.now) (by_state l.values) (get_or l.values l.s 0)) l.r (l.end - l.r))

abbrev pub invariant-states : goal.invariant-states
invariant-states l =
    (l.found ≡ None)
    × (undercut_state (problem_of l.self.file.now) (by_state l.values)
    ≡ first (state_holds (problem_of l.self.file.now) (by_state l.values)) l.s (l.n - l.s))
