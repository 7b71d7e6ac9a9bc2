-- `estimates` fills in the estimates: the table so far is the one with its first s entries filled in.
use mathlib.Core.Path.{◌≡◌}
use Rattle.model.specs.Rounds.{fill_to}
use Rattle.model.specs.Sections.{problem_of}
use Rattle.reading.proofs.states.estimates.Given as goal

abbrev pub invariant-loop-s : goal.invariant-loop-s
invariant-loop-s l = l.values ≡ fill_to (problem_of l.file).estimate l.initial.values l.s
