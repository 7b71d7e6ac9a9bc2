-- `put_remainders` fills the front of the table with the remainders of the picks: as many as turns are filled.
use mathlib.Core.Path.{◌≡◌}
use Rattle.model.specs.Rounds.{fill_to}
use Rattle.programs.specs.Remainders.{remainder_at}
use Rattle.programs.proofs.remainders.put_remainders.Given as goal

abbrev pub invariant-loop-s : goal.invariant-loop-s
invariant-loop-s l = l.remainders ≡ fill_to (remainder_at l.problem.file.now l.values l.picks) l.initial.remainders l.s
