-- `begin` makes the tables those of the machine as it starts: each row in turn remembers its value.
use Rattle.std.proofs.Common.{◌≡◌}
use Rattle.model.specs.Rounds.{fill_to}
use Rattle.backing.specs.Backable.{value_under}
use Rattle.solving.proofs.lent.begin.Given as goal

abbrev pub invariant-loop-r : goal.invariant-loop-r
invariant-loop-r l = l.remembered ≡ fill_to (value_under l.problem.file.now l.values) l.initial.remembered l.r
