-- `put_remainders` fills the front of the table with the remainders of the picks: as many as turns are filled.
use mathlib.Core.Path.{refl}
use Rattle.model.specs.Rounds.{fill_to}
use Rattle.guarantee.specs.Tables.{fill_next}
use Rattle.std.proofs.Common.{rules}
use Rattle.programs.proofs.remainders.put_remainders.Goals as goal

pub loop-s-init : goal.loop-s-init
unfolding fill_to
loop-s-init c = refl

pub loop-s-preserved : goal.loop-s-preserved
loop-s-preserved c = search (rules, fill_next)
