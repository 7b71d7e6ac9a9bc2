-- `raise` stores best where the model's test says so. The sum of a value and the tolerance is made in 64 bits.
use mathlib.Core.Path.{refl, sym}
use borrow.Author.Tests.{le-leb, lt-leb}
use Rattle.model.specs.Rounds.{raise_on}
use Rattle.backing.proofs.backup.raise.Goals as goal

pub returns-then-old-tolerance : goal.returns-then-old-tolerance
unfolding raise_on
returns-then-old-tolerance c = (sym (le-leb _ _ c.if-old-tolerance.true), rw (le-leb _ _ c.if-old-tolerance.true) refl)

pub returns : goal.returns
unfolding raise_on
returns c = (sym (lt-leb _ _ c.if-old-tolerance.false), rw (lt-leb _ _ c.if-old-tolerance.false) refl)
