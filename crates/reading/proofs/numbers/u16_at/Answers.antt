-- `u16_at` answers the two bytes' number. The definition is opened at the return.
use Rattle.model.specs.Bytes.{u16_at}
use borrow.Author.Rules.{rules}
use Rattle.reading.proofs.numbers.u16_at.Goals as goal

pub returns : goal.returns
unfolding u16_at
returns c = search rules
