-- `u32_at` answers the four bytes' number. The definition is opened at the return.
use Rattle.model.specs.Bytes.{u16_at, u32_at}
use borrow.Author.Rules.{rules}
use Rattle.reading.proofs.numbers.u32_at.Goals as goal

pub returns : goal.returns
unfolding u16_at u32_at
returns c = search rules
