-- `put_number` puts the digits that std makes, which are the model's.
use Rattle.std.proofs.Common.{◌∙◌, sym, arith}
use Rattle.printing.proofs.Digits.{decimal_std}
use Rattle.writing.specs.Pages.{puts_same}
use Rattle.printing.proofs.decimals.put_number.Goals as goal

pub returns : goal.returns
returns c = puts_same (c.as_bytes.ensures.value ∙ c.format.ensures.text ∙ sym (decimal_std c.args.n (omega arith))) c.put.ensures
