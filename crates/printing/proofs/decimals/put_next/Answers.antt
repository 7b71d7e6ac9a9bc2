-- `put_next` puts a blank and then the number.
use Rattle.writing.specs.Pages.{puts_more}
use Rattle.printing.proofs.decimals.put_next.Goals as goal

pub returns : goal.returns
returns c = puts_more c.put.ensures c.put_number.ensures
