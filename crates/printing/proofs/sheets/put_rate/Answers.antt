-- `put_rate` puts the rate, a blank and the seconds, and ends the line.
use Rattle.model.specs.Sheets.{rate_line}
use Rattle.writing.specs.Pages.{puts_more}
use Rattle.printing.proofs.sheets.put_rate.Goals as goal

pub returns : goal.returns
unfolding rate_line
returns c =
    let rate = rw c.into.ensures at c.put_number.ensures in
    let seconds = rw c.length_seconds.ensures at c.put_next.ensures in
    puts_more (puts_more rate seconds) c.put.ensures
