-- `sheets_text` begins a page and puts the sheets of the four lengths, for which there is room.
use Rattle.std.proofs.Common.{arith, rules}
use Rattle.writing.specs.Pages.{puts_whole}
use Rattle.writing.specs.Putting.{uncut}
use Rattle.printing.proofs.Lengths.{sheets_most}
use Rattle.printing.proofs.sheets.sheets_text.Goals as goal

pub returns : goal.returns
returns c =
    let put = puts_whole c.new-page.ensures.value c.new-page.ensures.empty c.put_sheets.ensures c.len.ensures in
    record { holds = search (rules, put); whole = uncut put (omega (arith, sheets_most, c.told-out)) }
