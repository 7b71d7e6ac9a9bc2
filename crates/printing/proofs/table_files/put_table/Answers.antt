-- `put_table` begins a page and puts every entry.
use Rattle.std.proofs.Common.{arith, rules}
use Rattle.writing.specs.Pages.{puts_whole}
use Rattle.writing.specs.Putting.{uncut}
use Rattle.printing.proofs.Entries.{bytes_most}
use Rattle.printing.proofs.table_files.put_table.Goals as goal

pub returns : goal.returns
returns g c =
    let put = puts_whole c.new-page.ensures.value c.new-page.ensures.empty c.put_each.ensures c.len.ensures in
    let long = bytes_most g.met.E.Entry.laws c.args.table.now in
    record { holds = search (rules, put); whole = λ room. search (rules, uncut put (omega (arith, room, long))) }
