-- `put_line` puts the word and the numbers, and ends the line.
use Rattle.std.proofs.Common.{arith, length-append}
use Rattle.writing.specs.Pages.{puts_more}
use Rattle.printing.proofs.lines.put_line.Goals as goal

pub returns : goal.returns
returns c = record {
  puts = puts_more c.put_numbers.ensures.puts c.put.ensures;
  brief = simp length-append (omega (arith, c.put_numbers.ensures.brief));
}
