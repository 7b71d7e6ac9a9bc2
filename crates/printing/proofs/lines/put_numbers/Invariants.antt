-- `put_numbers` puts number after number: so many of them as turns stand behind the word.
use Rattle.std.proofs.Common.{take}
use Rattle.writing.specs.Pages.{Puts}
use Rattle.printing.specs.Texts.{numbered}
use Rattle.printing.proofs.lines.put_numbers.Given as goal

abbrev pub invariant-loop-n : goal.invariant-loop-n
invariant-loop-n l = Puts l.fn.page l.page (numbered l.word (take l.n-index l.numbers))
