-- `answer_text` begins a page and puts the line.
use Rattle.std.proofs.Common.{rules}
use Rattle.writing.specs.Pages.{puts_whole}
use Rattle.printing.proofs.lines.answer_text.Goals as goal

pub returns-clause-holds : goal.returns-clause-holds
returns-clause-holds g c =
    search (rules, puts_whole c.new-page.ensures.value c.new-page.ensures.empty c.put_answer.ensures.puts c.len.ensures)
