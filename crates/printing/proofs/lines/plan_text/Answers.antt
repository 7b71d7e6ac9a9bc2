-- `plan_text` begins a page and puts the answer's line and then those of the states.
use Rattle.std.proofs.Common.{arith, rules, length-append}
use Rattle.writing.specs.Pages.{puts_more, puts_whole}
use Rattle.printing.proofs.lines.plan_text.Goals as goal

pub returns : goal.returns
returns g c =
    let put = puts_more c.put_answer.ensures.puts c.put_states.ensures.puts in
    let whole = puts_whole c.new-page.ensures.value c.new-page.ensures.empty put c.len.ensures in
    record {
      holds = search (rules, whole);
      brief = λ few. simp length-append (omega (arith, c.put_answer.ensures.brief, c.put_states.ensures.brief));
    }
