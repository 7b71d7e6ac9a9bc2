-- `put_numbers` puts number after number: so many of them as turns stand behind the word.
use Rattle.std.proofs.Common.{◌++◌, arith}
use Rattle.std.proofs.lemmas.List.Sums.{fold_more}
use Rattle.model.specs.Lines.{blank_number}
use Rattle.writing.specs.Pages.{puts_more}
use Rattle.printing.proofs.Lengths.{numbered_most}
use Rattle.printing.proofs.lines.put_numbers.Goals as goal

pub loop-n-preserved : goal.loop-n-preserved
loop-n-preserved c =
    rw (fold_more (λ text n. text ++ blank_number n) c.args.word.now c.args.numbers.now c.loop-n.n-index 0 c.loop-n-test.true)
    (puts_more c.loop-n.invariant c.put_next.ensures)

pub returns-clause-brief : goal.returns-clause-brief
returns-clause-brief c = numbered_most c.args.numbers.now c.args.word.now (λ i. omega (arith, c.type_inv.numbers i))
