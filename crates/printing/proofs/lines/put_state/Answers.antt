-- `put_state` puts the state's number, its value, its row or `give`, the remainder, and ends the line.
use Rattle.std.proofs.Common.{arith}
use Rattle.model.specs.Lines.{state_line}
use Rattle.writing.specs.Pages.{puts_more}
use Rattle.printing.proofs.Lengths.{state_most_lem}
use Rattle.printing.proofs.lines.put_state.Goals as goal

pub returns-clause-puts : goal.returns-clause-puts
unfolding state_line
returns-clause-puts c =
    let value = rw c.into.ensures at c.put_next.ensures in
    let remainder = rw c.into-2.ensures at c.put_next-2.ensures in
    puts_more (puts_more (puts_more (puts_more c.put_number.ensures value) c.put_row.ensures) remainder) c.put.ensures

pub returns-clause-brief : goal.returns-clause-brief
returns-clause-brief c =
    let within = c.args.run.within in
    state_most_lem _ _ _ _ (omega (arith, within.states)) (omega arith) (omega arith) (within.remainders_low c.args.state c.requires)
