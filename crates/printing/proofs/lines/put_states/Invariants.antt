-- `put_states` puts a line for each listed state: so many states are done as turns, and no line is longer than one can be.
use Rattle.std.proofs.Common.{◌*◌, ◌≤◌, length}
use Rattle.model.specs.Buffers.{state_most}
use Rattle.model.specs.Value.{by_state}
use Rattle.model.specs.Lines.{state_lines}
use Rattle.writing.specs.Pages.{Puts}
use Rattle.printing.proofs.lines.put_states.Given as goal

abbrev pub invariant-loop-s : goal.invariant-loop-s
invariant-loop-s l =
    let run = l.run in
    let lines = state_lines run.values.now run.picks.now (by_state run.remainders.now) run.walk.now l.s in
    record { puts : Puts l.initial.page l.page lines; brief : length lines ≤ state_most * l.s }
