-- `put_states` puts a line for each listed state: so many states are done as turns, and no line is longer than one can be.
use Rattle.std.proofs.Common.{length-append, arith, refl, sym, ◌∙◌}
use Rattle.model.specs.Value.{by_state}
use Rattle.printing.proofs.Listing.{no_lines, lines_next}
use Rattle.writing.specs.Pages.{puts_nothing, puts_more}
use Rattle.printing.proofs.lines.put_states.Goals as goal
use Rattle.printing.proofs.lines.put_states.Goals.{then-marks-s, else-marks-s}

pub loop-s-init : goal.loop-s-init
loop-s-init c = record { puts = puts_nothing _ (no_lines _ _ _ _); brief = rw no_lines (omega arith) }

pub loop-s-preserved : goal.loop-s-preserved
loop-s-preserved c =
    let done = c.loop-s.invariant in
    let run = c.args.run in
    let remainder = by_state run.remainders.now in
    let told = c.marks_of-marks.ensures.tells c.loop-s.s (omega (arith, c.loop-s-test.true, run.within.states)) in
    elim c.if-marks-s.branch [
      | then-marks-s w ↦
          let lines = lines_next run.values.now run.picks.now remainder run.walk.now c.loop-s.s (sym w.if-marks-s.true ∙ told) in
          rw (w.page-is)
          (record {
            puts = rw lines (puts_more done.puts w.put_state.ensures.puts);
            brief = rw lines (simp length-append (omega (arith, done.brief, w.put_state.ensures.brief)));
          })
      | else-marks-s w ↦
          let lines = lines_next run.values.now run.picks.now remainder run.walk.now c.loop-s.s (sym w.if-marks-s.false ∙ told) in
          rw (w.page-is)
          (record {
            puts = rw lines (puts_more done.puts (puts_nothing _ refl));
            brief = rw lines (simp length-append (omega (arith, done.brief)));
          })
    ]
