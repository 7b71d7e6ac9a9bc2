-- `run` makes the model's run: what is left of it gives the same as the whole, in both parts of a finishing run. A list is walked anew
-- where a pick changed, so that each round finds the walk of its picks.
use Rattle.std.proofs.Common.{refl, ap, ◌∙◌, false, arith, is_none, rules}
use Rattle.solving.proofs.Running.{run_starts, next_round_room, run_goes_on, part_ends, run_solved, run_out_of_budget}
use Rattle.solving.proofs.run.run.Goals as goal

pub loop-rounds-init : goal.loop-rounds-init
loop-rounds-init c = (run_starts c.requires.0, refl, search rules)

pub round-r-requires : goal.round-r-requires
round-r-requires c =
    let h = c.loop-rounds.invariant in
    rw h.1 (h.0.runnable, next_round_room h.0 (omega (arith, c.loop-rounds-test.true)) c.requires.1)

pub loop-rounds-preserved-in_default : goal.loop-rounds-preserved-in_default
loop-rounds-preserved-in_default c =
    let h = c.loop-rounds.invariant in
    let r = rw h.1 at c.round-r.ensures.rounded in
    (run_goes_on h.0 r (omega (arith, c.loop-rounds-test.true)) (ap is_none c.in_default.is), h.1, search rules)

pub returns-in-Plain-clause-ran : goal.returns-in-Plain-clause-ran
returns-in-Plain-clause-ran c =
    let h = c.loop-rounds.invariant in
    let r = rw h.1 at c.round-r.ensures.rounded in
    record {
      moved = false;
      ends =
          rw (c.counts.ensures.0, c.counts.ensures.1)
          (run_solved h.0 r (omega (arith, c.loop-rounds-test.true)) (ap is_none c.in-Some.is) c.in-Plain.is);
      few = r.few;
      least = c.counts.ensures.2 ∙ rw c.in-Some.is at r.least;
      list_long = r.list_long;
    }

pub loop-rounds-preserved : goal.loop-rounds-preserved
loop-rounds-preserved c =
    let h = c.loop-rounds.invariant in
    let r = rw h.1 at c.round-r.ensures.rounded in (
      rw c.to_the_tick-by.ensures.0
          (part_ends h.0 r (omega (arith, c.loop-rounds-test.true)) (ap is_none c.in-Some.is) c.in-Finishing.is),
      c.to_the_tick-by.ensures.1,
      search rules,
    )

pub returns-clause-ran : goal.returns-clause-ran
returns-clause-ran c =
    let h = c.loop-rounds.invariant.0 in
    record {
      moved = h.moved;
      ends =
          rw (c.counts-2.ensures.0, c.counts-2.ensures.1)
          (run_out_of_budget h (omega (arith, c.loop-rounds-test.false, c.loop-rounds.auto.rounds-end)));
      few = h.few;
      least = c.counts-2.ensures.2;
      list_long = h.runnable.list_long;
    }
