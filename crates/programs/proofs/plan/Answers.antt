-- `plan` puts the text of what its run left: the states of a run lie within the tables.
use mathlib.Core.Path.{◌≡◌, sym}
use Prim.Native.Nat.{◌+◌, ◌≤◌}
use lib.ListN.{length}
use lib.Seq.{length-take-le}
use Rattle.model.specs.Buffers.{line_most, plan_room}
use Rattle.model.specs.Limits.{max_states, plan_holds}
use Rattle.printing.specs.Refusals.{answer_read}
use Rattle.programs.proofs.Planning.{done_answer, done_walk, done_fit, plans, held_plans, held_passes, not_held, longer_plans}
use native.Mathlib.Omega.{arith}
use Rattle.programs.proofs.plan.Goals as goal

pub returns-then-read-gt-PLAN_HOLDS : goal.returns-then-read-gt-PLAN_HOLDS
returns-then-read-gt-PLAN_HOLDS c =
    let page-long : length c.args.page.now ≡ plan_holds + 1 = omega (arith, c.answer_text.type_inv) in
    let line-wide : line_most ≤ length c.args.page.now = omega (arith, c.answer_text.type_inv) in
    λ f read.
    longer_plans _ _ _ _ (not_held f c.args.page.now c.args.read c.if-read-gt-PLAN_HOLDS.true (page-long) read)
    (rw c.at.ensures at c.answer_text.ensures.holds) (rw c.at.ensures at c.answer_text.ensures.brief) (line-wide)

pub slice_bounds-walk-end : goal.slice_bounds-walk-end
slice_bounds-walk-end c = done_walk c.run-ran.ensures c.run-ran.auto.walk

pub slice_bounds-left-end-4 : goal.slice_bounds-left-end-4
slice_bounds-left-end-4 c = sym (length-take-le _ _ (done_walk c.run-ran.ensures c.run-ran.auto.walk))

pub invariant_of-left : goal.invariant_of-left
invariant_of-left c =
    record { within = done_fit c.run-ran.ensures c.run-ran.auto.values c.run-ran.auto.picks c.run-ran.auto.walk }

pub returns : goal.returns
returns c =
    let page-size : length c.args.page.now ≡ plan_holds + 1 = omega (arith, c.front.type_inv) in
    let values_long : length c.args.values.now ≡ max_states = omega (arith, c.run-ran.type_inv) in
    let picks_long : length c.args.picks.now ≡ max_states = omega (arith, c.run-ran.type_inv) in
    let text = rw (answer_read c.run-ran.result.answer) at c.plan_text-length.ensures in
    let out-wide : plan_room ≤ length c.args.page.now = omega (arith, c.plan_text-length.type_inv) in
    λ f read.
    held_plans c.args.kind f c.args.page.now c.args.values.now c.args.picks.now c.args.read c.if-read-gt-PLAN_HOLDS.false
    (page-size) read c.front.ensures
    (plans _ _ _ _ (done_answer c.run-ran.ensures) c.run-ran.ensures.leaves.left c.run-ran.ensures.states_are
    (done_walk c.run-ran.ensures c.run-ran.auto.walk) c.run-ran.ensures.remainders_are
    (held_passes c.args.page.now c.args.read c.if-read-gt-PLAN_HOLDS.false c.front.ensures)
    (values_long) (picks_long)
    (out-wide) c.run-ran.auto.values c.run-ran.auto.picks text.holds text.brief)
