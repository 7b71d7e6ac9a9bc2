-- `visit_state` and `visit_outcomes` make the model's visits, over any graph that leads a walk: what is left of the outcomes
-- completes the whole. The measure is twice the number of unmarked states, and one more for the outcomes.
use borrow.Author.Tests.{not-true, not-false}
use mathlib.Core.Path.{sym, ◌∙◌}
use native.Mathlib.Omega.{arith}
use Rattle.guarantee.specs.Graphs.{each}
use Rattle.walking.proofs.Visits.{mark_left, mark_under, list_inside, over_goal, over_listed}
use Rattle.walking.proofs.Visits.{one_of, loop_end, loop_state, loop_pass, loop_visit}
use Rattle.walking.proofs.walk.+visit_outcomes_visit_state.Goals as goal

pub visit_outcomes-bounds-marks-t : goal.visit_outcomes-bounds-marks-t
visit_outcomes-bounds-marks-t g t c =
    let along = g.met.G.Guide.along c.args.guide.now in
    let (size, loop) = c.loop-outcome.invariant in
    let o = one_of c.in-Some.ensures.steps.1 size c.u16_at-t.ensures.0 in
    omega (arith, loop_state loop o, along.formed.states_high)

pub visit_outcomes-visit_state-k-requires : goal.visit_outcomes-visit_state-k-requires
visit_outcomes-visit_state-k-requires g t c κs within =
    let (size, loop) = c.loop-outcome.invariant in
    let o = one_of c.in-Some.ensures.steps.1 size c.u16_at-t.ensures.0 in
    (omega (arith, loop.stretch.fewer each), (within, (loop.under, loop_state loop o, c.if-marks-t-eq0.true)))

pub visit_outcomes-loop-outcome-preserved-then-marks-t-eq0 :
    goal.visit_outcomes-loop-outcome-preserved-then-marks-t-eq0
visit_outcomes-loop-outcome-preserved-then-marks-t-eq0 g t c =
    let (size, loop) = c.loop-outcome.invariant in
    let o = one_of c.in-Some.ensures.steps.1 size c.u16_at-t.ensures.0 in
    (c.in-Some.ensures.steps.0 ∙ size, loop_visit loop o c.if-marks-t-eq0.true c.visit_state-k.ensures)

pub visit_outcomes-loop-outcome-preserved : goal.visit_outcomes-loop-outcome-preserved
visit_outcomes-loop-outcome-preserved g t c =
    let (size, loop) = c.loop-outcome.invariant in
    let o = one_of c.in-Some.ensures.steps.1 size c.u16_at-t.ensures.0 in
    (c.in-Some.ensures.steps.0 ∙ size, loop_pass loop o c.if-marks-t-eq0.false)

pub visit_outcomes-returns : goal.visit_outcomes-returns
visit_outcomes-returns g t c =
    loop_end c.loop-outcome.invariant.1 (omega (arith, c.loop-outcome.invariant.0, c.in-None.ensures.steps.1))

pub visit_state-visit_outcomes-k-requires : goal.visit_state-visit_outcomes-k-requires
visit_state-visit_outcomes-k-requires g t c κs within = (
  omega (arith, mark_left c.requires.0 _ c.requires.1 c.requires.2),
  (within, (mark_under c.requires.0 _ c.requires.1 c.requires.2, c.outcomes-outcomes.ensures.outcomes)),
)

pub visit_state-offset_bounds-list-k : goal.visit_state-offset_bounds-list-k
visit_state-offset_bounds-list-k g t c =
    let high = (g.met.G.Guide.along c.args.guide.now).formed.states_high in
    omega (arith, list_inside c.requires.0 _ c.requires.1 c.requires.2 _ c.visit_outcomes-k.ensures high)

pub visit_state-bounds-list-k : goal.visit_state-bounds-list-k
visit_state-bounds-list-k g t c =
    let high = (g.met.G.Guide.along c.args.guide.now).formed.states_high in
    list_inside c.requires.0 _ c.requires.1 c.requires.2 _ c.visit_outcomes-k.ensures high

pub visit_state-overflow_add-result : goal.visit_state-overflow_add-result
visit_state-overflow_add-result g t c =
    let high = (g.met.G.Guide.along c.args.guide.now).formed.states_high in
    omega (arith, list_inside c.requires.0 _ c.requires.1 c.requires.2 _ c.visit_outcomes-k.ensures high)

pub visit_state-returns : goal.visit_state-returns
visit_state-returns g t c =
    let along = g.met.G.Guide.along c.args.guide.now in
    let said = rw c.file.ensures at c.no_goal.ensures in
    over_goal c.requires.0 _ c.requires.1 c.requires.2 along.among c.outcomes-outcomes.ensures
    (not-false _ (sym said ∙ c.if-no_goal.false))

pub visit_state-returns-then-no_goal : goal.visit_state-returns-then-no_goal
visit_state-returns-then-no_goal g t c =
    let along = g.met.G.Guide.along c.args.guide.now in
    let said = rw c.file.ensures at c.no_goal.ensures in
    over_listed c.requires.0 _ c.requires.1 c.requires.2 _ c.visit_outcomes-k.ensures
    along.among c.outcomes-outcomes.ensures.led (not-true _ (sym said ∙ c.if-no_goal.true))
