-- The loop's invariant: what is left of the outcomes completes the whole. The measure is twice the number of unmarked
-- states, and one more for the outcomes.
use Rattle.std.proofs.Common.{◌≡◌, ◌+◌, ◌*◌}
use Rattle.std.specs.Slice.Iter.{chunks_exact_rest, chunks_exact_size}
use Rattle.walking.specs.Trails.{unmarked_states}
use Rattle.walking.proofs.Visits.{Looping}
use Rattle.walking.proofs.walk.+visit_outcomes_visit_state.Given as goal

abbrev pub decreases-visit_outcomes : goal.decreases-visit_outcomes
decreases-visit_outcomes g l = 2 * unmarked_states (g.G.Guide.bytes l.guide.now) l.marks.now + 1

abbrev pub decreases-visit_state : goal.decreases-visit_state
decreases-visit_state g l = 2 * unmarked_states (g.G.Guide.bytes l.guide.now) l.marks.now

abbrev pub invariant-visit_outcomes-loop-outcome : goal.invariant-visit_outcomes-loop-outcome
invariant-visit_outcomes-loop-outcome g l =
    let way = g.G.Guide in
    (chunks_exact_size l.outcome-iterator ≡ 4)
    × Looping (way.bytes l.guide) (way.graph l.guide) l.outcomes l.initial.marks l.initial.list l.n
    l.marks l.list l.k (chunks_exact_rest l.outcome-iterator)
