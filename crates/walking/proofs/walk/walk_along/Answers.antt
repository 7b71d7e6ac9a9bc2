-- `walk_along` makes the model's walk over the graph that leads it: clear marks are a walk under way, and what the visit of
-- the start leaves is the whole.
use Rattle.model.specs.Limits.{max_states}
use Rattle.guarantee.specs.Graphs.{clear_entry}
use Rattle.walking.proofs.Starts.{walk_under, walk_over}
use native.Mathlib.Omega.{arith}
use Rattle.walking.proofs.walk.walk_along.Goals as goal

pub visit_state-requires : goal.visit_state-requires
visit_state-requires g c =
    let along = g.met.G.Guide.along c.args.guide.now in
    let start = rw c.file.ensures at c.start_of.ensures in (
      rw c.requires.0 (walk_under _ along.formed _ c.requires.1),
      omega (arith, start, along.formed.start_state),
      rw c.requires.0 (clear_entry max_states c.start_of.result),
    )

pub returns : goal.returns
returns g c =
    let along = g.met.G.Guide.along c.args.guide.now in
    let start = rw c.file.ensures at c.start_of.ensures in
    walk_over _ along.formed _ c.requires.1 start (rw c.requires.0 at c.visit_state.ensures)
