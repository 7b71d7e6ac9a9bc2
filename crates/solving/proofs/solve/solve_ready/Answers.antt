-- `solve_ready` makes entries, all 0, for as many states as there can be.
use Rattle.std.proofs.Common.{arith}
use Rattle.model.specs.Limits.{max_states}
use Rattle.solving.proofs.Answering.{made_clear}
use Rattle.solving.proofs.solve.solve_ready.Goals as goal

pub solve_entered-requires : goal.solve_entered-requires
solve_entered-requires c =
    (c.requires, made_clear 256 (omega (arith, c.layout_of-l.ensures.states_are, c.if-l-le-FEW_STATES.true)))

pub solve_entered-requires-2 : goal.solve_entered-requires-2
solve_entered-requires-2 c = (c.requires, made_clear max_states c.args.problem.formed.states_high)
