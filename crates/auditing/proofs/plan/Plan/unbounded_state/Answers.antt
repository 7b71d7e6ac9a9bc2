-- `unbounded_state` answers the first state that fails.
use Rattle.std.proofs.Common.{rules, tests}
use Rattle.model.specs.Audit.{unbounded_state}
use Rattle.guarantee.specs.Finds.{first_found}
use Rattle.auditing.proofs.plan.Plan.unbounded_state.Goals as goal

pub returns : goal.returns
unfolding unbounded_state
returns c = first_found _ _ _ c.args.self.states_are c.find.ensures.ran (λ x b q k. search (rules, tests))
