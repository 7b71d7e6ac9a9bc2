-- `slack_state` answers the first state that fails.
use Rattle.std.proofs.Common.{rules, tests}
use Rattle.model.specs.Audit.{slack_state}
use Rattle.guarantee.specs.Finds.{first_found}
use Rattle.auditing.proofs.plan.Plan.slack_state.Goals as goal

pub returns : goal.returns
unfolding slack_state
returns c = first_found _ _ _ c.args.self.states_are c.find.ensures.ran (λ x b q k. search (rules, tests))
