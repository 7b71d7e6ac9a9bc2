-- `pick_questions` answers questions 18 and 19 of the states that the walk marked, and then the least cost.
use mathlib.Core.Path.{◌∙◌}
use mir.Syntax.{w64}
use mir.ValLaws.{to_z-of_z}
use Rattle.walking.specs.Walkable.{problem_walkable}
use Rattle.walking.specs.Walked.{walked_start, walked_least}
use Rattle.auditing.proofs.Picking.{fits_costed, slack_pick}
use Rattle.auditing.proofs.Stops.{pick_stop_19, pick_accept}
use Rattle.auditing.proofs.plan.Plan.pick_questions.Goals as goal

pub slack_state-requires : goal.slack_state-requires
slack_state-requires c = fits_costed c.args.self _ c.in_default.ensures

pub pick_value-value-requires : goal.pick_value-value-requires
pick_value-value-requires c =
    let found = c.in-Some-slack_state.ensures in
    slack_pick c.args.self _ (fits_costed c.args.self _ c.in_default.ensures) _ found.1 found.0

pub returns-in-Some-slack_state : goal.returns-in-Some-slack_state
returns-in-Some-slack_state c =
    let over = to_z-of_z w64 _ (record { sfits = c.excess-over.type_inv }) ∙ c.excess-over.ensures in
    c.refused-in-Some-slack_state.ensures
    ∙ pick_stop_19 c.args.self c.walk-walked.ensures.marks c.in_default.ensures c.in-Some-slack_state.ensures
    c.pick_value-value.ensures.result_value over

pub least_cost-requires : goal.least_cost-requires
least_cost-requires c =
    let start = walked_start (problem_walkable c.args.self.problem) c.args.self.picks.now c.walk-walked.ensures.marks in
    (fits_costed c.args.self _ c.in_default.ensures, c.args.self.states_are, start)

pub returns : goal.returns
returns c =
    let walked = c.walk-walked.ensures.marks in
    let least = walked_least (problem_walkable c.args.self.problem) c.args.self.picks.now walked in
    pick_accept c.args.self walked c.in_default.ensures c.in_default-slack_state.ensures
    (least _ _ c.args.self.states_are c.least_cost.ensures)
