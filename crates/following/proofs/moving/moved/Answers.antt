-- `moved` answers the record after a move: the state gave up, or its picked row was taken.
use Rattle.following.proofs.Moves.{moves_room, seconds_room, picked, row_there, outcome_there}
use Rattle.following.proofs.Moves.{gave_up_moved, went_moved}
use native.Mathlib.Omega.{arith}
use Rattle.following.proofs.moving.moved.Goals as goal

pub overflow_add-moves : goal.overflow_add-moves
overflow_add-moves c = omega (arith, moves_room c.args.plan c.args.w c.args.outcome c.requires)

pub offset_bounds-plan-w : goal.offset_bounds-plan-w
offset_bounds-plan-w c = omega (arith, (picked c.args.plan c.args.w c.args.outcome c.requires).1)

pub bounds-plan-w : goal.bounds-plan-w
bounds-plan-w c = (picked c.args.plan c.args.w c.args.outcome c.requires).0

pub overflow_add-result : goal.overflow_add-result
overflow_add-result c = omega (arith, seconds_room c.args.plan c.args.w c.args.outcome c.requires)

pub successor-requires : goal.successor-requires
successor-requires c =
    let row = row_there c.args.plan c.args.w c.args.outcome c.requires c.in-Row.ensures in
    let outcome = outcome_there c.args.plan c.args.w c.args.outcome c.requires c.in-Row.ensures in
    rw c.indexed.ensures.0 (row, outcome)

pub seconds_of-requires : goal.seconds_of-requires
seconds_of-requires c =
    let row = row_there c.args.plan c.args.w c.args.outcome c.requires c.in-Row.ensures in
    omega (arith, row, c.args.plan.problem.ready.indexed.size)

pub overflow_add-result-in-Row : goal.overflow_add-result-in-Row
overflow_add-result-in-Row c = omega (arith, seconds_room c.args.plan c.args.w c.args.outcome c.requires)

pub returns-in-GiveUp : goal.returns-in-GiveUp
returns-in-GiveUp c =
    gave_up_moved c.args.plan c.args.w c.args.outcome c.requires c.in-GiveUp.ensures c.settings.ensures.penalty_is

pub returns-in-Row : goal.returns-in-Row
returns-in-Row c =
    let leads = rw c.indexed.ensures.0 at c.successor.ensures in
    went_moved c.args.plan c.args.w c.args.outcome c.requires c.in-Row.ensures leads c.seconds_of.ensures
