-- `may_occur` answers question 22: the state, its pick, the pick's outcomes.
use Rattle.following.proofs.Moves.{given_occurs, own_there, stray_occurs, own_occurs}
use Rattle.following.proofs.moving.may_occur.Goals as goal

pub returns-in-GiveUp : goal.returns-in-GiveUp
returns-in-GiveUp c = given_occurs c.args.plan _ c.if-s-plan.true c.in-GiveUp.ensures

pub outcome_count-requires : goal.outcome_count-requires
outcome_count-requires c =
    let yes = c.if-is_own.true in
    rw c.indexed.ensures.0 (own_there c.args.plan c.args.outcome c.if-s-plan.true c.in-Row.ensures c.is_own.ensures yes)

pub returns-then-is_own : goal.returns-then-is_own
returns-then-is_own c =
    own_occurs c.args.plan _ c.if-s-plan.true c.in-Row.ensures c.is_own.ensures c.if-is_own.true
    (rw c.indexed.ensures.0 at c.outcome_count.ensures)

pub returns-else-is_own : goal.returns-else-is_own
returns-else-is_own c = stray_occurs c.args.plan _ c.if-s-plan.true c.in-Row.ensures c.is_own.ensures c.if-is_own.false
