-- `solve` hands over what `solve_file` answers; that the run ends, passes the audit and, finished, is exact are laws of what it leaves.
use Rattle.std.proofs.Common.{rules}
use Rattle.model.specs.Answers.{solve_carries}
use Rattle.model.specs.Solution.{tables}
use Rattle.solving.proofs.Promising.{ends_solved, passes_audit, finishes}
use Rattle.solving.proofs.solve.solve.Goals as goal

pub returns-clause-ending : goal.returns-clause-ending
returns-clause-ending c =
    let a = c.args in
    ends_solved a.kind a.file.now a.budget (tables a.values.now a.picks.now a.remembered.now a.walk.now)
    {carried = solve_carries c.with_index.result} (search rules)

pub returns-clause-acceptance : goal.returns-clause-acceptance
returns-clause-acceptance c =
    let a = c.args in
    passes_audit a.kind a.file.now a.budget (tables a.values.now a.picks.now a.remembered.now a.walk.now)
    {carried = solve_carries c.with_index.result} (search rules) (search rules) (search rules)

pub returns-clause-exactness : goal.returns-clause-exactness
returns-clause-exactness c =
    let a = c.args in
    finishes a.kind a.file.now a.budget (tables a.values.now a.picks.now a.remembered.now a.walk.now)
    {carried = solve_carries c.with_index.result} (search rules) (search rules) (search rules)
