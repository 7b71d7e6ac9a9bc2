-- `undercuts` compares the row value where the cost alone does not tell: a row's value is at least its cost.
use mathlib.Core.Path.{sym}
use Rattle.model.specs.Value.{by_state}
use Rattle.reading.proofs.RowValues.{row_stands, cost_passes}
use Rattle.reading.proofs.problem.Indexed.undercuts.Goals as goal

pub returns-then-value-cost : goal.returns-then-value-cost
returns-then-value-cost c =
    let row = row_stands c.args.self.ready c.requires.0 c.requires.1 in
    sym (cost_passes row (by_state c.args.values.now) _ c.if-value-cost.true)
