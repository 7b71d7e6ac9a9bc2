-- A row value is low, since the entries of the table are numbers of 32 bits.
use Rattle.model.specs.Value.{by_state}
use Rattle.auditing.proofs.Highs.{row_value_low}
use Rattle.auditing.proofs.searches.row_value.Goals as goal

pub returns-clause-low : goal.returns-clause-low
returns-clause-low c =
    rw c.row_value.ensures.value_value
    (row_value_low c.args.problem.formed (by_state c.args.values.now) (λ s. (c.type_inv.values s).fits) _ c.requires.1)
