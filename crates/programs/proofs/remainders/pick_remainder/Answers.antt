-- `pick_remainder` answers 0 where the pick is none of the rows, else what the row's division left, which is less than the total.
use Rattle.programs.proofs.Remaining.{none_left, row_left, remainder_fits}
use native.Mathlib.Omega.{arith}
use Rattle.programs.proofs.remainders.pick_remainder.Goals as goal

pub returns-then-rows-r : goal.returns-then-rows-r
returns-then-rows-r c = none_left _ _ _ (omega arith)

pub overflow_cast-result : goal.overflow_cast-result
overflow_cast-result c = omega (arith, remainder_fits _ c.args.problem.ready.total_known _ _ c.row_value.ensures.remainder)

pub returns : goal.returns
returns c = row_left _ _ _ (omega arith) c.row_value.ensures.remainder
