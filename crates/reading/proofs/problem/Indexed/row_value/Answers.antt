-- `row_value` hands on the part of the file that the index gives to the row: it holds the row's outcomes.
use mathlib.Core.Path.{◌∙◌}
use Rattle.reading.proofs.RowValues.{row_stands, row_part_there, row_value_is, row_remainder_is}
use Rattle.reading.proofs.problem.Indexed.row_value.Goals as goal

pub part_value-requires : goal.part_value-requires
part_value-requires c =
    let ready = c.args.self.ready in
    let row = row_stands ready c.requires.0 c.requires.1 in
    (row_part_there row, rw c.total_of.ensures ready.total_known)

pub returns-clause-value_value : goal.returns-clause-value_value
returns-clause-value_value c =
    let row = row_stands c.args.self.ready c.requires.0 c.requires.1 in
    c.part_value.ensures.value_value ∙ rw c.total_of.ensures (row_value_is row _)

pub returns-clause-remainder : goal.returns-clause-remainder
returns-clause-remainder c =
    let row = row_stands c.args.self.ready c.requires.0 c.requires.1 in
    c.part_value.ensures.remainder ∙ rw c.total_of.ensures (row_remainder_is row _)
