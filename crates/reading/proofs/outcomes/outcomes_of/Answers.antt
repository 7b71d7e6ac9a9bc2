-- `outcomes_of` answers the part of the file that the index gives to the row.
use Rattle.reading.specs.RowParts.{part_ordered, part_inside, part_holds}
use Rattle.reading.proofs.RowValues.{part_is, part_long}
use native.Mathlib.Omega.{arith}
use Rattle.reading.proofs.outcomes.outcomes_of.Goals as goal

pub slice_bounds-result-count : goal.slice_bounds-result-count
slice_bounds-result-count c =
    omega (arith, part_ordered c.requires.0.indexed _ c.requires.1, part_inside c.requires.0.indexed _ c.requires.1)

pub slice_bounds-result-start : goal.slice_bounds-result-start
slice_bounds-result-start c =
    omega (arith, part_ordered c.requires.0.indexed _ c.requires.1, part_inside c.requires.0.indexed _ c.requires.1)

pub slice_bounds-result-end : goal.slice_bounds-result-end
slice_bounds-result-end c =
    omega (arith, part_ordered c.requires.0.indexed _ c.requires.1, part_inside c.requires.0.indexed _ c.requires.1)

pub returns : goal.returns
returns c = let h = c.requires.0.indexed in record { result_value = part_holds h _ c.requires.1; bytes = (part_is h _ c.requires.1, part_long h _ c.requires.1) }
