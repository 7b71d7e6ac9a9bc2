-- A value's bytes are those of its number.
use Rattle.std.proofs.Common.{◌∙◌, arith}
use Rattle.model.specs.Bytes.{number_bytes}
use Rattle.writing.specs.Pages.{puts_same}
use Rattle.writing.specs.Putting.{low_bytes}
use Rattle.printing.proofs.table_files.U32Entry.put.Goals as goal

pub returns : goal.returns
unfolding number_bytes
returns c = puts_same (c.to_le_bytes.ensures ∙ low_bytes 4 c.args.self (omega arith)) c.put.ensures
