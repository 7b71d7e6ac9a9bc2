-- A pick's bytes are those of its number.
use Rattle.model.specs.Bytes.{number_bytes}
use Rattle.writing.specs.Pages.{puts_same}
use Rattle.printing.proofs.table_files.U16Entry.put.Goals as goal

pub returns : goal.returns
unfolding number_bytes
returns c = puts_same c.to_le_bytes.ensures c.put.ensures
