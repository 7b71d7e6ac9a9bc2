-- An outcome's item puts its code, 4 bytes.
use Rattle.std.proofs.Common.{arith}
use Rattle.guarantee.specs.ReadsBack.{number_length}
use Rattle.exchanging.proofs.form.OutcomesSection.put_item.Goals as goal

pub put_number-requires : goal.put_number-requires
put_number-requires c = (omega arith, rw (number_length 4 _) at c.requires.1)
