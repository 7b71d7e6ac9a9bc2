-- A row's item puts kind 0, the number of outcomes and the seconds.
use Rattle.std.proofs.Common.{refl, arith, ◌∙◌, ap}
use Rattle.model.specs.Bytes.{number_bytes}
use Rattle.model.specs.Encoding.{row_bytes}
use Rattle.model.specs.SetForm.{in_set_form}
use Rattle.reading.specs.RowParts.{index_seconds}
use Rattle.writing.specs.Pages.{puts_same, puts_more, puts_byte, number_room}
use Rattle.exchanging.proofs.FormSections.{row_size}
use Rattle.exchanging.proofs.form.RowsSection.put_item.Goals as goal

pub put_number-requires : goal.put_number-requires
put_number-requires c = (omega arith, omega (arith, row_size c.args.self.now.form.problem.file.now c.args.r, c.requires.1))

pub put_number-requires-2 : goal.put_number-requires-2
put_number-requires-2 c = (omega arith, omega (arith, number_room 1 _ 3 c.put_number.ensures (rw (row_size c.args.self.now.form.problem.file.now c.args.r) at c.requires.1)))

pub put_number-requires-3 : goal.put_number-requires-3
put_number-requires-3 c = (omega arith, number_room 1 _ 2 c.put_number-2.ensures (number_room 1 _ 3 c.put_number.ensures (rw (row_size c.args.self.now.form.problem.file.now c.args.r) at c.requires.1)))

pub returns : goal.returns
unfolding row_bytes in_set_form
returns c =
    puts_more (puts_byte c.put_number.ensures (omega arith) refl)
    (puts_more (puts_byte c.put_number-2.ensures (omega (arith, c.from.ensures)) (c.from.ensures ∙ c.args.self.now.form.counted.holds c.args.r c.requires.0))
    (puts_same (ap (number_bytes 2) (c.seconds_of.ensures ∙ index_seconds c.args.self.now.form.problem.ready c.args.r c.requires.0)) c.put_number-3.ensures))
