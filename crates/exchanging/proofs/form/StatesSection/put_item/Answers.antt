-- A state's item puts the estimate, the row number and the goal byte.
use Rattle.std.proofs.Common.{arith, ◌∙◌, ap}
use Rattle.model.specs.Bytes.{number_bytes}
use Rattle.model.specs.Encoding.{goal_byte, state_bytes}
use Rattle.model.specs.SetForm.{in_set_form}
use Rattle.writing.specs.Pages.{puts_same, puts_more, puts_byte, number_room}
use Rattle.exchanging.proofs.FormSections.{goal_is, goal_low, state_size}
use Rattle.exchanging.proofs.form.StatesSection.put_item.Goals as goal

pub put_number-requires : goal.put_number-requires
put_number-requires c = (omega arith, omega (arith, state_size c.args.self.now.form.problem.file.now c.args.s, c.requires.1))

pub put_number-requires-2 : goal.put_number-requires-2
put_number-requires-2 c = (omega arith, omega (arith, number_room 4 _ 2 c.put_number.ensures (rw (state_size c.args.self.now.form.problem.file.now c.args.s) at c.requires.1)))

pub put_number-requires-3 : goal.put_number-requires-3
put_number-requires-3 c = (omega arith, number_room 1 _ 1 c.put_number-2.ensures (number_room 4 _ 2 c.put_number.ensures (rw (state_size c.args.self.now.form.problem.file.now c.args.s) at c.requires.1)))

pub returns : goal.returns
unfolding state_bytes in_set_form
returns c =
    puts_more (puts_same (ap (number_bytes 4) c.estimate_of.ensures) c.put_number.ensures)
    (puts_more (puts_byte c.put_number-2.ensures c.row_count_of.ensures.1 c.row_count_of.ensures.0)
    (puts_byte c.put_number-3.ensures (goal_low _ c.from.ensures) (goal_is _ c.from.ensures ∙ ap goal_byte c.is_goal.ensures)))
