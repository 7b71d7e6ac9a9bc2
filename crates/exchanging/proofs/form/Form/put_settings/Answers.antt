-- `put_settings` puts the count and the settings one after the other: three, or four where the total is not 1,000.
use Rattle.std.proofs.Common.{arith, ap, sym, ◌∙◌}
use borrow.Author.Tests.{eqb-true, eqb-false}
use Rattle.model.specs.Bytes.{number_bytes}
use Rattle.guarantee.specs.Encodings.{setting_number_low}
use Rattle.writing.specs.Pages.{puts_same, puts_more, number_room}
use Rattle.exchanging.specs.FormAsks.{form_of}
use Rattle.exchanging.proofs.FormSections.{number_is, three_settings, four_settings, four_room}
use Rattle.exchanging.proofs.FormSections.{start_room, total_room}
use Rattle.exchanging.proofs.form.Form.put_settings.Goals as goal

pub put_number-requires : goal.put_number-requires
put_number-requires c = (omega arith, omega (arith, c.requires))

pub put_number-requires-2 : goal.put_number-requires-2
put_number-requires-2 c =
    let low = setting_number_low (form_of c.args.self.problem.file.now) in
    (omega arith, omega (arith, start_room _ _ c.requires low c.put_number.ensures))

pub put_number-requires-3 : goal.put_number-requires-3
put_number-requires-3 c =
    let low = setting_number_low (form_of c.args.self.problem.file.now) in
    (omega arith, omega (arith, number_room 4 _ 8 c.put_number-2.ensures (start_room _ _ c.requires low c.put_number.ensures)))

pub put_number-requires-4 : goal.put_number-requires-4
put_number-requires-4 c =
    let low = setting_number_low (form_of c.args.self.problem.file.now) in
    let room = number_room 4 _ 8 c.put_number-2.ensures (start_room _ _ c.requires low c.put_number.ensures) in
    (omega arith, number_room 4 _ 4 c.put_number-3.ensures room)

pub put_number-requires-5 : goal.put_number-requires-5
put_number-requires-5 c =
    let low = setting_number_low (form_of c.args.self.problem.file.now) in
    let four = four_room c.settings-settings.ensures (eqb-false _ _ (sym c.is_usual.ensures ∙ c.if-is_usual.false)) in (
      omega arith,
      total_room _ _ c.requires low c.put_number.ensures four _ _ _ c.put_number-2.ensures c.put_number-3.ensures
          c.put_number-4.ensures,
    )

pub returns-then-is_usual : goal.returns-then-is_usual
returns-then-is_usual c =
    let number = c.setting_number.ensures ∙ number_is _ c.settings-settings.ensures.total_is in
    puts_more (puts_same (ap (number_bytes 2) number) c.put_number.ensures)
    (puts_same (three_settings c.settings-settings.ensures (eqb-true _ _ (sym c.is_usual.ensures ∙ c.if-is_usual.true)))
    (puts_more c.put_number-2.ensures (puts_more c.put_number-3.ensures c.put_number-4.ensures)))

pub returns : goal.returns
returns c =
    let number = c.setting_number.ensures ∙ number_is _ c.settings-settings.ensures.total_is in
    puts_more (puts_same (ap (number_bytes 2) number) c.put_number.ensures)
    (puts_same (four_settings c.settings-settings.ensures (eqb-false _ _ (sym c.is_usual.ensures ∙ c.if-is_usual.false)))
    (puts_more c.put_number-2.ensures (puts_more c.put_number-3.ensures (puts_more c.put_number-4.ensures c.put_number-5.ensures))))
