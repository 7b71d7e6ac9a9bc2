-- `put` puts the four sections one after the other: together they are the set form.
use Rattle.std.proofs.Common.{ap, length, rules}
use Rattle.writing.specs.Pages.{puts_same}
use Rattle.exchanging.proofs.FormSections.{settings_room, states_room, rows_room, outcomes_room, outcomes_are, all_put, form_put}
use Rattle.exchanging.proofs.form.Form.put.Goals as goal

pub put_settings-requires : goal.put_settings-requires
put_settings-requires c =
    settings_room c.args.self.problem.file.now c.new-page.result c.new-page.ensures.value c.new-page.ensures.empty c.requires

pub put_section-requires : goal.put_section-requires
put_section-requires c =
    states_room c.args.self.problem.file.now c.new-page.result c.new-page.ensures.value c.new-page.ensures.empty c.requires c.put_settings.ensures

pub put_section-requires-2 : goal.put_section-requires-2
put_section-requires-2 c =
    rows_room c.args.self.problem.file.now c.new-page.result c.new-page.ensures.value c.new-page.ensures.empty c.requires c.put_settings.ensures
    c.put_section.ensures

pub put_section-requires-3 : goal.put_section-requires-3
put_section-requires-3 c =
    let f = c.args.self.problem.file.now in
    rw (ap length (outcomes_are f c.args.self.passed c.args.self.coded))
    (outcomes_room f c.new-page.result c.new-page.ensures.value c.new-page.ensures.empty c.requires c.put_settings.ensures c.put_section.ensures
    c.put_section-2.ensures)

pub returns : goal.returns
returns c =
    let f = c.args.self.problem.file.now in
    let outcomes = puts_same (outcomes_are f c.args.self.passed c.args.self.coded) c.put_section-3.ensures in
    let whole = all_put f c.new-page.result c.new-page.ensures.value c.new-page.ensures.empty c.requires c.put_settings.ensures c.put_section.ensures
    c.put_section-2.ensures outcomes in
    let h = form_put f c.new-page.result c.new-page.ensures.value c.new-page.ensures.empty c.requires c.put_settings.ensures c.put_section.ensures
    c.put_section-2.ensures outcomes in
    search (rules, h, whole.buffer)
