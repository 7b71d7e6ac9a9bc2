-- `questions` answers questions 1 to 11: the sections' answer, or that of the questions about the items.
use Rattle.std.proofs.lemmas.Result.{err_from_is_err_and}
use Rattle.checking.proofs.Asking.{file_stops, file_items, no_pass}
use Rattle.checking.proofs.questions.questions.Goals as goal

pub returns-in_err-sections : goal.returns-in_err-sections
returns-in_err-sections c =
    let p = err_from_is_err_and c.from_residual.result c.from_residual.ensures.1 in
    rw (p.1, p.2) (file_stops (no_pass _ _) c.in_err-sections.ensures)

pub returns : goal.returns
returns c = file_items c.in_ok-sections.ensures c.item_questions.ensures
