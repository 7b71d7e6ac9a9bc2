-- `set_form_by` answers by the file's questions first.
use Rattle.std.proofs.Common.{refl, sym}
use Rattle.std.proofs.lemmas.Result.{err_from_is_err_and}
use Rattle.guarantee.specs.WellFormed.{well_formed}
use Rattle.exchanging.proofs.Replies.{file_refused}
use Rattle.exchanging.proofs.set_form_by.Goals as goal

pub returns-in_err-questions : goal.returns-in_err-questions
returns-in_err-questions c =
    let p = err_from_is_err_and c.from_residual.result c.from_residual.ensures.1 in
    rw (p.1, p.2) (file_refused _ _ (sym c.in_err-questions.ensures.verdict) refl)

pub invariant_of-write_form : goal.invariant_of-write_form
invariant_of-write_form c =
    record { ready = c.in_ok-questions.ensures.ready refl; formed = well_formed _ (sym c.in_ok-questions.ensures.verdict) }
