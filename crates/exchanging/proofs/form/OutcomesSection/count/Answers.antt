-- There are no more codes than outcomes that a file can have.
use Rattle.std.proofs.Common.{refl, arith}
use Rattle.exchanging.proofs.RowsGathered.{form_few}
use Rattle.exchanging.proofs.FormSections.{all_coded}
use Rattle.exchanging.proofs.form.OutcomesSection.count.Goals as goal

pub returns : goal.returns
returns c =
    let form = c.args.self.now.form in
    let f = form.problem.file.now in
    (refl, omega (arith, all_coded f form.passed form.coded, form_few f form.passed))
