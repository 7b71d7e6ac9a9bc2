-- `write_form` answers by question 23, and then the form stands at the front.
use Rattle.std.proofs.Common.{refl, arith}
use Rattle.guarantee.specs.Encodings.{setting_number_high}
use Rattle.exchanging.specs.FormAsks.{form_of}
use Rattle.exchanging.proofs.FormSections.{form_size}
use Rattle.exchanging.proofs.RowsGathered.{coded_all, form_few}
use Rattle.exchanging.proofs.Replies.{too_short, form_written}
use Rattle.exchanging.proofs.write_form.Goals as goal

pub invariant_of-form : goal.invariant_of-form
invariant_of-form c =
    record {
      passed = c.requires;
      counted = c.gather_rows-outcomes.ensures.1;
      coded = coded_all c.args.problem.file.now c.requires c.gather_rows-outcomes.ensures.0;
    }

pub overflow_cast-result : goal.overflow_cast-result
overflow_cast-result c =
    let f = c.args.problem.file.now in
    let formed = c.args.problem.formed in
    omega (
      arith,
      c.len-length.ensures,
      form_size f,
      setting_number_high (form_of f),
      formed.states_high,
      formed.rows_high,
      form_few f c.requires,
    )

pub returns-then-out-length : goal.returns-then-out-length
returns-then-out-length c =
    rw c.at.ensures (too_short _ _ c.requires (omega (arith, c.len-length.ensures, c.if-out-length.true)) refl)

pub returns : goal.returns
returns c = form_written _ _ c.requires c.len-length.ensures c.if-out-length.false refl c.put.ensures
