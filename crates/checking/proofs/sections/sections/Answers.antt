-- `sections` answers questions 1 to 3 in order: each return rewrites the chain with what the sections before it answered.
use Rattle.std.proofs.Common.{refl}
use Rattle.std.proofs.lemmas.Result.{err_from_is_err_and}
use borrow.Author.Tests.{eq-eqb, ne_eqb}
use Rattle.model.specs.Questions.{layout_questions_within, end_question}
use Rattle.model.specs.Sections.{states_at, rows_at, outcomes_at, file_end}
use Rattle.checking.proofs.sections.sections.Goals as goal

pub returns-in_err-states : goal.returns-in_err-states
unfolding layout_questions_within
returns-in_err-states c =
    let p = err_from_is_err_and c.from_residual.result c.from_residual.ensures.1 in
    rw (p.1, p.2, ← c.in_err-states.ensures.verdict) refl

pub returns-in_err-rows : goal.returns-in_err-rows
unfolding layout_questions_within states_at
returns-in_err-rows c =
    let p = err_from_is_err_and c.from_residual-in_err-rows.result c.from_residual-in_err-rows.ensures.1 in
    let a = c.in_ok-states.ensures in
    rw (p.1, p.2, ← a.verdict, ← a.ends.0, ← c.in_err-rows.ensures.verdict) refl

pub returns-in_err-outcomes : goal.returns-in_err-outcomes
unfolding layout_questions_within states_at rows_at
returns-in_err-outcomes c =
    let p = err_from_is_err_and c.from_residual-in_err-outcomes.result c.from_residual-in_err-outcomes.ensures.1 in
    let a = c.in_ok-states.ensures in
    let b = c.in_ok-rows.ensures in
    rw (p.1, p.2, ← a.verdict, ← a.ends.0, ← b.verdict, ← b.ends.0, ← c.in_err-outcomes.ensures.verdict) refl

pub returns-in_err-end : goal.returns-in_err-end
unfolding layout_questions_within states_at rows_at outcomes_at
returns-in_err-end c =
    let p = err_from_is_err_and c.from_residual-in_err-end.result c.from_residual-in_err-end.ensures.1 in
    let a = c.in_ok-states.ensures in
    let b = c.in_ok-rows.ensures in
    let d = c.in_ok-outcomes.ensures in
    rw (p.1, p.2, ← a.verdict, ← a.ends.0, ← b.verdict, ← b.ends.0, ← d.verdict, ← d.ends.0, ← c.in_err-end.ensures.verdict) refl

pub returns-then-end-file : goal.returns-then-end-file
unfolding layout_questions_within states_at rows_at outcomes_at end_question file_end
returns-then-end-file c =
    let a = c.in_ok-states.ensures in
    let b = c.in_ok-rows.ensures in
    let d = c.in_ok-outcomes.ensures in
    let e = c.in_ok-end.ensures in
    rw (
      ← a.verdict,
      ← a.ends.0,
      ← b.verdict,
      ← b.ends.0,
      ← d.verdict,
      ← d.ends.0,
      ← e.verdict,
      ← e.ends.0,
      ne_eqb _ _ c.if-end-file.true,
      c.at.ensures,
    ) refl

pub returns : goal.returns
unfolding layout_questions_within states_at rows_at outcomes_at end_question file_end
returns c =
    let a = c.in_ok-states.ensures in
    let b = c.in_ok-rows.ensures in
    let d = c.in_ok-outcomes.ensures in
    let e = c.in_ok-end.ensures in
    rw (
      ← a.verdict,
      ← a.ends.0,
      ← b.verdict,
      ← b.ends.0,
      ← d.verdict,
      ← d.ends.0,
      ← e.verdict,
      ← e.ends.0,
      eq-eqb _ _ c.if-end-file.false,
    ) refl
