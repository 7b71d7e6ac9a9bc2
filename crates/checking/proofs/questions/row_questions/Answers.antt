-- `row_questions` answers questions 7 to 9 and fills in the index: each return hands over what the questions before it answered.
use Rattle.std.proofs.Common.{arith, sym}
use Rattle.std.proofs.lemmas.Result.{err_from_is_err_and}
use Rattle.guarantee.specs.Searches.{ask_each_yes}
use Rattle.checking.proofs.Asking.{seven_no, seven_yes, eight, nine_no, nine_yes, rows_stop_7, rows_stop_8, rows_stop_9, rows_pass}
use Rattle.checking.proofs.questions.row_questions.Goals as goal

pub returns-then-index_states-l : goal.returns-then-index_states-l
returns-then-index_states-l c =
    let n7 = seven_no c.requires.0 c.index_states.ensures.0 c.if-index_states-l.true in
    rw c.at.ensures (rows_stop_7 c.requires.0 _ c.index_states.ensures.1 n7)

pub returns-in_err-row_question : goal.returns-in_err-row_question
returns-in_err-row_question c =
    let p = err_from_is_err_and c.from_residual.result c.from_residual.ensures.1 in
    let y7 = seven_yes c.requires.0 c.index_states.ensures.0 c.if-index_states-l.false in
    rw (p.1, p.2) (rows_stop_8 c.requires.0 _ c.index_states.ensures.1 y7 (eight c.requires.0 c.in_err-row_question.ensures))

pub index_rows-requires : goal.index_rows-requires
index_rows-requires c = (
  omega arith,
  omega arith,
  omega (arith, c.requires.1, c.index_states.auto.index),
  omega arith,
  ask_each_yes 8 _ _ (sym c.in_ok-row_question.ensures),
)

pub returns-then-index_rows-l : goal.returns-then-index_rows-l
returns-then-index_rows-l c =
    let y7 = seven_yes c.requires.0 c.index_states.ensures.0 c.if-index_states-l.false in
    let y8 = eight c.requires.0 c.in_ok-row_question.ensures in
    let n9 = nine_no c.requires.0 c.index_rows.ensures.sum c.if-index_rows-l.true in
    rw c.at-then-index_rows-l.ensures (rows_stop_9 c.requires.0 _ c.index_states.ensures.1 c.index_rows.ensures y7 y8 n9)

pub returns : goal.returns
returns c =
    let y7 = seven_yes c.requires.0 c.index_states.ensures.0 c.if-index_states-l.false in
    let y8 = eight c.requires.0 c.in_ok-row_question.ensures in
    let y9 = nine_yes c.requires.0 c.index_rows.ensures.sum c.if-index_rows-l.false in
    rows_pass c.requires.0 _ c.index_states.ensures.1 c.index_rows.ensures y7 y8
    (λ i. omega (arith, c.shared_slice_known-1.given i)) c.requires.1 y9
