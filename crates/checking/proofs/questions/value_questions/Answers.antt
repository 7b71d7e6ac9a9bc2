-- `value_questions` answers question 10, and hands question 11 a table of its own, small or large.
use Rattle.std.proofs.Common.{arith}
use Rattle.std.proofs.lemmas.List.{length-replicate}
use Rattle.std.proofs.lemmas.Result.{err_from_is_err_and}
use Rattle.checking.proofs.Asking.{ten, values_stop_10, values_rest}
use Rattle.checking.proofs.Indexing.{index_ready, parts_there}
use Rattle.checking.proofs.questions.value_questions.Goals as goal

pub outcome_question-requires : goal.outcome_question-requires
outcome_question-requires c =
    let e = c.requires.laid.rows_are in
    (omega (arith, c.requires.indexed.size), omega (arith, c.requires.laid.rows_high), λ r l. parts_there c.requires.indexed r (rw (← e) l))

pub returns-in_err-outcome_question : goal.returns-in_err-outcome_question
returns-in_err-outcome_question c =
    let p = err_from_is_err_and c.from_residual.result c.from_residual.ensures.1 in
    rw (p.1, p.2) (values_stop_10 c.requires (ten c.requires c.total_of.ensures c.in_err-outcome_question.ensures))

pub invariant_of-indexed : goal.invariant_of-indexed
invariant_of-indexed c =
    let passed = ten c.requires c.total_of.ensures c.in_ok-outcome_question.ensures in
    record { ready = index_ready c.requires.indexed c.requires.total_known passed }

pub estimate_question-requires : goal.estimate_question-requires
estimate_question-requires c = (
  c.requires.laid.states_are,
  rw length-replicate c.if-states-le-SMALL_STATES.true,
  ten c.requires c.total_of.ensures c.in_ok-outcome_question.ensures,
)

pub returns-then-states-le-SMALL_STATES : goal.returns-then-states-le-SMALL_STATES
returns-then-states-le-SMALL_STATES c =
    values_rest c.requires (ten c.requires c.total_of.ensures c.in_ok-outcome_question.ensures) c.estimate_question.ensures

pub invariant_of-indexed-2 : goal.invariant_of-indexed-2
invariant_of-indexed-2 c =
    let passed = ten c.requires c.total_of.ensures c.in_ok-outcome_question.ensures in
    record { ready = index_ready c.requires.indexed c.requires.total_known passed }

pub estimate_question-requires-2 : goal.estimate_question-requires-2
estimate_question-requires-2 c = (
  c.requires.laid.states_are,
  rw length-replicate c.requires.laid.states_high,
  ten c.requires c.total_of.ensures c.in_ok-outcome_question.ensures,
)

pub returns : goal.returns
returns c =
    values_rest c.requires (ten c.requires c.total_of.ensures c.in_ok-outcome_question.ensures) c.estimate_question-2.ensures
