-- `item_questions` answers questions 4 to 11 in order: each return hands over what the questions before it answered.
use Rattle.std.proofs.Common.{◌∙◌, refl}
use Rattle.std.proofs.lemmas.Result.{err_from_is_err_and}
use Rattle.checking.proofs.Asking.{four, five, six, start_below, penalty_fits, total_fits}
use Rattle.checking.proofs.Asking.{items_stop_4, items_stop_5, items_stop_6, items_stop_rows, items_values, no_pass}
use Rattle.checking.proofs.questions.item_questions.Goals as goal

pub returns-in_err-setting_questions : goal.returns-in_err-setting_questions
returns-in_err-setting_questions c =
    let p = err_from_is_err_and c.from_residual.result c.from_residual.ensures.1 in
    rw (p.1, p.2) (items_stop_4 (four c.requires.0 c.settings_of-set.ensures c.in_err-setting_questions.ensures))

pub give_up_cost-requires : goal.give_up_cost-requires
give_up_cost-requires c = (c.requires.0.whole, penalty_fits c.requires.0 c.settings_of-set.ensures c.in_ok-setting_questions.ensures)

pub returns-in_err-state_question : goal.returns-in_err-state_question
returns-in_err-state_question c =
    let p = err_from_is_err_and c.from_residual-in_err-state_question.result c.from_residual-in_err-state_question.ensures.1 in
    let y4 = four c.requires.0 c.settings_of-set.ensures c.in_ok-setting_questions.ensures in
    let n5 = five c.requires.0 c.settings_of-set.ensures c.give_up_cost.ensures c.in_err-state_question.ensures in
    rw (p.1, p.2) (items_stop_5 y4 n5)

pub is_goal-requires : goal.is_goal-requires
is_goal-requires c = (c.requires.0.whole, start_below c.requires.0 c.settings_of-set.ensures c.in_ok-setting_questions.ensures)

pub returns-then-is_goal : goal.returns-then-is_goal
returns-then-is_goal c =
    let y4 = four c.requires.0 c.settings_of-set.ensures c.in_ok-setting_questions.ensures in
    let y5 = five c.requires.0 c.settings_of-set.ensures c.give_up_cost.ensures c.in_ok-state_question.ensures in
    let n6 = six c.requires.0 c.settings_of-set.ensures c.is_goal.ensures ∙ rw c.if-is_goal.true in
    rw c.at.ensures (items_stop_6 y4 y5 n6)

pub returns-in_err-row_questions : goal.returns-in_err-row_questions
returns-in_err-row_questions c =
    let p = err_from_is_err_and c.from_residual-in_err-row_questions.result c.from_residual-in_err-row_questions.ensures.1 in
    let y4 = four c.requires.0 c.settings_of-set.ensures c.in_ok-setting_questions.ensures in
    let y5 = five c.requires.0 c.settings_of-set.ensures c.give_up_cost.ensures c.in_ok-state_question.ensures in
    let y6 = six c.requires.0 c.settings_of-set.ensures c.is_goal.ensures ∙ rw c.if-is_goal.false in
    rw (p.1, p.2) (items_stop_rows y4 y5 y6 (no_pass _ _) c.in_err-row_questions.ensures)

pub value_questions-requires : goal.value_questions-requires
value_questions-requires c = record {
  laid = c.requires.0.laid;
  total_known = total_fits c.requires.0 c.settings_of-set.ensures c.in_ok-setting_questions.ensures;
  indexed = c.in_ok-row_questions.ensures.indexed refl;
}

pub returns : goal.returns
returns c =
    let y4 = four c.requires.0 c.settings_of-set.ensures c.in_ok-setting_questions.ensures in
    let y5 = five c.requires.0 c.settings_of-set.ensures c.give_up_cost.ensures c.in_ok-state_question.ensures in
    let y6 = six c.requires.0 c.settings_of-set.ensures c.is_goal.ensures ∙ rw c.if-is_goal.false in
    items_values y4 y5 y6 c.in_ok-row_questions.ensures c.value_questions.ensures
