-- `states_in` answers the number of states that the layout has, where the file passes.
use mathlib.Core.Path.{◌∙◌, sym, ap}
use Rattle.std.specs.Prelude.{Ok, Err}
use Rattle.model.specs.Questions.{file_questions_within, layout_questions}
use Rattle.model.specs.Sections.{problem_of}
use Rattle.guarantee.specs.Carries.{verdict_known}
use Rattle.guarantee.specs.Searches.{then_first}
use Rattle.programs.specs.Checked.{passed_states}
use Rattle.programs.proofs.checked.states_in.Goals as goal

pub layout_of-requires : goal.layout_of-requires
unfolding file_questions_within
layout_of-requires c = then_first (layout_questions c.args.file.now) _ (sym (verdict_known (Ok tt) _ c.in-Ok.ensures))

pub returns-in-Ok-clause-value : goal.returns-in-Ok-clause-value
unfolding passed_states
returns-in-Ok-clause-value c =
    c.layout_of.ensures.states_are
    ∙ ap (λ v. passed_states v (problem_of c.args.file.now).states) (verdict_known (Ok tt) _ c.in-Ok.ensures)

pub returns-in-Err-clause-value : goal.returns-in-Err-clause-value
unfolding passed_states
returns-in-Err-clause-value c =
    ap (λ v. passed_states v (problem_of c.args.file.now).states) (verdict_known (Err c.in-Err.field-0) _ c.in-Err.ensures)
