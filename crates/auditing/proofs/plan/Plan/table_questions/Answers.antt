-- `table_questions` answers questions 16 and 17, and then those about the picks.
use mathlib.Core.Path.{◌∙◌}
use mir.Syntax.{w64}
use mir.ValLaws.{to_z-of_z}
use Rattle.auditing.proofs.Stops.{undercut_there, table_stop_16, table_stop_17, table_goes_on}
use native.Mathlib.Omega.{arith}
use Rattle.auditing.proofs.plan.Plan.table_questions.Goals as goal

pub returns-in-Some : goal.returns-in-Some
returns-in-Some c = c.refused.ensures ∙ table_stop_16 c.args.self c.in-Some.ensures

pub row_value-value-requires : goal.row_value-value-requires
row_value-value-requires c =
    let found = rw c.indexed-file.ensures.0 at c.in-Some-first_undercut.ensures in
    (omega (arith, c.args.self.states_are, c.args.self.values_long), undercut_there c.args.self found)

pub returns-in-Some-first_undercut : goal.returns-in-Some-first_undercut
returns-in-Some-first_undercut c =
    let found = rw c.indexed-file.ensures.0 at c.in-Some-first_undercut.ensures in
    let over = to_z-of_z w64 _ (record { sfits = c.excess-over.type_inv }) ∙ c.excess-over.ensures in
    c.refused-in-Some-first_undercut.ensures
    ∙ table_stop_17 c.args.self c.in_default.ensures found c.row_value-value.ensures.result_value over

pub returns : goal.returns
returns c =
    let none = rw c.indexed-file.ensures.0 at c.in_default-first_undercut.ensures in
    table_goes_on c.args.self c.in_default.ensures none c.pick_questions.ensures
