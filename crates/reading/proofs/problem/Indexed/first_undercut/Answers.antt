-- `first_undercut` answers the first state that a row of its own undercuts, and its first such row: in both loops what is left
-- of the search gives the same answer as the whole.
use mathlib.Core.Path.{◌∙◌, refl, sym}
use borrow.Author.Tests.{ltb-true, ltb-false}
use Rattle.guarantee.specs.Loops.{search_ends}
use Rattle.reading.specs.RowParts.{rows_begin, rows_end}
use Rattle.reading.proofs.RowValues.{last_row_high}
use Rattle.reading.proofs.UndercutLoops.{row_search_is, state_search_is}
use Rattle.reading.proofs.UndercutLoops.{row_passes, row_undercuts, state_passes, state_undercut}
use native.Mathlib.Omega.{arith}
use Rattle.reading.proofs.problem.Indexed.first_undercut.Goals as goal

pub states-init : goal.states-init
states-init c = (refl, state_search_is _ _ c.requires.0)

pub loop-r-init : goal.loop-r-init
loop-r-init c =
    let begin = rows_begin _ _ c.args.self.ready c.states.s (omega arith) in
    let end = rows_end _ _ c.args.self.ready c.states.s (omega arith) in
    (c.states.invariant.0, row_search_is _ _ _ begin end)

pub loop-r-preserved : goal.loop-r-preserved
loop-r-preserved c =
    let holds = ltb-false _ _ (sym c.undercuts.ensures ∙ c.if-undercuts.false) in
    (c.loop-r.invariant.0, c.loop-r.invariant.1 ∙ row_passes _ _ _ _ _ c.loop-r-test.true holds)

pub states-preserved : goal.states-preserved
states-preserved c =
    let begin = rows_begin _ _ c.args.self.ready c.states.s (omega arith) in
    let end = rows_end _ _ c.args.self.ready c.states.s (omega arith) in
    let none = c.loop-r.invariant.1 ∙ search_ends _ _ _ (omega (arith, begin, end)) c.loop-r-test.false in
    (c.loop-r.invariant.0, c.states.invariant.1 ∙ state_passes _ _ _ _ c.states-test.true end none)

pub returns-after-states : goal.returns-after-states
returns-after-states c =
    rw c.states.invariant.0
    (record {
      state_is = omega (arith, c.states.invariant.1 ∙ search_ends _ _ _ (omega arith) c.states-test.false);
      row_is = λ l. absurd (omega arith);
      no_row = λ l. refl;
      row_there = omega arith;
    })

pub returns-then-undercuts : goal.returns-then-undercuts
returns-then-undercuts c =
    let below = ltb-true _ _ (sym c.undercuts.ensures ∙ c.if-undercuts.true) in
    let row = c.loop-r.invariant.1 ∙ row_undercuts _ _ _ _ _ c.loop-r-test.true below in
    let end = rows_end _ _ c.args.self.ready c.states.s (omega arith) in (
      omega arith,
      record {
        state_is = sym (c.states.invariant.1 ∙ state_undercut _ _ _ _ c.states-test.true end row c.loop-r-test.true);
        row_is = λ _. sym row;
        no_row = λ l. absurd (omega arith);
        row_there = omega (arith, last_row_high c.args.self.ready c.states.s (omega arith));
      },
    )
