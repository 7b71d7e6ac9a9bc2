-- `outcomes_obey` answers question 10 of one row. What is left obeys exactly where all do, and the weights so far and those
-- left add to the sum of all.
use Rattle.std.proofs.Common.{◌≡◌, ◌∙◌, ◌≤◌, ◌<◌, ◌+◌, ◌*◌, ◌/◌, length, sym, true, false, arith}
use mathlib.Core.Bool.{and-false}
use borrow.Author.Tests.{le-ltb, lt-ltb}
use native.Mathlib.Nat.{add-zero}
use Rattle.model.specs.Bytes.{u16_at}
use Rattle.model.specs.Questions.{between, outcomes_obey}
use Rattle.model.specs.Value.{total_weight}
use Rattle.guarantee.specs.Searches.{and_not_left}
use Rattle.guarantee.specs.Parts.{obey_fails, obey_goes_on, weight_goes_on, outcomes_end}
use Rattle.checking.proofs.items.outcomes_obey.Goals as goal

pub returns-then-states-successor : goal.returns-then-states-successor
returns-then-states-successor c =
    let e : c.args.states ≤ u16_at c.args.part.now (4 * c.loop-i.i) = omega arith in
    sym (and_not_left _ (c.loop-i.invariant.1 ∙ obey_fails _ _ _ c.loop-i-test.true _ _ (simp (le-ltb _ _ e))))

pub returns-then-not-is_between : goal.returns-then-not-is_between
returns-then-not-is_between c =
    let e : between 1 c.args.total (u16_at c.args.part.now (4 * c.loop-i.i + 2)) ≡ false = cc in
    sym (and_not_left _ (c.loop-i.invariant.1 ∙ obey_fails _ _ _ c.loop-i-test.true _ _ (simp (e, and-false))))

pub loop-i-preserved : goal.loop-i-preserved
loop-i-preserved c =
    let a : u16_at c.args.part.now (4 * c.loop-i.i) < c.args.states = omega arith in
    let h : between 1 c.args.total (u16_at c.args.part.now (4 * c.loop-i.i + 2)) ≡ true = cc in (
      omega arith,
      c.loop-i.invariant.1 ∙ obey_goes_on _ _ _ c.loop-i-test.true _ _ (simp (lt-ltb _ _ a, h)),
      omega (arith, weight_goes_on c.args.part.now (length c.args.part.now / 4) c.loop-i.i c.loop-i-test.true),
    )

pub returns : goal.returns
unfolding outcomes_obey total_weight
returns c =
    let e = outcomes_end c.args.part.now _ _ c.loop-i-test.false in
    simp (c.loop-i.invariant.1, c.loop-i.invariant.2, e, add-zero)
