-- `weighted_sum` answers the weighted sum of a part's outcomes: what is summed and what is left add to the whole. Each product
-- is below 2 ^ 48, and a row has few outcomes.
use native.Mathlib.Nat.{add-zero}
use Prim.Native.Nat.{◌-◌, ◌+◌, ◌/◌}
use lib.ListN.{length}
use mathlib.Core.Path.{◌≡◌, ◌∙◌, ap, sym}
use Rattle.model.specs.Sections.{outcomes_from}
use Rattle.model.specs.Value.{weighted_sum, by_state}
use Rattle.guarantee.specs.Parts.{sum_goes_on, outcomes_end}
use native.Mathlib.Omega.{arith}
use Rattle.reading.proofs.value.weighted_sum.Goals as goal

pub loop-i-preserved : goal.loop-i-preserved
loop-i-preserved c =
    let part = c.args.part.now in
    let v = by_state c.args.values.now in
    let first = sum_goes_on part (length part / 4) c.loop-i.i (omega arith) v in
    let second = sum_goes_on part (length part / 4) (c.loop-i.i + 1) c.loop-i-test.true v in
    let two : c.loop-i.i + 1 + 1 ≡ c.loop-i.i + 2 = omega arith in
    let rest = ap (λ j. weighted_sum (outcomes_from part j (length part / 4 - j)) v) two in
    (omega arith, omega arith, omega (arith, first, second, rest))

pub returns-then-i-count : goal.returns-then-i-count
unfolding weighted_sum
returns-then-i-count c =
    let part = c.args.part.now in
    let last = sum_goes_on part (length part / 4) c.loop-i.i c.if-i-count.true (by_state c.args.values.now) in
    let e = outcomes_end part _ _ c.loop-i-test.false in
    record { value = sym (c.loop-i.invariant.2 ∙ simp (last, e, add-zero, c.weighted-sum.ensures.value)); bounded = omega (arith, c.requires.few) }

pub returns-else-i-count : goal.returns-else-i-count
unfolding weighted_sum
returns-else-i-count c =
    let e = outcomes_end c.args.part.now _ _ c.if-i-count.false in
    record { value = sym (c.loop-i.invariant.2 ∙ simp (e, add-zero)); bounded = omega (arith, c.requires.few) }
