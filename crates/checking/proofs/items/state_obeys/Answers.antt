-- `state_obeys` answers whether a state obeys section 1. Each return rewrites the test with what led there.
use borrow.Author.Tests.{lt-leb, le-leb, ne_eqb}
use mathlib.Core.Path.{◌≡◌}
use mathlib.Core.Bool.{and-true, and-false}
use Prim.Native.Nat.{◌+◌, ◌≤◌, ◌<◌}
use lib.ListN.{get_or}
use Rattle.model.specs.Bytes.{u32_at}
use Rattle.model.specs.Questions.{state_obeys}
use native.Mathlib.Omega.{arith}
use Rattle.checking.proofs.items.state_obeys.Goals as goal

pub returns-then-limit-estimate : goal.returns-then-limit-estimate
unfolding state_obeys
returns-then-limit-estimate c =
    let h : c.args.limit < u32_at c.args.file.now c.args.i = omega arith in
    simp (lt-leb _ _ h, and-false)

pub returns-then-goal-eq0 : goal.returns-then-goal-eq0
unfolding state_obeys
returns-then-goal-eq0 c =
    let h : u32_at c.args.file.now c.args.i ≤ c.args.limit = omega arith in
    let g : get_or c.args.file.now (c.args.i + 5) 0 ≡ 0 = omega arith in
    simp (g, le-leb _ _ h)

pub returns-then-goal-ne1 : goal.returns-then-goal-ne1
unfolding state_obeys
returns-then-goal-ne1 c =
    let g : 1 < get_or c.args.file.now (c.args.i + 5) 0 = omega arith in
    simp (lt-leb _ _ g)

pub returns-then-byte_at-ne0 : goal.returns-then-byte_at-ne0
unfolding state_obeys
returns-then-byte_at-ne0 c =
    let g : get_or c.args.file.now (c.args.i + 5) 0 ≡ 1 = omega arith in
    let n : get_or c.args.file.now (c.args.i + 4) 0 ≡ 0 → ⊥ = omega arith in
    simp (g, ne_eqb _ _ n)

pub returns : goal.returns
unfolding state_obeys
returns c =
    let h : u32_at c.args.file.now c.args.i ≤ c.args.limit = omega arith in
    let g : get_or c.args.file.now (c.args.i + 5) 0 ≡ 1 = omega arith in
    let n : get_or c.args.file.now (c.args.i + 4) 0 ≡ 0 = omega arith in
    simp (g, n, le-leb _ _ h, and-true, c.u32_at-estimate.ensures.0)
