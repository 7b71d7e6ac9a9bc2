-- `row_obeys` answers whether a row obeys section 2. Each return rewrites the test with what led there.
use borrow.Author.Tests.{lt-leb, le-leb}
use mathlib.Core.Path.{◌≡◌}
use mathlib.Core.Bool.{and-true, and-false}
use Prim.Native.Nat.{◌+◌, ◌≤◌, ◌<◌}
use lib.ListN.{get_or}
use Rattle.model.specs.Bytes.{u16_at}
use Rattle.model.specs.Limits.{max_seconds, min_rate}
use Rattle.model.specs.Questions.{row_obeys, cost_obeys}
use native.Mathlib.Omega.{arith}
use Rattle.checking.proofs.items.row_obeys.Goals as goal

pub returns-then-byte_at-lt1 : goal.returns-then-byte_at-lt1
unfolding row_obeys
returns-then-byte_at-lt1 c =
    let n : get_or c.args.file.now (c.args.i + 1) 0 < 1 = omega arith in
    simp (lt-leb _ _ n, and-false)

pub returns-then-kind-eq0 : goal.returns-then-kind-eq0
unfolding row_obeys cost_obeys
returns-then-kind-eq0 c =
    let k : get_or c.args.file.now c.args.i 0 ≡ 0 = omega arith in
    let n : 1 ≤ get_or c.args.file.now (c.args.i + 1) 0 = omega arith in
    let h : u16_at c.args.file.now (c.args.i + 2) ≤ max_seconds = omega arith in
    simp (k, le-leb _ _ n, le-leb _ _ h, and-true, c.u16_at-number.ensures.0)

pub returns-then-kind-ne1 : goal.returns-then-kind-ne1
unfolding row_obeys
returns-then-kind-ne1 c =
    let k : 1 < get_or c.args.file.now c.args.i 0 = omega arith in
    simp (lt-leb _ _ k)

pub returns-then-number-lt-MIN_RATE : goal.returns-then-number-lt-MIN_RATE
unfolding row_obeys cost_obeys
returns-then-number-lt-MIN_RATE c =
    let k : get_or c.args.file.now c.args.i 0 ≡ 1 = omega arith in
    let n : 1 ≤ get_or c.args.file.now (c.args.i + 1) 0 = omega arith in
    let h : u16_at c.args.file.now (c.args.i + 2) < min_rate = omega arith in
    simp (k, le-leb _ _ n, lt-leb _ _ h)

pub returns : goal.returns
unfolding row_obeys cost_obeys
returns c =
    let k : get_or c.args.file.now c.args.i 0 ≡ 1 = omega arith in
    let n : 1 ≤ get_or c.args.file.now (c.args.i + 1) 0 = omega arith in
    let h : min_rate ≤ u16_at c.args.file.now (c.args.i + 2) = omega arith in
    simp (k, le-leb _ _ n, le-leb _ _ h, c.u16_at-number.ensures.0)
