-- `put_signed` puts a minus sign before the distance from 0 of a number below 0.
use Rattle.std.proofs.Common.{◌≡◌, ℕ, true, ℤ, pos, negsuc, ◌++◌, refl, unsigned_abs, w64, arith}
use lib.Signed.{lt_z}
use borrow.Author.Tests.{ltb-true}
use mir.ValLaws.{to_z-of_z}
use Rattle.model.specs.Lines.{codes, decimal, blank_signed}
use Rattle.writing.specs.Pages.{puts_more, puts_same}
use Rattle.printing.proofs.decimals.put_signed.Goals as goal

below : (x : ℤ) (n : ℕ) → lt_z x (pos 0) ≡ true → n ≡ unsigned_abs x → codes " -" ++ decimal n ≡ blank_signed x
below (pos k) n t e = absurd (omega (arith, ltb-true k 0 t))
below (negsuc k) n t e = rw e refl

pub returns-then-x-lt0 : goal.returns-then-x-lt0
returns-then-x-lt0 c =
    let is = to_z-of_z w64 c.args.x c.ranges.x in
    let text = below c.args.x _ (rw is at c.if-x-lt0.true) (rw is at c.unsigned_abs.ensures.value) in
    puts_same text (puts_more c.put.ensures c.put_number.ensures)
