-- `put_refused` puts the word, the numbers and the excess, which the code holds as it is, and ends the line.
use Rattle.std.proofs.Common.{arith, w64, [], ◌∷◌}
use mir.Val.{SFits}
use mir.ValLaws.{to_z-of_z}
use Rattle.model.specs.Lines.{codes, blank_signed, audit_line}
use Rattle.writing.specs.Pages.{puts_more}
use Rattle.printing.specs.Texts.{numbered}
use Rattle.printing.proofs.Lengths.{three_most, signed_most}
use Rattle.printing.proofs.lines.put_refused.Goals as goal

pub returns : goal.returns
unfolding audit_line
returns g c =
    let r = g.R.Refused in
    let refusal = c.args.refusal in
    let numbers = rw (c.into.ensures, c.question.ensures, c.into-2.ensures, c.place.ensures) at c.put_numbers.ensures in
    let fits : SFits w64 c.excess.result = search in
    let excess = rw (to_z-of_z w64 c.excess.result fits, c.excess.ensures) at c.put_signed.ensures in
    let told = rw c.excess.ensures at (signed_most c.excess.result fits.sfits) in
    let front = numbered (codes "refused") (r.question_of refusal ∷ r.place_of refusal ∷ []) in
    record {
      puts = puts_more (puts_more numbers.puts excess) c.put.ensures;
      brief =
          omega (
            arith,
            three_most front (blank_signed (r.excess_of refusal)) (codes "\n") 49 22 1 numbers.brief told
                (omega arith),
          );
    }
