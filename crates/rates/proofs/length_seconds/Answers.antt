-- `length_seconds` divides and rounds up, which the rule does by adding a number less than the rate.
use Rattle.std.proofs.Common.{◌≡◌, ℕ, ◌+◌, ◌-◌, ◌*◌, ◌/◌, ◌%◌, ◌≤◌, ap, ◌∙◌, arith}
use Rattle.std.proofs.Math.Decide.{dec_le}
use Rattle.std.proofs.lemmas.Nat.{div-mul-add, div-add-mod'}
use Rattle.std.specs.Int.{div_ceil}
use Rattle.model.specs.Sections.{length_seconds}
use Rattle.rates.proofs.length_seconds.Goals as goal

-- a quotient rounded up
rounded_up : (x r : ℕ) → 1 ≤ r → div_ceil x r ≡ (x + (r - 1)) / r
rounded_up x r h = go (dec_le 1 (x % r)) (div-add-mod' x r)
  where
    go : Dec (1 ≤ x % r) → x / r * r + x % r ≡ x → div_ceil x r ≡ (x + (r - 1)) / r
    go (yes l) e =
        let sum : x + (r - 1) ≡ (x / r + 1) * r + (x % r - 1) = grind arith in
        omega (arith, ap (λ n. n / r) sum ∙ div-mul-add (x / r + 1) r (x % r - 1) (omega arith))
    go (no l) e =
        let sum : x + (r - 1) ≡ x / r * r + (r - 1) = omega arith in
        omega (arith, ap (λ n. n / r) sum ∙ div-mul-add (x / r) r (r - 1) (omega arith))

pub returns : goal.returns
unfolding length_seconds
returns c = rw (c.from.ensures, c.into.ensures) at c.div_ceil.ensures ∙ rounded_up (600 * c.args.mm) c.args.rate c.requires
