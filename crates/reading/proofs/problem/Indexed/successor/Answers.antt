-- `successor` reads the first two bytes of the outcome in the row's part: where it leads.
use mathlib.Core.Path.{◌≡◌, ◌∙◌, sym, ap}
use Prim.Native.Nat.{◌/◌}
use mathlib.Core.List.{map}
use lib.ListN.{get_or, length}
use Rattle.model.specs.Problem.{Outcome}
use Rattle.model.specs.Sections.{problem_of}
use Rattle.guarantee.specs.Parts.{outcomes_count, successor_at}
use native.Mathlib.Omega.{arith}
use Rattle.reading.proofs.problem.Indexed.successor.Goals as goal

pub returns : goal.returns
returns c =
    let counted : length ((problem_of c.args.self.file.now).outcomes c.args.r) ≡ length c.outcomes.result.now / 4 =
    sym (ap length c.outcomes.ensures.result_value) ∙ outcomes_count c.outcomes.result.now 0 _ in
    λ s. c.u16_at.ensures.0
    ∙ successor_at _ _ _ s (omega (arith, c.requires.1, counted))
    ∙ ap (λ os. get_or (map (λ (x : Outcome). x.successor) os) c.args.o s) c.outcomes.ensures.result_value
