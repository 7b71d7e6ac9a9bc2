-- `outcomes` of the picks: the outcomes of a state's picked row are where the graph of the picks leads, and none where the
-- row is not the state's own.
use mathlib.Core.Path.{sym, ◌∙◌}
use Rattle.walking.specs.Walkable.{problem_walkable}
use Rattle.walking.specs.PickedParts.{stray_told, own_there, own_told}
use Rattle.walking.proofs.picked.ByPicksGuide.outcomes.Goals as goal

pub returns-then-not-is_own : goal.returns-then-not-is_own
returns-then-not-is_own c =
    let by = c.args.self.now in
    stray_told (problem_walkable by.problem) _ c.requires by.picks.now (sym c.is_own.ensures ∙ c.if-not-is_own.true)

pub outcomes-requires : goal.outcomes-requires
outcomes-requires c =
    let by = c.args.self.now in
    let own = sym c.is_own.ensures ∙ c.if-not-is_own.false in
    rw c.indexed.ensures.0 (own_there (problem_walkable by.problem) _ c.requires by.picks.now own)

pub returns : goal.returns
returns c =
    let by = c.args.self.now in
    let own = sym c.is_own.ensures ∙ c.if-not-is_own.false in
    rw (c.outcomes.ensures.bytes.0, c.indexed.ensures.0)
    (own_told (problem_walkable by.problem) _ c.requires by.picks.now own)
