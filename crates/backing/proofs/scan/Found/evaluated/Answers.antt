-- `evaluated` is the model's evaluation of a row whose value is q, whatever the rows remember. The test gives the model's case.
use mathlib.Core.Path.{refl, sym, ◌∙◌}
use Rattle.model.specs.Rounds.{evaluate_on}
use Rattle.backing.proofs.Scanning.{going_beats, going_picked}
use Rattle.backing.proofs.scan.Found.evaluated.Goals as goal

pub invariant_of-result : goal.invariant_of-result
invariant_of-result c = record { going = going_picked _ _ c.requires.0 }

pub returns-then-beats-clause-found : goal.returns-then-beats-clause-found
unfolding evaluate_on
returns-then-beats-clause-found c l = rw (going_beats _ _ c.args.self.going _ ∙ sym c.beats.ensures ∙ c.if-beats.true) refl

pub returns-clause-found : goal.returns-clause-found
unfolding evaluate_on
returns-clause-found c l = rw (going_beats _ _ c.args.self.going _ ∙ sym c.beats.ensures ∙ c.if-beats.false) refl
