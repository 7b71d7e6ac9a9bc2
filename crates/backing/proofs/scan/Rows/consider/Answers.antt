-- `consider` is the model's: a row is skipped, or evaluated under the values as they are, and rest follows. The value fits.
use mathlib.Core.Path.{sym, ◌∙◌, ap}
use mathlib.Core.Bool.{not}
use borrow.Author.Tests.{ltb-false}
use Rattle.backing.proofs.Scanning.{going_beats, row_skipped, row_evaluated}
use Rattle.backing.proofs.scan.Rows.consider.Goals as goal

pub returns-then-not-beats : goal.returns-then-not-beats
returns-then-not-beats c =
    row_skipped _ _ _ _ _ c.args.a.going (ltb-false _ _ (sym c.beats.ensures ∙ c.if-not-beats.true)) c.min.ensures

pub returns : goal.returns
returns c =
    row_evaluated _ _ _ _ _ c.requires.0.there
    (ap not (going_beats _ _ c.args.a.going _ ∙ sym c.beats.ensures ∙ c.if-not-beats.false))
    (c.part_value-q.ensures.value_value ∙ c.requires.0.value) (c.evaluated.ensures.found c.args.remembered.now) c.evaluated.ensures.rest
