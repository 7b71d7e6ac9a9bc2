-- `scan` is the model's: the row picked before first, by its code; then, unless that settles it, the others. What it leaves is entered.
use mathlib.Core.Path.{refl}
use native.Mathlib.Omega.{arith}
use Rattle.backing.proofs.Rescanning.{sound_fits, given_going, entry_coding, entry_there, rows_ordered, rows_inside}
use Rattle.backing.proofs.Rescanning.{pick_apart, start_room, taken_first, scan_settled, entering, scan_entered, others_room}
use Rattle.backing.proofs.Memory.scan.Goals as goal

pub invariant_of-rows : goal.invariant_of-rows
invariant_of-rows c =
    record { total_is = c.args.terms.total_is; long = c.requires.0.sound.values_length; fits = sound_fits c.args.terms.problem c.requires.0 }

pub invariant_of-start : goal.invariant_of-start
invariant_of-start c = record { going = given_going _ }

pub picked-a-requires : goal.picked-a-requires
picked-a-requires c =
    let t = c.args.terms in
    let h = c.requires.0 in
    (h.sound.remembered_length, entry_coding t h _ c.requires.1 0, start_room t h _ c.requires.1 _ c.requires.2)

pub returns-then-is_settled-clause-done : goal.returns-then-is_settled-clause-done
returns-then-is_settled-clause-done c =
    let t = c.args.terms in
    let h = c.requires.0 in
    scan_settled t h _ c.requires.1 _ (taken_first t h _ c.requires.1 _ c.picked-a.ensures) refl c.is_settled.ensures c.if-is_settled.true

pub others-b-requires : goal.others-b-requires
others-b-requires c =
    let t = c.args.terms in
    let h = c.requires.0 in (
      omega (arith, h.sound.remembered_length, c.picked-a.auto.remembered),
      rows_ordered t h _ c.requires.1 0,
      rows_inside t h _ c.requires.1 0,
      pick_apart t h _ c.requires.1 0,
      others_room t h _ c.requires.1 _ (taken_first t h _ c.requires.1 _ c.picked-a.ensures) c.requires.2,
    )

pub enter-requires : goal.enter-requires
enter-requires c =
    let t = c.args.terms in
    let h = c.requires.0 in (
      entering t h _ c.requires.1 _ (taken_first t h _ c.requires.1 _ c.picked-a.ensures) refl refl c.others-b.ensures,
      entry_there t h _ c.requires.1 0,
    )

pub returns-clause-done : goal.returns-clause-done
returns-clause-done c =
    let t = c.args.terms in
    let h = c.requires.0 in
    scan_entered t h _ c.requires.1 _ (taken_first t h _ c.requires.1 _ c.picked-a.ensures) refl refl c.others-b.ensures c.enter.ensures
