-- `put_section` puts the count, and then item after item.
use Rattle.std.specs.Prelude.{◌≡◌, refl, length}
use Rattle.std.proofs.Common.{sym, arith}
use Rattle.model.specs.Bytes.{number_bytes}
use Rattle.model.specs.Encoding.{parts_to}
use Rattle.guarantee.specs.ReadsBack.{number_length}
use Rattle.guarantee.specs.Standing.{parts_next}
use Rattle.writing.specs.Pages.{puts_nothing, puts_more, puts_same, puts_room, puts_rest, room_first}
use Rattle.exchanging.proofs.FormSections.{parts_room}
use Rattle.exchanging.proofs.sections.put_section.Goals as goal

pub put_number-requires : goal.put_number-requires
put_number-requires g c =
    let n = g.S.Section.number c.args.section.now in
    let first = room_first c.args.page.now (number_bytes 2 n) (parts_to (g.S.Section.text c.args.section.now) n) c.requires in
    (omega arith, rw (number_length 2 n) at first)

pub loop-i-init : goal.loop-i-init
unfolding parts_to
loop-i-init g c = puts_nothing _ refl

pub put_item-requires : goal.put_item-requires
put_item-requires g c =
    let n = g.S.Section.number c.args.section.now in
    let text = g.S.Section.text c.args.section.now in
    let rest = puts_rest (number_bytes 2 n) (parts_to text n) (rw c.count-n.ensures.0 at c.put_number.ensures) c.requires in
    let next = parts_room text c.loop-i.i n (omega (arith, c.count-n.ensures.0)) in (
      omega (arith, c.count-n.ensures.0),
      puts_room (length (text c.loop-i.i)) c.loop-i.invariant refl (omega (arith, rest, next)),
    )

pub loop-i-preserved : goal.loop-i-preserved
loop-i-preserved g c =
    puts_same (sym (parts_next (g.S.Section.text c.args.section.now) c.loop-i.i)) (puts_more c.loop-i.invariant c.put_item.ensures)

pub returns : goal.returns
returns g c =
    let all : c.loop-i.i ≡ g.S.Section.number c.args.section.now = omega (arith, c.count-n.ensures.0) in
    puts_more (rw c.count-n.ensures.0 at c.put_number.ensures) (rw all at c.loop-i.invariant)
