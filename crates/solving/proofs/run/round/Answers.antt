-- `round` is the model's: the walk with the picks as they are, and the backups of its list. Where nothing moved the picks
-- are still those of the walk, so that the least over its list is C.
use Rattle.std.proofs.Common.{refl}
use Rattle.solving.proofs.Running.{runnable_led, walk_listed, round_room, round_done, quiet_costed, quiet_least}
use Rattle.solving.proofs.run.round.Goals as goal

pub walk_list-listed-requires : goal.walk_list-listed-requires
walk_list-listed-requires c = let h = c.requires.0 in (runnable_led h, h.list_long, h.fresh)

pub backups-b-requires : goal.backups-b-requires
backups-b-requires c =
    let h = c.requires.0 in
    let w = c.walk_list-listed.ensures in
    (record { sound = h.sound; kept = h.kept }, walk_listed h w, round_room h w _ _ c.requires.1)

pub returns-then-b : goal.returns-then-b
returns-then-b c =
    let b = c.backups-b.ensures in
    record {
      same = b.same;
      rounded = round_done c.requires.0 c.walk_list-listed.ensures _ _ _ refl (rw c.if-b.true at b.backed) b.turned b.kept tt;
    }

pub least_cost-least-requires : goal.least_cost-least-requires
least_cost-least-requires c =
    quiet_costed c.requires.0 c.walk_list-listed.ensures _ _ c.backups-b.ensures.backed c.if-b.false

pub returns : goal.returns
returns c =
    let h = c.requires.0 in
    let w = c.walk_list-listed.ensures in
    let b = c.backups-b.ensures in
    record {
      same = b.same;
      rounded =
          round_done h w _ _ _ refl (rw c.if-b.false at b.backed) b.turned b.kept
          (quiet_least h w _ _ b.backed c.if-b.false _ c.least_cost-least.ensures);
    }
