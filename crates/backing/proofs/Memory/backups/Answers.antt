-- `backups` goes along the walk list: the backups that are left give the same as all, and entries fit after each.
use Rattle.backing.proofs.BackingUp.{next_open, next_room, left_backed, all_backed, all_turned}
use Rattle.backing.proofs.Memory.backups.Goals as goal

pub backup-t-requires : goal.backup-t-requires
backup-t-requires c =
    let h = c.loop-s.invariant in
    let more = c.loop-s-test.true in
    (h.fitting, (next_open h more c.requires.1).state, next_room h more c.requires.2)

pub loop-s-preserved : goal.loop-s-preserved
loop-s-preserved c =
    let done = c.backup-t.ensures in
    left_backed c.loop-s.invariant c.loop-s-test.true c.requires.1 done.same (done.backed _) done.turned done.kept

pub returns-clause-backed : goal.returns-clause-backed
returns-clause-backed c = all_backed c.loop-s.invariant c.loop-s-test.false

pub returns-clause-turned : goal.returns-clause-turned
returns-clause-turned c = all_turned c.loop-s.invariant c.loop-s-test.false
