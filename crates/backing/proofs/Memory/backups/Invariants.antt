-- `backups` goes along the walk list: the backups that are left give the same as all, and entries fit after each.
use Rattle.backing.proofs.BackingUp.{BackLeft}
use Rattle.backing.proofs.Memory.backups.Given as goal

abbrev pub invariant-loop-s : goal.invariant-loop-s
invariant-loop-s l = BackLeft l.terms l.list l.initial.values l.initial.self l.initial.t l.values l.self l.t l.s-index
