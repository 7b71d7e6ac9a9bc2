-- `backup` is the model's: its scan, the pick stored, and the value raised by the model's test.
use mathlib.Core.Path.{refl}
use Rattle.backing.proofs.BackingUp.{backup_done}
use Rattle.backing.proofs.Memory.backup.Goals as goal

pub returns-clause-backed : goal.returns-clause-backed
returns-clause-backed c l = backup_done _ _ _ _ l c.scan-found.ensures.done c.raise-rose.ensures.0 c.raise-rose.ensures.1 refl refl
