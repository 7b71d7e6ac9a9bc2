-- `picked` considers the row picked before where there is one: its code tells its part.
use Rattle.backing.proofs.Scanning.{scannable_of, rowed_by_code, pick_none, pick_taken}
use mathlib.Core.Path.{refl}
use Rattle.backing.proofs.scan.Rows.picked.Goals as goal

pub returns-then-code-eq0 : goal.returns-then-code-eq0
returns-then-code-eq0 c = pick_none _ _ c.args.prev _ _ c.if-code-eq0.true

pub consider-requires : goal.consider-requires
consider-requires c = (
  rowed_by_code (scannable_of c.args.self c.requires.0) (c.requires.1 c.if-code-eq0.false).0 refl c.args.self.total_is (c.requires.1 c.if-code-eq0.false).1
      c.part_of.ensures.0 c.part_of.ensures.1,
  c.requires.2,
)

pub returns : goal.returns
returns c = pick_taken _ _ c.args.prev _ _ c.if-code-eq0.false c.consider.ensures
