-- `put_number` stores the lowest bytes of the number, for which there is room.
use mathlib.Core.Path.{refl, ◌∙◌, ap}
use lib.ListN.{take}
use Rattle.model.specs.Bytes.{number_bytes}
use Rattle.guarantee.specs.ReadsBack.{number_length}
use Rattle.writing.specs.Putting.{stored, low_bytes}
use native.Mathlib.Omega.{arith}
use Rattle.writing.proofs.page.Page.put_number.Goals as goal

pub returns : goal.returns
returns g c =
    record {
      buffer = refl;
      held =
          stored _ _ _ _ (number_bytes g.row.N c.args.x) _ c.args.self.now.within (omega arith)
          (omega (arith, number_length g.row.N c.args.x, c.requires.1))
          (c.copy_from_slice.ensures.after ∙ ap (take g.row.N) c.to_le_bytes.ensures ∙ low_bytes g.row.N c.args.x c.requires.0);
    }
