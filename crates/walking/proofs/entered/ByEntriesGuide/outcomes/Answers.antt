-- `outcomes` of the entries: the part that a state's code tells is where the graph of the entries leads.
use mathlib.Core.Path.{refl}
use Rattle.walking.specs.Parts.{told}
use Rattle.walking.proofs.entered.ByEntriesGuide.outcomes.Goals as goal

pub returns : goal.returns
returns c =
    let led = c.args.self.now.led in
    rw (c.part_of-part.ensures.0, c.part_of-part.ensures.1)
    (told (led.outcomes _ c.requires) refl (led.no_goal _ c.requires))
