-- `states_of` answers the number of states that the layout has, where the file was run.
use mathlib.Core.Path.{refl, ◌∙◌}
use Rattle.model.specs.Lines.{run_states}
use Rattle.programs.proofs.Planning.{ended_passes, ended_states}
use Rattle.programs.proofs.states_of.Goals as goal

pub layout_of-requires : goal.layout_of-requires
layout_of-requires c = ended_passes _ (rw c.in-Ok.is at c.requires)

pub returns-in-Ok : goal.returns-in-Ok
returns-in-Ok c = rw c.in-Ok.is (c.layout_of.ensures.states_are ∙ ended_states _ _)

pub returns-in-Err : goal.returns-in-Err
unfolding run_states
returns-in-Err c = rw c.in-Err.is refl
