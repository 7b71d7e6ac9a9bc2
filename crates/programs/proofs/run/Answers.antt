-- `run` solves the file and takes the remainders under what was left: the states of a run lie within the tables, and where there are
-- any the index is that of the file.
use native.Mathlib.Nat.{le_trans, le_of_eq}
use native.Mathlib.Omega.{arith}
use Rattle.guarantee.specs.Carries.{answer_known}
use Rattle.programs.proofs.Planning.{run_room, run_said}
use Rattle.programs.proofs.run.Goals as goal

pub remainders_of-remainders-requires : goal.remainders_of-remainders-requires
remainders_of-remainders-requires c =
    let room = run_room _ _ _ (answer_known c.solve_file-answer.result _ c.solve_file-answer.ensures.solved.leaves.answer) c.states_of-states.ensures in
    record {
      ready =
          λ some. c.solve_file-answer.ensures.solved.ready
          (run_said c.solve_file-answer.result _ (le_trans some (le_of_eq c.states_of-states.ensures)));
      values_long = λ some. omega (arith, room.states_room some);
      picks_long = omega (arith, room.picks_room);
      few = room.few;
    }
