-- `state_at` answers where a state stands: after the settings and the states before it, and it lies in the file.
use Rattle.reading.proofs.Places.{settings_there, states_begin, state_there}
use native.Mathlib.Omega.{arith}
use Rattle.reading.proofs.states.state_at.Goals as goal

pub first_state-requires : goal.first_state-requires
first_state-requires c = omega (arith, settings_there _ c.requires.0)

pub overflow_mul-result : goal.overflow_mul-result
overflow_mul-result c = omega (arith, state_there _ c.requires.0 _ c.requires.1)

pub overflow_add-result : goal.overflow_add-result
overflow_add-result c = omega (arith, c.first_state.ensures, states_begin c.args.file.now, state_there _ c.requires.0 _ c.requires.1)

pub returns : goal.returns
returns c =
    let there = state_there _ c.requires.0 _ c.requires.1 in
    let begin = states_begin c.args.file.now in
    (omega (arith, c.first_state.ensures, begin), omega (arith, c.first_state.ensures, begin, there))
