-- What an answer of the papers carries, zeros included.
use Rattle.std.specs.Prelude.{ℕ, ℤ, pos}
use Rattle.model.specs.declared.Counts.{Counts}
use Rattle.model.specs.declared.Follower.{Follower}

-- what an answer says: questions 1 to 11 all pass; "solved or spent"; "Accepted"; an opening or a report is done; a file is written;
-- "A no ends the call"
pub data Said : Type 0 where
  passed : Said
  solved : Said
  spent : Said
  accepted : Said
  done : Said
  written : Said
  refused : Said

-- the number of the question that said no, 0 for none, and its place; rounds done, evaluations and C; the excess; a length; the record of
-- a shift
pub record Carried : Type 0 where
  pub said : Said
  pub question : ℕ
  pub place : ℕ
  pub counts : Counts
  pub excess : ℤ
  pub size : ℕ
  pub shift : Follower

abbrev pub counts : ℕ → ℕ → ℕ → Counts
counts rounds evaluations least = record { rounds = rounds; evaluations = evaluations; least = least }

abbrev pub no_counts : Counts
no_counts = counts 0 0 0

abbrev no_shift : Follower
no_shift = record { state = 0; moves = 0; seconds = 0; mark = 0 }

-- no question, no place, no excess
abbrev carrying : Said → Counts → ℕ → Follower → Carried
carrying said counts size shift =
    record { said = said; question = 0; place = 0; counts = counts; excess = pos 0; size = size; shift = shift }

-- "The result carries solved or spent, rounds done, evaluations and C"
abbrev pub ended : Said → Counts → Carried
ended said counts = carrying said counts 0 no_shift

-- E2: "The melt-room screen should show where we are."
abbrev pub following : Follower → Carried
following w = carrying done no_counts 0 w

-- E6: "The call gives the set form's length."
abbrev pub sized : ℕ → Carried
sized size = carrying written no_counts size no_shift

-- "A no ends the call with the number and a place"; "A refusal carries 0 for all three counts."
abbrev pub refusal : ℕ → ℕ → ℤ → Carried
refusal question place excess =
    record { said = refused; question = question; place = place; counts = no_counts; excess = excess; size = 0; shift = no_shift }
