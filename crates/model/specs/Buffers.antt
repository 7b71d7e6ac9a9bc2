-- What a lent buffer or table holds once something was put at its front, entries beyond it included.
use Rattle.std.specs.Prelude.{◌≡◌, ℕ, ◌+◌, ◌*◌, ◌≤◌, List, ◌++◌, length, take, drop}
use Rattle.model.specs.Limits.{max_states}
use Rattle.model.specs.Questions.{Verdict, passes, fails}

-- "at the front .. as far as it fits", and the rest stays: 1, 2 put on 7, 8, 9 is 1, 2, 9
abbrev pub copied : {A : Type 0} → List A → List A → List A
copied from to = take (length to) from ++ drop (length from) to

-- Writing a file to a lent output: the length of what is written, or the question that said no; and the output as it is left
pub data Wrote : Type 0 where
  written : (size : ℕ) → Wrote
  refused : (question place : ℕ) → Wrote

pub record Writing : Type 0 where
  pub answer : Wrote
  pub left : List ℕ

-- "Output bytes beyond it stay", and after a no the "output unchanged": 1, 2 written on 7, 8, 9 answers 2 and leaves 1, 2, 9
abbrev pub writing_on : Verdict → List ℕ → List ℕ → Writing
writing_on passes file out = record { answer = written (length file); left = copied file out }
writing_on (fails q i) file out = record { answer = refused q i; left = out }

-- a text was put at the front of a buffer: its first n entries are the text, cut where the buffer ends, and all others are as before
pub record Holds (before after : List ℕ) (n : ℕ) (text : List ℕ) : Type 0 where
  pub long : length after ≡ length before
  pub within : n ≤ length after
  pub front : take n after ≡ take (length after) text
  pub rest : drop n after ≡ drop n before

-- the first n bytes of a buffer were read of an input: they are all of it, or, where the buffer is full, as much as there is room for
abbrev pub ReadOf : List ℕ → List ℕ → ℕ → Type 0
ReadOf input buffer n = take (length buffer) input ≡ take n buffer

-- room for the longest first line of `plan` and line of `audit`, and for the longest line of a state, whose number has at most 4 digits
-- and whose remainder at most 4
abbrev pub line_most : ℕ
line_most = 73

abbrev pub state_most : ℕ
state_most = 27

-- room for the text of every plan
abbrev pub plan_room : ℕ
plan_room = line_most + state_most * max_states
