-- What a message adds to a stream of which the bytes are known.
use Rattle.std.specs.Prelude.{ℕ, List, ◌++◌, Option}
use Rattle.std.specs.Io.KnownBytes.{Appends}
use Rattle.model.specs.Lines.{codes}

-- some text, as what the system says of a failure
abbrev pub AppendsSome : Option (List ℕ) → Option (List ℕ) → Type 0
AppendsSome old new = (text : List ℕ) × Appends old new text

-- the end of a line: a text that is known, a reason, and a new line
abbrev pub AppendsReason : Option (List ℕ) → Option (List ℕ) → List ℕ → Type 0
AppendsReason old new front = (reason : List ℕ) × Appends old new ((front ++ reason) ++ codes "\n")
