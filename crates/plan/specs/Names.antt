-- Names of files, as bytes, and what may be replaced there.
use Rattle.std.specs.Prelude.{◌≡◌, ℕ, ◌*◌, ◌≤◌, Bool, true, false, ◌||◌, List, eqb, length, Option, Some, None, Result, Ok, Err}
use Rattle.std.specs.Str.{bytes_eq}
use Rattle.model.specs.Limits.{max_states}
use Rattle.std.specs.declared.io.Error.{Error}

-- the longest name that is read, and two names of that length at most
abbrev pub name_most : ℕ
name_most = 4096

pub record Named (name name2 : List ℕ) : Type 0 where
  pub short : length name ≤ name_most
  pub short2 : length name2 ≤ name_most

abbrev pub same_name : List ℕ → List ℕ → Bool
same_name = bytes_eq

-- one of two tables would land on the other, or on the other's part file
abbrev pub clashing : List ℕ → List ℕ → List ℕ → List ℕ → Bool
clashing name part name2 part2 = same_name name name2 || (same_name name part2 || same_name part name2)

-- what stands under a name: nothing, a file of n bytes, or what cannot be looked into
abbrev pub There : Type 0
There = Result (Option ℕ) Error

-- a table of m bytes takes a name where nothing stands, or a file that is exactly as long
abbrev pub takes : There → ℕ → Bool
takes (Ok None) m = true
takes (Ok (Some n)) m = eqb n m
takes (Err e) m = false

-- and its part file may be removed where it is whole, or was not begun
abbrev pub clears : There → ℕ → Bool
clears (Ok None) m = true
clears (Ok (Some n)) m = eqb n 0 || eqb n m
clears (Err e) m = false

-- what is known of a file tells both of every table that a problem can have: whether the file is just as long, or empty
pub record Shows (f : List ℕ) (there : There) : Type 0 where
  pub takes_as_long : (m : ℕ) → m ≤ 4 * max_states → takes there m ≡ eqb (length f) m
  pub clears_as_long : (m : ℕ) → m ≤ 4 * max_states → clears there m ≡ (eqb (length f) 0 || eqb (length f) m)
