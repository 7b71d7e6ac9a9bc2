-- What an entry of a table file is: a number of so many bytes. A table's entries are read as the numbers that they are.
use Rattle.std.specs.Prelude.{◌≡◌, ℕ, ◌*◌, ◌/◌, ◌<◌, List, length, get_or, set, refl}
use Rattle.std.proofs.Common.{arith}
use Rattle.std.proofs.lemmas.List.{get_or_default}
use Rattle.model.specs.Bytes.{u16_at, u32_at}
use Rattle.model.specs.Limits.{max_states}
use Rattle.model.specs.TableFiles.{list_to, entries16, entries32}

pub record EntryLaws
    {E : Type 0} (bytes room : ℕ) (number : E → ℕ) (numbers : List E → List ℕ) (number_at : List ℕ → ℕ → ℕ) (entries : List ℕ → List ℕ)
    : Type 0 where
  -- an entry has bytes, and there is room for those of a table of as many states as a file can have
  pub some : 0 < bytes
  pub room_for_all : room ≡ bytes * max_states
  -- the numbers of a table are those of its entries
  pub long : (table : List E) → length (numbers table) ≡ length table
  pub each : (table : List E) (i : ℕ) (x : E) → i < length table → get_or (numbers table) i 0 ≡ number (get_or table i x)
  pub stored : (table : List E) (i : ℕ) (x : E) → numbers (set table i x) ≡ set (numbers table) i (number x)
  -- the entries of a file stand one after the other, as many as fit whole
  pub are : (file : List ℕ) → entries file ≡ list_to (λ i. number_at file (bytes * i)) (length file / bytes)

-- an entry of the code's numbers is its own number, and a table of them its own numbers
abbrev pub own : ℕ → ℕ
own x = x

abbrev pub all : List ℕ → List ℕ
all table = table

-- room for the bytes of a table of values, and of one of picks
abbrev pub values_room : ℕ
values_room = 4 * max_states

abbrev pub picks_room : ℕ
picks_room = 2 * max_states

pub values_laws : EntryLaws 4 values_room own all u32_at entries32
unfolding entries32
values_laws =
    record {
      some = omega arith;
      room_for_all = refl;
      long = λ table. refl;
      each = λ table i x h. get_or_default table i 0 x h;
      stored = λ table i x. refl;
      are = λ file. refl;
    }

pub picks_laws : EntryLaws 2 picks_room own all u16_at entries16
unfolding entries16
picks_laws =
    record {
      some = omega arith;
      room_for_all = refl;
      long = λ table. refl;
      each = λ table i x h. get_or_default table i 0 x h;
      stored = λ table i x. refl;
      are = λ file. refl;
    }
