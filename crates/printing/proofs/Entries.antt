-- Laws of table files: entries are put, and read, one after the other, each behind those before it.
-- A table is seen as its numbers, by the laws of its entries.
use mathlib.Core.Path.{◌≡◌, refl, sym, ◌∙◌, ap}
use Prim.Native.Nat.{ℕ, ◌+◌, ◌*◌, ◌/◌, ◌≤◌, ◌<◌, min}
use native.Mathlib.Omega.{arith}
use native.Mathlib.Numerals.{add-one}
use mathlib.Core.List.{List, [], ◌∷◌, ◌++◌}
use lib.ListN.{length, get_or, set, take, drop, take-append-drop}
use Rattle.std.proofs.Common.{take_all}
use Rattle.std.proofs.Math.Decide.{dec_le}
use Rattle.model.specs.Buffers.{Holds}
use Rattle.model.specs.Bytes.{number_bytes}
use Rattle.model.specs.TableFiles.{list_to, table_bytes}
use Rattle.guarantee.specs.ReadsBack.{list_front, bytes_next, bytes_length}
use Rattle.writing.specs.Putting.{Grown, one, grown_goes_on, grown_ends, grown_full}
use Rattle.printing.specs.Entries.{EntryLaws}

-- no entries, one more, and those that are left
module _ (g : ℕ → ℕ) where
  pub no_entries : list_to g 0 ≡ []
  unfolding list_to
  no_entries = refl

  entries_next : (k : ℕ) {x : ℕ} → x ≡ g k → list_to g (k + 1) ≡ list_to g k ++ (x ∷ [])
  unfolding list_to
  entries_next k is = rw (is, add-one k) refl

  entries_left : (k n : ℕ) → k ≤ n → list_to g n ≡ list_to g k ++ drop k (list_to g n)
  entries_left k n l = sym (take-append-drop k (list_to g n)) ∙ ap (λ t. t ++ drop k (list_to g n)) (list_front g k n l)

-- the first i entries of a file stand at the front of a table, and the rest of the table stays
abbrev pub ReadTo : (List ℕ → ℕ → ℕ) → ℕ → List ℕ → List ℕ → List ℕ → ℕ → Type 0
ReadTo number_at width file before table i = Grown (list_to (λ k. number_at file (width * k))) (length file / width) before 0 table i i

-- what holds of each type of entry
module _
    {E : Type 0} {width room : ℕ} {number : E → ℕ} {numbers : List E → List ℕ} {number_at : List ℕ → ℕ → ℕ} {entries : List ℕ → List ℕ}
    (laws : EntryLaws width room number numbers number_at entries)
  where
    -- the bytes of one entry more, of all, and how many they are
    pub bytes_more
        : (table : List E) (k : ℕ) {x : E} → k < length table → x ≡ get_or table k x
        → table_bytes width (take (k + 1) (numbers table)) ≡ table_bytes width (take k (numbers table)) ++ number_bytes width (number x)
    bytes_more table k {x} l is =
        bytes_next width (numbers table) k (omega (arith, laws.long table))
        ∙ ap (λ n. table_bytes width (take k (numbers table)) ++ number_bytes width n) (laws.each table k x l ∙ ap number (sym is))

    pub bytes_all
        : (table : List E) {k : ℕ} → length table ≤ k → table_bytes width (take k (numbers table)) ≡ table_bytes width (numbers table)
    bytes_all table {k} l = ap (table_bytes width) (take_all k (numbers table) (omega (arith, laws.long table)))

    pub bytes_most : (table : List E) → length (table_bytes width (numbers table)) ≡ width * length table
    bytes_most table = bytes_length width (numbers table) ∙ ap (λ n. width * n) (laws.long table)

    -- one entry more is read, and all that fit are
    pub read_more
        : (file : List ℕ) {before table : List E} (i : ℕ) {x : E} → i < length table → i < length file / width
        → number x ≡ number_at file (width * i) → ReadTo number_at width file (numbers before) (numbers table) i
        → ReadTo number_at width file (numbers before) (numbers (set table i x)) (i + 1)
    read_more file {before} {table} i {x} inside l is done =
        let entry = λ (k : ℕ). number_at file (width * k) in
        rw (laws.stored table i x)
        (grown_goes_on done (number x ∷ []) l (entries_next entry i is) (one (numbers table) i (number x) (omega (arith, laws.long table))))

    pub read_all
        : (file : List ℕ) {before table : List E} {n : ℕ} (i : ℕ) → n ≡ min (length table) (length file / width) → n ≡ i
        → ReadTo number_at width file (numbers before) (numbers table) i → Holds (numbers before) (numbers table) n (entries file)
    read_all file {before} {table} {n} i many e done = rw (laws.are file, e) (go (dec_le all i))
      where
        entry : ℕ → ℕ
        entry k = number_at file (width * k)

        all : ℕ
        all = length file / width

        go : Dec (all ≤ i) → Holds (numbers before) (numbers table) i (list_to entry all)
        go (yes l) = grown_ends done l
        go (no l) = grown_full done _ (entries_left entry i all done.there) (omega (arith, laws.long table))
