-- Table files: "values as 32-bit and picks as 16-bit numbers, least byte first, one entry a state".
use Rattle.std.specs.Prelude.{ℕ, zero, suc, ◌*◌, ◌/◌, List, [], ◌∷◌, ◌++◌, length}
use Rattle.model.specs.Bytes.{u16_at, u32_at, number_bytes}

-- a table, so many bytes an entry
unfoldable pub table_bytes : ℕ → List ℕ → List ℕ
table_bytes width [] = []
table_bytes width (x ∷ xs) = number_bytes width x ++ table_bytes width xs

abbrev pub bytes16 : List ℕ → List ℕ
bytes16 = table_bytes 2

abbrev pub bytes32 : List ℕ → List ℕ
bytes32 = table_bytes 4

-- g 0, g 1, .., g (k - 1)
unfoldable pub list_to : (ℕ → ℕ) → ℕ → List ℕ
list_to g zero = []
list_to g (suc k) = list_to g k ++ (g k ∷ [])

-- "A table file whose length isn't a multiple of the entry has as many entries as fit whole."
unfoldable pub entries16 : List ℕ → List ℕ
entries16 b = list_to (λ i. u16_at b (2 * i)) (length b / 2)

unfoldable pub entries32 : List ℕ → List ℕ
entries32 b = list_to (λ i. u32_at b (4 * i)) (length b / 4)
