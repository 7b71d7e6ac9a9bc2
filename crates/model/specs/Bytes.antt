-- Numbers of the file: "Unsigned, least byte first."
use Rattle.std.specs.Prelude.{ℕ, zero, suc, ◌+◌, ◌*◌, ◌/◌, ◌%◌, List, [], ◌∷◌, get_or}

-- the 16-bit number that starts at byte i: 2, 1 is 258
unfoldable pub u16_at : List ℕ → ℕ → ℕ
u16_at f i = get_or f i 0 + 256 * get_or f (i + 1) 0

-- the 32-bit number that starts at byte i
unfoldable pub u32_at : List ℕ → ℕ → ℕ
u32_at f i = u16_at f i + 65536 * u16_at f (i + 2)

-- a number in so many bytes: 258 in two is 2, 1
unfoldable pub number_bytes : ℕ → ℕ → List ℕ
number_bytes zero x = []
number_bytes (suc width) x = x % 256 ∷ number_bytes width (x / 256)
