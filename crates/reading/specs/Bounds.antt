-- How large the file's numbers can be: those of 8 and of 16 bits lie below these bounds, those of 32 below `value_bound`.
use Rattle.std.specs.Prelude.{ℕ, ◌*◌}

abbrev pub byte_bound : ℕ
byte_bound = 256

abbrev pub short_bound : ℕ
short_bound = byte_bound * byte_bound

-- the largest number of one byte: no state has more rows, and no row more outcomes
abbrev pub max_byte : ℕ
max_byte = 255
