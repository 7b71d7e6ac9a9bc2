-- The file: "Four sections in this order, each after its 16-bit count", and the problem that its bytes say.
use Rattle.std.specs.Prelude.{ℕ, zero, suc, ◌+◌, ◌-◌, ◌*◌, ◌/◌, Bool, true, false, List, [], ◌∷◌, ◌++◌, eqb, get_or, take, drop}
use Rattle.model.specs.Bytes.{u16_at, u32_at, number_bytes}
use Rattle.model.specs.Limits.{min_settings, thousandths, millimetre_seconds, file_stick}
use Rattle.model.specs.Problem.{Problem, Outcome}
use Rattle.model.specs.Search.{sum_to}

-- where a section ends whose count stands at byte i and whose items have `size` bytes
abbrev pub section_end : ℕ → List ℕ → ℕ → ℕ
section_end size f i = i + 2 + size * u16_at f i

-- where the counts of sections 1, 2 and 3 stand, and where section 3 ends
unfoldable pub states_at : List ℕ → ℕ
states_at f = section_end 4 f 0

unfoldable pub rows_at : List ℕ → ℕ
rows_at f = section_end 6 f (states_at f)

unfoldable pub outcomes_at : List ℕ → ℕ
outcomes_at f = section_end 4 f (rows_at f)

unfoldable pub file_end : List ℕ → ℕ
file_end f = section_end 4 f (outcomes_at f)

-- "32 bits each: start state; tolerance e in ticks; penalty D in seconds"
abbrev pub setting_at : ℕ → ℕ
setting_at k = 2 + 4 * k

abbrev pub setting_of : List ℕ → ℕ → ℕ
setting_of f k = u32_at f (setting_at k)

-- Request E7: "Settings may have count 4, the fourth being the weight total W .. With count 3, W is 1,000."
abbrev pub total_on : Bool → ℕ → ℕ
total_on true fourth = thousandths
total_on false fourth = fourth

abbrev pub total_of : List ℕ → ℕ
total_of f = total_on (eqb (u16_at f 0) min_settings) (setting_of f 3)

-- "Each 6 bytes: estimate H in ticks (32 bits), number of rows (8 bits), goal byte (1 goal, 0 not)."
abbrev pub state_at : List ℕ → ℕ → ℕ
state_at f s = states_at f + 2 + 6 * s

abbrev pub estimate_of : List ℕ → ℕ → ℕ
estimate_of f s = u32_at f (state_at f s)

abbrev pub row_count_of : List ℕ → ℕ → ℕ
row_count_of f s = get_or f (state_at f s + 4) 0

abbrev pub goal_byte_of : List ℕ → ℕ → ℕ
goal_byte_of f s = get_or f (state_at f s + 5) 0

-- "rows .., in state order": the first row of a state follows the rows of the states before it
abbrev pub first_row_of : List ℕ → ℕ → ℕ
first_row_of f s = sum_to (row_count_of f) s

-- "Each 4 bytes: cost kind (8 bits), number of outcomes (8 bits, at least 1), cost number (16 bits)."
abbrev pub row_at : List ℕ → ℕ → ℕ
row_at f r = rows_at f + 2 + 4 * r

abbrev pub kind_of : List ℕ → ℕ → ℕ
kind_of f r = get_or f (row_at f r) 0

abbrev pub outcome_count_of : List ℕ → ℕ → ℕ
outcome_count_of f r = get_or f (row_at f r + 1) 0

abbrev pub cost_number_of : List ℕ → ℕ → ℕ
cost_number_of f r = u16_at f (row_at f r + 2)

-- "600 × length / rate rounded up", the length in millimetres: 250 at rate 700 is 215
unfoldable pub length_seconds : ℕ → ℕ → ℕ
length_seconds mm r = (millimetre_seconds * mm + (r - 1)) / r

-- "for a 1,000 mm stick; c is 600,000 / r rounded up": 700 is 858
unfoldable pub rate_seconds : ℕ → ℕ
rate_seconds r = length_seconds file_stick r

-- "Kind 0: c seconds. Kind 1: melt rate r"
unfoldable pub seconds_on : Bool → ℕ → ℕ
seconds_on true n = n
seconds_on false n = rate_seconds n

abbrev pub seconds_of : List ℕ → ℕ → ℕ
seconds_of f r = seconds_on (eqb (kind_of f r) 0) (cost_number_of f r)

-- "outcomes .., in row order": where the first outcome of a row stands
abbrev pub first_outcome_of : List ℕ → ℕ → ℕ
first_outcome_of f r = sum_to (outcome_count_of f) r

abbrev pub outcome_at : List ℕ → ℕ → ℕ
outcome_at f r = outcomes_at f + 2 + 4 * first_outcome_of f r

-- "Each 4 bytes: successor state (16 bits), weight w (16 bits)": k outcomes from the i-th on of a part of the file
unfoldable pub outcomes_from : List ℕ → ℕ → ℕ → List Outcome
outcomes_from b i zero = []
outcomes_from b i (suc k) = record { successor = u16_at b (4 * i); weight = u16_at b (4 * i + 2) } ∷ outcomes_from b (suc i) k

-- "Each row's outcomes are passed along as a part that starts inside the file."
abbrev pub outcomes_of : List ℕ → ℕ → List Outcome
outcomes_of f r = outcomes_from (drop (outcome_at f r) f) 0 (outcome_count_of f r)

-- a file with e in the bytes of its tolerance
unfoldable pub at_tolerance : ℕ → List ℕ → List ℕ
at_tolerance e f = take (setting_at 1) f ++ (number_bytes 4 e ++ drop (setting_at 2) f)

unfoldable pub problem_of : List ℕ → Problem
problem_of f =
    record {
      start = setting_of f 0;
      tolerance = setting_of f 1;
      penalty = setting_of f 2;
      total = total_of f;
      states = u16_at f (states_at f);
      rows = u16_at f (rows_at f);
      goal = λ s. eqb (goal_byte_of f s) 1;
      estimate = estimate_of f;
      first_row = first_row_of f;
      row_count = row_count_of f;
      cost = seconds_of f;
      outcomes = outcomes_of f;
    }
