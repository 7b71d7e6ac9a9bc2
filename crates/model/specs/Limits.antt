-- The numbers of documents 01 and 02, each under one name.
use Rattle.std.specs.Prelude.{ℕ, ◌+◌, ◌-◌, List, [], ◌∷◌}

-- "count 3", and since request E7 "Settings may have count 4"
abbrev pub min_settings : ℕ
min_settings = 3

abbrev pub max_settings : ℕ
max_settings = 4

-- how many states, rows and outcomes a file may have: an argument of what reads them
pub record Limits : Type 0 where
  pub states : ℕ
  pub rows : ℕ
  pub outcomes : ℕ

abbrev pub limits_of : ℕ → ℕ → ℕ → Limits
limits_of states rows outcomes = record { states = states; rows = rows; outcomes = outcomes }

-- Document 01: "count 1 to 1,024", "count 0 to 4,096", "count 0 to 8,192"
abbrev pub old_limits : Limits
old_limits = limits_of 1024 4096 8192

-- Request E9: "Deep sections need 2,048 states, 8,192 rows and 16,384 outcomes." These are in force
abbrev pub max_states : ℕ
max_states = 2048

abbrev pub max_rows : ℕ
max_rows = 8192

abbrev pub max_outcomes : ℕ
max_outcomes = 16384

abbrev pub in_force : Limits
in_force = limits_of max_states max_rows max_outcomes

-- "tolerance e in ticks, 1 to 999; penalty D in seconds, 1 to 400,000"
abbrev pub max_tolerance : ℕ
max_tolerance = 999

abbrev pub max_penalty : ℕ
max_penalty = 400000

-- "A tick is 1/1000 second."
abbrev pub ticks_per_second : ℕ
ticks_per_second = 1000

-- Request E7: "the weight total W: 100, 1,000, 4,096 or 10,000. With count 3, W is 1,000."
abbrev pub thousandths : ℕ
thousandths = 1000

abbrev pub max_total : ℕ
max_total = 10000

abbrev pub weight_totals : List ℕ
weight_totals = 100 ∷ thousandths ∷ 4096 ∷ max_total ∷ []

-- "Kind 0: c seconds, 1 to 65,535."
abbrev pub max_seconds : ℕ
max_seconds = 65535

-- "Kind 1: melt rate r in tenths of a millimetre per minute, 10 to 1,000, for a 1,000 mm stick"
abbrev pub min_rate : ℕ
min_rate = 10

abbrev pub max_rate : ℕ
max_rate = 1000

abbrev pub file_stick : ℕ
file_stick = 1000

-- "a sheet of 991 seconds, for rates 10 to 1,000"
abbrev pub rate_count : ℕ
rate_count = max_rate - min_rate + 1

-- "600 × length / rate": what a millimetre takes at rate 1
abbrev pub millimetre_seconds : ℕ
millimetre_seconds = 600

-- "the stick lengths 250, 500, 550 and 1,000 mm in turn"
abbrev pub stick_lengths : List ℕ
stick_lengths = 250 ∷ 500 ∷ 550 ∷ 1000 ∷ []

-- "row number, 65,535 giving up, 65,534 no pick, also at goals"; the walk list ends in 65,535s
abbrev pub give_up : ℕ
give_up = 65535

abbrev pub no_pick : ℕ
no_pick = 65534

abbrev pub list_end : ℕ
list_end = 65535

-- "Is the budget at most 2,000,000,000,000,000?"
abbrev pub max_budget : ℕ
max_budget = 2000000000000000

-- "The program `plan` .. runs up to 1,000,000 rounds."
abbrev pub plan_rounds : ℕ
plan_rounds = 1000000

-- E9: "`plan` holds 65,536 bytes; a file above that goes to the library."
abbrev pub plan_holds : ℕ
plan_holds = 65536

-- a number fits in 32 bits where it is below this
abbrev pub value_bound : ℕ
value_bound = 4294967296

-- "21 at a million moves or more or above 400,000,000,000 seconds"
abbrev pub max_moves : ℕ
max_moves = 1000000

abbrev pub max_spent : ℕ
max_spent = 400000000000
