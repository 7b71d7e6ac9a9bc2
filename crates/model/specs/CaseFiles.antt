-- The files and tables of the cases: file P of document 01 and its kin, small files for the requests, and what is computed of them.
use Rattle.std.specs.Prelude.{ℕ, ◌+◌, false, List, [], ◌∷◌, ◌++◌, set, replicate}
use Rattle.model.specs.Bytes.{number_bytes}
use Rattle.model.specs.Limits.{thousandths, plan_rounds}
use Rattle.model.specs.Problem.{Problem, Outcome}
use Rattle.model.specs.Value.{by_state, row_value, row_remainder}
use Rattle.model.specs.Sections.{at_tolerance, problem_of}
use Rattle.model.specs.Solution.{Tables, Solution, solution}
use Rattle.model.specs.declared.Follower.{Follower}
use Rattle.model.specs.declared.Kind.TheVariants.{Plain, Finishing}
use Rattle.model.specs.Lines.{codes, plan_text}

-- the parts of a small file, each with what follows it: settings with start 0, e 1 and D in two bytes; a state that is no goal,
-- H 0, with so many rows; a goal; a row of so many seconds with one outcome; an outcome of weight 1,000
abbrev pub settings : ℕ → ℕ → List ℕ → List ℕ
settings low high rest = 3 ∷ 0 ∷ 0 ∷ 0 ∷ 0 ∷ 0 ∷ 1 ∷ 0 ∷ 0 ∷ 0 ∷ low ∷ high ∷ 0 ∷ 0 ∷ rest

abbrev pub state : ℕ → List ℕ → List ℕ
state rows rest = 0 ∷ 0 ∷ 0 ∷ 0 ∷ rows ∷ 0 ∷ rest

abbrev pub goal : List ℕ → List ℕ
goal rest = 0 ∷ 0 ∷ 0 ∷ 0 ∷ 0 ∷ 1 ∷ rest

abbrev pub row : ℕ → List ℕ → List ℕ
row seconds rest = 0 ∷ 1 ∷ seconds ∷ 0 ∷ rest

abbrev pub to : ℕ → List ℕ → List ℕ
to s rest = s ∷ 0 ∷ 232 ∷ 3 ∷ rest

-- "File P: start 0, e 1, D 5,000, all H 0; states 0 (two rows), 1 (one row), 2 goal." 5,000 is 19 × 256 + 136
abbrev pub settings_p : List ℕ → List ℕ
settings_p rest = settings 136 19 rest

abbrev pub states_p : List ℕ → List ℕ
states_p rest = 3 ∷ 0 ∷ state 2 (state 1 (goal rest))

-- "Row 0: 100 s, to 1 weight 900, to 2 weight 100. Row 1: rate 1,000, to 2 weight 1,000. Row 2: 300 s, to 2 weight 1,000."
abbrev pub rows_p : List ℕ → List ℕ
rows_p rest = 3 ∷ 0 ∷ 0 ∷ 2 ∷ 100 ∷ 0 ∷ 1 ∷ 1 ∷ 232 ∷ 3 ∷ 0 ∷ 1 ∷ 44 ∷ 1 ∷ rest

abbrev pub outcomes_p : List ℕ
outcomes_p = 4 ∷ 0 ∷ 1 ∷ 0 ∷ 132 ∷ 3 ∷ 2 ∷ 0 ∷ 100 ∷ 0 ∷ 2 ∷ 0 ∷ 232 ∷ 3 ∷ 2 ∷ 0 ∷ 232 ∷ 3 ∷ []

abbrev pub file_p : List ℕ
file_p = settings_p (states_p (rows_p outcomes_p))

-- P with another 16-bit number at byte i
abbrev pub changed : ℕ → ℕ → ℕ → List ℕ
changed i low high = set (set file_p i low) (i + 1) high

-- P with its rate, its tolerance or the low 16 bits of H(0) changed; 100,000 is 1 × 65,536 + 134 × 256 + 160
abbrev pub rate_p : ℕ → ℕ → List ℕ
rate_p low high = changed 42 low high

abbrev pub tolerance_p : ℕ → ℕ → List ℕ
tolerance_p low high = changed 6 low high

abbrev pub estimate_p : ℕ → List ℕ
estimate_p low = set (changed 16 low 134) 18 1

-- "One state, no goal, no rows, e 1, D 1, H 0"
abbrev pub one_state : List ℕ
one_state = settings 1 0 (1 ∷ 0 ∷ state 0 (0 ∷ 0 ∷ 0 ∷ 0 ∷ []))

-- P with its penalty changed
abbrev pub penalty_p : ℕ → ℕ → List ℕ
penalty_p low high = changed 10 low high

-- D 100: state 0 has one row, or two, of 100 s to the goal
abbrev pub tied : List ℕ
tied = settings 100 0 (2 ∷ 0 ∷ state 1 (goal (1 ∷ 0 ∷ row 100 (1 ∷ 0 ∷ to 1 []))))

abbrev pub tied_twice : List ℕ
tied_twice = settings 100 0 (2 ∷ 0 ∷ state 2 (goal (2 ∷ 0 ∷ row 100 (row 100 (2 ∷ 0 ∷ to 1 (to 1 []))))))

-- D 200: from state 0 row 0, 200 s to the goal, or row 1, 100 s to state 1, whose row 2 is 100 s to the goal
abbrev pub tied_later : List ℕ
tied_later =
    settings 200 0
    (3 ∷ 0 ∷ state 2 (state 1 (goal (3 ∷ 0 ∷ row 200 (row 100 (row 100 (3 ∷ 0 ∷ to 2 (to 1 (to 2 [])))))))))

-- D 400,000, which is 6 × 65,536 + 26 × 256 + 128: the row of state 0, 65,535 s, leads to state 1, which has none
abbrev pub dearest : List ℕ
dearest = set (settings 128 26 (2 ∷ 0 ∷ state 1 (state 0 (1 ∷ 0 ∷ 0 ∷ 1 ∷ 255 ∷ 255 ∷ 1 ∷ 0 ∷ to 1 [])))) 12 6

-- D 5,000: the row of state 0, 1 s, leads back to it with weight 333 and to the goal with 667, 1 × 256 + 77 and 2 × 256 + 155
abbrev pub rounding : List ℕ
rounding =
    settings_p
    (2 ∷ 0 ∷ state 1 (goal (1 ∷ 0 ∷ 0 ∷ 2 ∷ 1 ∷ 0 ∷ 2 ∷ 0 ∷ 0 ∷ 0 ∷ 77 ∷ 1 ∷ 1 ∷ 0 ∷ 155 ∷ 2 ∷ [])))

-- E7: the same file with a fourth setting, the weight total, and other weights: back to state 0 and to the goal
abbrev pub clogs : ℕ → ℕ → ℕ → List ℕ
clogs total back on =
    4 ∷ 0 ∷ 0 ∷ 0 ∷ 0 ∷ 0 ∷ 1 ∷ 0 ∷ 0 ∷ 0 ∷ 136 ∷ 19 ∷ 0 ∷ 0
    ∷ (number_bytes 4 total
    ++ (2 ∷ 0 ∷ state 1 (goal
    (1 ∷ 0 ∷ 0 ∷ 2 ∷ 1 ∷ 0 ∷ 2 ∷ 0 ∷ 0 ∷ 0 ∷ (number_bytes 2 back ++ (1 ∷ 0 ∷ number_bytes 2 on))))))

-- P sent by a partner: row 0's outcomes in another order, its outcome to 1 in two parts of 400 and 500; row 1 by its seconds, 600; row 2's
-- outcome in two parts of 1 and 999
abbrev pub partner_p : List ℕ
partner_p =
    settings_p
    (states_p
    (3 ∷ 0 ∷ 0 ∷ 3 ∷ 100 ∷ 0 ∷ 0 ∷ 1 ∷ 88 ∷ 2 ∷ 0 ∷ 2 ∷ 44 ∷ 1
    ∷ 6 ∷ 0 ∷ 2 ∷ 0 ∷ 100 ∷ 0 ∷ 1 ∷ 0 ∷ 144 ∷ 1 ∷ 1 ∷ 0 ∷ 244 ∷ 1 ∷ 2 ∷ 0 ∷ 232 ∷ 3 ∷ 2 ∷ 0 ∷ 1 ∷ 0 ∷ 2 ∷ 0 ∷ 231 ∷ 3 ∷ []))

-- and the set form of both: row 1 has its seconds under kind 0
abbrev pub form_p : List ℕ
form_p = settings_p (states_p (3 ∷ 0 ∷ 0 ∷ 2 ∷ 100 ∷ 0 ∷ 0 ∷ 1 ∷ 88 ∷ 2 ∷ 0 ∷ 1 ∷ 44 ∷ 1 ∷ outcomes_p))

-- four lent tables of n entries, and what `plan` does with a file
abbrev pub lent : ℕ → Tables
lent n = record { values = replicate n 7; picks = replicate n 7; remembered = replicate n 7; walk_list = replicate n 7 }

abbrev pub planned : List ℕ → ℕ → Solution
planned f n = solution Plain f plan_rounds (lent n)

-- what it prints of a file with n states
abbrev pub printed : List ℕ → ℕ → List ℕ
printed f n = plan_text (problem_of f) (planned f n)

-- E8: the finishing run with some budget, and its text
abbrev pub finishing : List ℕ → ℕ → ℕ → Solution
finishing f budget n = solution Finishing f budget (lent n)

abbrev pub finished : List ℕ → ℕ → ℕ → List ℕ
finished f budget n = plan_text (problem_of f) (finishing f budget n)

-- `rounding` with e 100
abbrev pub coarse : List ℕ
coarse = at_tolerance 100 rounding

-- P's answer: "0 370000 0 0", "1 300000 2 0"; no pick at the goal
abbrev pub values_p : List ℕ
values_p = 370000 ∷ 300000 ∷ 0 ∷ []

abbrev pub picks_p : List ℕ
picks_p = 0 ∷ 2 ∷ 65534 ∷ []

-- the picks of P with D 100, whose start gives up: its values are 100,000
abbrev pub gives : List ℕ
gives = 65535 ∷ 65535 ∷ 65534 ∷ []

abbrev pub values_gives : List ℕ
values_gives = 100000 ∷ 100000 ∷ 0 ∷ []

-- a follower's record
abbrev pub at : ℕ → ℕ → ℕ → ℕ → Follower
at s moves seconds mark = record { state = s; moves = moves; seconds = seconds; mark = mark }

-- "It prints, whole"; since E3 "The lines of P become `0 370000 0 0` and `1 300000 2 0`"
abbrev pub text_p : List ℕ
text_p = codes "solved 3 5 100000\n0 370000 0 0\n1 300000 2 0\n"

-- two outcomes, with their weights
abbrev pub two : ℕ → ℕ → List Outcome
two a b = record { successor = 0; weight = a } ∷ record { successor = 1; weight = b } ∷ []

-- two states that are no goals, and a row that has these outcomes, of 1,000 in all, and costs nothing
abbrev pub row_with : List Outcome → Problem
row_with os =
    record {
      start = 0;
      tolerance = 1;
      penalty = 1;
      total = thousandths;
      states = 2;
      rows = 1;
      goal = λ s. false;
      estimate = λ s. 0;
      first_row = λ s. 0;
      row_count = λ s. 1;
      cost = λ r. 0;
      outcomes = λ r. os;
    }

-- what outcomes average to under a table: the value of that row
abbrev pub average_of : List Outcome → List ℕ → ℕ
average_of os table = row_value (row_with os) (by_state table) 0

-- and what the division leaves
abbrev pub remainder_of : List Outcome → List ℕ → ℕ
remainder_of os table = row_remainder (row_with os) (by_state table) 0

abbrev pub All : List (Type 0) → Type 0
All [] = Unit {0}
All (A ∷ As) = A × All As
