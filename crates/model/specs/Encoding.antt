-- A problem's data as the bytes of a file: the four sections of document 01, written instead of read. "Costs become kind 0."
use Rattle.std.specs.Prelude.{ℕ, zero, suc, Bool, true, false, List, [], ◌∷◌, ◌++◌, eqb, length}
use Rattle.model.specs.Bytes.{number_bytes}
use Rattle.model.specs.Limits.{min_settings, max_settings, thousandths}
use Rattle.model.specs.Problem.{Problem, Outcome}
use Rattle.model.specs.Search.{sum_to}

-- g 0, g 1, .., g (k - 1), one after the other
unfoldable pub parts_to : (ℕ → List ℕ) → ℕ → List ℕ
parts_to g zero = []
parts_to g (suc k) = parts_to g k ++ g k

-- Request E7: "The set form writes count 3 if W is 1,000", and else W is the fourth setting
abbrev pub settings_on : Bool → ℕ
settings_on true = min_settings
settings_on false = max_settings

abbrev pub fourth_on : Bool → ℕ → List ℕ
fourth_on true total = []
fourth_on false total = number_bytes 4 total

unfoldable pub setting_number : Problem → ℕ
setting_number p = settings_on (eqb p.total thousandths)

-- "32 bits each: start state; tolerance e in ticks; penalty D in seconds"
unfoldable pub setting_bytes : Problem → List ℕ
setting_bytes p =
    number_bytes 4 p.start
    ++ (number_bytes 4 p.tolerance ++ (number_bytes 4 p.penalty ++ fourth_on (eqb p.total thousandths) p.total))

-- "goal byte (1 goal, 0 not)"
abbrev pub goal_byte : Bool → ℕ
goal_byte true = 1
goal_byte false = 0

-- "Each 6 bytes: estimate H in ticks (32 bits), number of rows (8 bits), goal byte"
unfoldable pub state_bytes : Problem → ℕ → List ℕ
state_bytes p s = number_bytes 4 (p.estimate s) ++ (p.row_count s ∷ goal_byte (p.goal s) ∷ [])

-- "Each 4 bytes: cost kind (8 bits), number of outcomes (8 bits, at least 1), cost number (16 bits). Kind 0: c seconds"
unfoldable pub row_bytes : Problem → ℕ → List ℕ
row_bytes p r = 0 ∷ length (p.outcomes r) ∷ number_bytes 2 (p.cost r)

-- "Each 4 bytes: successor state (16 bits), weight w (16 bits)"
unfoldable pub outcome_bytes : List Outcome → List ℕ
outcome_bytes [] = []
outcome_bytes (o ∷ os) = (number_bytes 2 o.successor ++ number_bytes 2 o.weight) ++ outcome_bytes os

-- how many outcomes the first k rows have
abbrev pub outcomes_to : Problem → ℕ → ℕ
outcomes_to p k = sum_to (λ r. length (p.outcomes r)) k

-- "Four sections in this order, each after its 16-bit count: settings, states, rows, outcomes."
unfoldable pub encode : Problem → List ℕ
encode p =
    (number_bytes 2 (setting_number p) ++ setting_bytes p)
    ++ ((number_bytes 2 p.states ++ parts_to (state_bytes p) p.states)
    ++ ((number_bytes 2 p.rows ++ parts_to (row_bytes p) p.rows)
    ++ (number_bytes 2 (outcomes_to p p.rows) ++ parts_to (λ r. outcome_bytes (p.outcomes r)) p.rows)))
