-- What the programs print, as ASCII codes: the text of `plan`, and the line of `audit`.
use Rattle.std.specs.Prelude.{ℕ, zero, suc, ◌+◌, ◌/◌, ◌%◌, Bool, true, false, ◌||◌, List, [], ◌∷◌, ◌++◌, ltb, eqb, ℤ, pos, negsuc, get_or, take}
use Prim.Native.Char.{code}
use Prim.Native.String.{String, [] as no_text, ◌∷◌ as ◌before◌}
use Rattle.model.specs.Audit.{Audited, accepted}
use Rattle.model.specs.Limits.{give_up}
use Rattle.model.specs.Problem.{Problem}
use Rattle.model.specs.Solution.{Answer, solved, spent, refused, Solution}
use Rattle.model.specs.Value.{by_state, pick_remainder}

-- the codes of a text: those of "10" are 49, 48
abbrev pub codes : String → List ℕ
codes no_text = []
codes (c before text) = code c ∷ codes text

-- a number in decimal, with no zeros before it: a digit alone, or the digits of n / 10 and then the last one; 48 is `0`
abbrev pub decimal_on : Bool → ℕ → (ℕ → List ℕ) → List ℕ
decimal_on true n digits = (48 + n) ∷ []
decimal_on false n digits = digits (n / 10) ++ ((48 + n % 10) ∷ [])

unfoldable pub decimal_from : ℕ → ℕ → List ℕ
decimal_from zero n = []
decimal_from (suc fuel) n = decimal_on (ltb n 10) n (decimal_from fuel)

unfoldable pub decimal : ℕ → List ℕ
decimal n = decimal_from (suc n) n

-- a blank and a number
abbrev pub blank_number : ℕ → List ℕ
blank_number n = codes " " ++ decimal n

-- a blank and a signed number, with a minus sign where it is below 0: `negsuc n` is −(n + 1)
abbrev pub blank_signed : ℤ → List ℕ
blank_signed (pos n) = blank_number n
blank_signed (negsuc n) = codes " -" ++ decimal (suc n)

-- "`solved` rounds evaluations C, or `spent` rounds evaluations"; "A refusal prints `refused` number place."
unfoldable pub answer_line : Answer → List ℕ
answer_line (solved c) =
    codes "solved" ++ blank_number c.rounds ++ blank_number c.evaluations ++ blank_number c.least ++ codes "\n"
answer_line (spent c) = codes "spent" ++ blank_number c.rounds ++ blank_number c.evaluations ++ codes "\n"
answer_line (refused q i) = codes "refused" ++ blank_number q ++ blank_number i ++ codes "\n"

-- "row or `give`", after a blank
abbrev pub pick_on : Bool → ℕ → List ℕ
pick_on true r = codes " give"
pick_on false r = blank_number r

-- "state, value, row or `give`"; since E3 it "ends with the remainder"
unfoldable pub state_line : ℕ → ℕ → ℕ → ℕ → List ℕ
state_line s value pick remainder =
    decimal s ++ blank_number value ++ pick_on (eqb pick give_up) pick ++ blank_number remainder ++ codes "\n"

-- whether a state stands in a walk list
unfoldable pub listed : ℕ → List ℕ → Bool
listed s [] = false
listed s (t ∷ ts) = eqb t s || listed s ts

abbrev pub line_on : Bool → List ℕ → List ℕ
line_on true line = line
line_on false line = []

-- "for each state of the last walk, by state number": of the first k states
unfoldable pub state_lines : List ℕ → List ℕ → (ℕ → ℕ) → List ℕ → ℕ → List ℕ
state_lines values picks remainder walk zero = []
state_lines values picks remainder walk (suc k) =
    state_lines values picks remainder walk k
    ++ line_on (listed k walk) (state_line k (get_or values k 0) (get_or picks k 0) (remainder k))

-- how many states a run has of a file with n states: a refusal has no run
unfoldable pub run_states : Answer → ℕ → ℕ
run_states (solved counts) n = n
run_states (spent counts) n = n
run_states (refused q i) n = 0

-- an answer, and k states of a run with its tables, a remainder for each state, and its walk list
abbrev pub run_text : Answer → List ℕ → List ℕ → (ℕ → ℕ) → List ℕ → ℕ → List ℕ
run_text a values picks remainder walk k = answer_line a ++ state_lines values picks remainder walk k

-- "the remainder of its pick under the final values": of the pick at each state
abbrev pub remainders_of : Problem → List ℕ → List ℕ → ℕ → ℕ
remainders_of p values picks = λ s. pick_remainder p (by_state values) (get_or picks s 0)

-- what `plan` prints of a problem and its solution
unfoldable pub plan_text : Problem → Solution → List ℕ
plan_text p s =
    let k = run_states s.answer p.states in
    let t = s.tables in
    run_text s.answer t.values t.picks (remainders_of p t.values t.picks) (take k t.walk_list) k

-- what `audit` prints: `accepted` C, or `refused` number place excess
unfoldable pub audit_line : Audited → List ℕ
audit_line (accepted C) = codes "accepted" ++ blank_number C ++ codes "\n"
audit_line (Audited.refused q i excess) = codes "refused" ++ blank_number q ++ blank_number i ++ blank_signed excess ++ codes "\n"
