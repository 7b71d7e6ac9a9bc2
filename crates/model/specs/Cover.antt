-- "Row value and cover": plans, covers in K-ths of a tick, the rise allowance.
use Rattle.std.specs.Prelude.{ℕ, zero, suc, ◌+◌, ◌-◌, ◌*◌, ◌/◌, ◌≤◌, ◌<◌, ◌≡◌, Bool, true, false, eqb}
use Rattle.model.specs.Limits.{give_up}
use Rattle.model.specs.Problem.{Problem, Outcome, give_up_cost, own_row}
use Rattle.model.specs.Value.{row_ticks, weighted_sum}
use Rattle.model.specs.Walk.{In}

-- "A plan picks for a state one of its rows or giving up", or nothing
pub data Choice : Type 0 where
  picks_row : (r : ℕ) → Choice
  gives_up : Choice
  picks_nothing : Choice

-- What a cover asks at a state s of its set that is no goal. "Where it picks a row, all successors are in the set and 1000 × U(s)
-- is at least K × 1,000,000 × c plus the sum of w × U(successor). Where it gives up, U(s) is at least K × 1000 × D." E7: "W × U(s) is at
-- least K × W × 1000 × c plus the sum of w × U(successor)." U at the state is of one table, and at its successors, with the set, of another
abbrev pub CoversAt : Problem → ℕ → (ℕ → ℕ) → (ℕ → ℕ) → (ℕ → Type 0) → ℕ → Choice → Type 0
CoversAt p K here next set s (picks_row r) =
    (own_row p s r ≡ true)
    × ((o : Outcome) → In o (p.outcomes r) → set o.successor)
    × (K * (p.total * row_ticks p r) + weighted_sum (p.outcomes r) next ≤ p.total * here s)
CoversAt p K here next set s gives_up = K * give_up_cost p ≤ here s
CoversAt p K here next set s picks_nothing = ⊥

-- "A cover of it in K-ths of a tick is a table U of whole numbers, zero or more, and a set of states holding the start. At each
-- state of the set that isn't a goal the plan picks." Both tables are U
pub record Cover (p : Problem) (K : ℕ) (plan : ℕ → Choice) (u : ℕ → ℕ) (set : ℕ → Type 0) : Type 0 where
  pub states : (s : ℕ) → set s → s < p.states
  pub start : set p.start
  pub covers : (s : ℕ) → set s → p.goal s ≡ false → CoversAt p K u u set s (plan s)

-- what a picks table has at a state
abbrev pub choice_on : Bool → Bool → ℕ → Choice
choice_on true own r = gives_up
choice_on false true r = picks_row r
choice_on false false r = picks_nothing

unfoldable pub plan_of : Problem → (ℕ → ℕ) → ℕ → Choice
plan_of p picks s = choice_on (eqb (picks s) give_up) (own_row p s (picks s)) (picks s)

abbrev pub allowance_on : Bool → ℕ → ℕ
allowance_on true a = 0
allowance_on false a = a

-- "The rise allowance A is the sum over states that aren't goals of (1000 × D − H) / e, each rounded down": with any e, over the first k
-- states, and over all
unfoldable pub allowance_to : Problem → ℕ → ℕ → ℕ
allowance_to p e zero = 0
allowance_to p e (suc k) = allowance_to p e k + allowance_on (p.goal k) ((give_up_cost p - p.estimate k) / e)

unfoldable pub allowance : Problem → ℕ → ℕ
allowance p e = allowance_to p e p.states

-- n, "the number of its states that aren't goals": of the first k states
unfoldable pub open_to : Problem → ℕ → ℕ
open_to p zero = 0
open_to p (suc k) = open_to p k + allowance_on (p.goal k) 1
