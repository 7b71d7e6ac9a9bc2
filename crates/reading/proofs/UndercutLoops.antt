-- The two searches for an undercut row as loops, the rows of a state inside the states: one law per event.
-- By the laws of a search that goes on with what is left.
use mathlib.Core.Path.{◌≡◌}
use Prim.Native.Nat.{ℕ, ◌+◌, ◌-◌, ◌≤◌, ◌<◌}
use native.Mathlib.Omega.{arith}
use mathlib.Core.Bool.{Bool}
use lib.Dec.{leb}
use borrow.Author.Tests.{le-leb, lt-leb}
use Rattle.model.specs.Problem.{Problem, end_row}
use Rattle.model.specs.Questions.{undercut_row, undercut_state}
use Rattle.model.specs.Search.{first}
use Rattle.model.specs.Value.{row_value}
use Rattle.guarantee.specs.Loops.{search_starts, search_goes_on, search_stops}

-- row r does not undercut a state of the given value; no row of state s undercuts it
abbrev pub row_holds : Problem → (ℕ → ℕ) → ℕ → ℕ → Bool
row_holds p v value = λ r. leb value (row_value p v r)

abbrev pub state_holds : Problem → (ℕ → ℕ) → ℕ → Bool
state_holds p v = λ s. leb (end_row p s) (undercut_row p v s)

module _ (p : Problem) (v : ℕ → ℕ) where
  -- what is left from row r, or from state s, gives the answer of the whole
  pub row_search_is
      : (s : ℕ) {r e : ℕ} → r ≡ p.first_row s → e ≡ end_row p s → undercut_row p v s ≡ first (row_holds p v (v s)) r (e - r)
  unfolding undercut_row
  row_search_is s {r = r} {e = e} a b = let z : e - r ≡ p.row_count s = omega arith in rw (z, a)

  pub state_search_is : {n : ℕ} → n ≡ p.states → undercut_state p v ≡ first (state_holds p v) 0 (n - 0)
  unfolding undercut_state
  state_search_is a = rw a (search_starts (state_holds p v) p.states)

  -- a row whose value is not below the state's, and one whose value is
  pub row_passes
      : (x r e : ℕ) → r < e → x ≤ row_value p v r → first (row_holds p v x) r (e - r) ≡ first (row_holds p v x) (r + 1) (e - (r + 1))
  row_passes x r e h l = search_goes_on (row_holds p v x) e r h (le-leb x (row_value p v r) l)

  pub row_undercuts : (x r e : ℕ) → r < e → row_value p v r < x → first (row_holds p v x) r (e - r) ≡ r
  row_undercuts x r e h l = search_stops (row_holds p v x) e r h (lt-leb x (row_value p v r) l)

  -- a state none of whose rows undercuts it, and one with a row that does
  pub state_passes
      : (s n : ℕ) {e : ℕ} → s < n → e ≡ end_row p s → undercut_row p v s ≡ e
      → first (state_holds p v) s (n - s) ≡ first (state_holds p v) (s + 1) (n - (s + 1))
  state_passes s n h a b = search_goes_on (state_holds p v) n s h (le-leb (end_row p s) (undercut_row p v s) (omega arith))

  pub state_undercut
      : (s n : ℕ) {r e : ℕ} → s < n → e ≡ end_row p s → undercut_row p v s ≡ r → r < e → first (state_holds p v) s (n - s) ≡ s
  state_undercut s n h a b l = search_stops (state_holds p v) n s h (lt-leb (end_row p s) (undercut_row p v s) (omega arith))
