-- The search for an undercut row says that there is none exactly where V(s) is at most the value of every own row of every state.
-- Two searches, one inside the other, each read through the law that a search ends at its bound where every test says yes.
use Rattle.std.specs.Prelude.{◌≡◌, ℕ, ◌+◌, ◌≤◌, ◌<◌, true}
use Rattle.std.proofs.Common.{sym, ◌∙◌, arith, le_of_eq}
use Rattle.std.proofs.Math.Path.{ap, ap₂}
use Rattle.std.proofs.Math.Dec.{leb}
use borrow.Author.Tests.{leb-true, le-leb}
use Rattle.model.specs.Problem.{Problem, end_row}
use Rattle.model.specs.Value.{row_value}
use Rattle.model.specs.Questions.{undercut_row, undercut_state}
use Rattle.model.specs.Search.{first}
use Rattle.guarantee.specs.Searches.{first_all, all_first, first_same, each_yes, yes_each}

-- V(s) is at most the value of every own row of every state
abbrev pub NoUndercut : Problem → (ℕ → ℕ) → Type 0
NoUndercut p v = (s r : ℕ) → s < p.states → p.first_row s ≤ r → r < end_row p s → v s ≤ row_value p v r

module _ (p : Problem) (v : ℕ → ℕ) where
  pub undercut_none : leb p.states (undercut_state p v) ≡ true → NoUndercut p v
  unfolding undercut_state undercut_row
  undercut_none h s r l low high =
      leb-true (v s) (row_value p v r)
      (first_all (λ r. leb (v s) (row_value p v r)) (p.first_row s) (p.row_count s) (leb-true _ _ (each_yes _ p.states h s l)) r low high)

  pub none_undercut : NoUndercut p v → leb p.states (undercut_state p v) ≡ true
  unfolding undercut_state undercut_row
  none_undercut h =
      yes_each (λ s. leb (end_row p s) (undercut_row p v s)) p.states
      λ s l.
      le-leb (end_row p s) (undercut_row p v s)
      (le_of_eq
      (sym
      (all_first (λ r. leb (v s) (row_value p v r)) (p.first_row s) (p.row_count s)
      λ r low high. le-leb (v s) (row_value p v r) (h s r l low high))))

-- Two problems and tables that agree on the states and on the values of their rows have the same first undercut row: a search depends on
-- its test at the places it asks alone.
pub record SameRows (p q : Problem) (v w : ℕ → ℕ) : Type 0 where
  pub states : p.states ≡ q.states
  pub values : (s : ℕ) → s < p.states → v s ≡ w s
  pub first_rows : (s : ℕ) → s < p.states → p.first_row s ≡ q.first_row s
  pub row_counts : (s : ℕ) → s < p.states → p.row_count s ≡ q.row_count s
  pub row_values : (s r : ℕ) → s < p.states → r < end_row p s → row_value p v r ≡ row_value q w r

module _ (p q : Problem) (v w : ℕ → ℕ) (same : SameRows p q v w) where
  pub undercut_row_same : (s : ℕ) → s < p.states → undercut_row p v s ≡ undercut_row q w s
  unfolding undercut_row
  undercut_row_same s l =
      first_same (λ r. leb (v s) (row_value p v r)) (λ r. leb (w s) (row_value q w r)) (p.first_row s) (p.row_count s)
      (λ r low high. ap₂ leb (same.values s l) (same.row_values s r l high))
      ∙ ap₂ (first (λ r. leb (w s) (row_value q w r))) (same.first_rows s l) (same.row_counts s l)

  end_same : (s : ℕ) → s < p.states → end_row p s ≡ end_row q s
  end_same s l = ap₂ ◌+◌ (same.first_rows s l) (same.row_counts s l)

  pub undercut_state_same : undercut_state p v ≡ undercut_state q w
  unfolding undercut_state
  undercut_state_same =
      first_same (λ s. leb (end_row p s) (undercut_row p v s)) (λ s. leb (end_row q s) (undercut_row q w s)) 0 p.states
      (λ s low high. ap₂ leb (end_same s (omega arith)) (undercut_row_same s (omega arith)))
      ∙ ap (first (λ s. leb (end_row q s) (undercut_row q w s)) 0) same.states
