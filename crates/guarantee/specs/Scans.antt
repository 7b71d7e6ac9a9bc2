-- The scan of a state's rows, with its skipping and its memory, ends where the choice that skips nothing ends.
-- A remembered value is at most the row value, so a skipped row would not have been picked.
use Rattle.std.specs.Prelude.{◌≡◌, ℕ, ◌≤◌, ◌<◌, Bool, not, List, get_or, set, length}
use Rattle.std.proofs.Math.Path.{refl, sym}
use Rattle.std.proofs.Common.{◌∙◌, ap, arith, ltb-false}
use Rattle.std.proofs.Math.Bool.{true, false}
use Rattle.std.proofs.Math.Dec.{ltb}
use Rattle.std.proofs.Math.ListN.{length-set}
use Rattle.model.specs.Problem.{Problem}
use Rattle.model.specs.Value.{row_value}
use Rattle.model.specs.Rounds.{traverse, Found, beats, evaluate_on, consider_on, consider, scan, Chosen, pick_of, choose_on, choose}
use Rattle.guarantee.specs.WellFormed.{WellFormed}
use Rattle.guarantee.specs.Tables.{stored}
use Rattle.guarantee.specs.Walks.{own_row_lem}
use Rattle.guarantee.specs.Traversals.{both_keep}
use Rattle.guarantee.specs.Choosing.{threshold, beats_below, choose_idle}

-- what each row remembers is at most its value under v
abbrev pub Memory : Problem → (ℕ → ℕ) → List ℕ → Type 0
Memory p v l = (r : ℕ) → r < p.rows → get_or l r 0 ≤ row_value p v r

-- best and pick of a scan so far
abbrev pub chosen : Found → Chosen
chosen a = pick_of a.best a.pick

-- a part of a scan from a to a' that ends at c
pub record Scanned (p : Problem) (v : ℕ → ℕ) (a a' : Found) (c : Chosen) : Type 0 where
  pub ends : chosen a' ≡ c
  pub memory : Memory p v a'.remembered
  pub size : length a'.remembered ≡ length a.remembered

module _ (p : Problem) (v : ℕ → ℕ) where
  pub memory_stored : (l : List ℕ) (r : ℕ) → Memory p v l → Memory p v (set l r (row_value p v r))
  memory_stored l r h = stored (λ i x. i < p.rows → x ≤ row_value p v i) l r (row_value p v r) h (λ k. omega arith)

  evaluated : (b : Bool) (r : ℕ) (a : Found) → Memory p v a.remembered
      → Scanned p v a (evaluate_on b (row_value p v r) r a) (choose_on b (row_value p v r) r (chosen a))
  unfolding evaluate_on
  evaluated true r a h = record { ends = refl; memory = memory_stored a.remembered r h; size = length-set a.remembered r _ }
  evaluated false r a h = record { ends = refl; memory = memory_stored a.remembered r h; size = length-set a.remembered r _ }

  -- a skipped row would not have been picked: its remembered value does not beat, and its value is no less
  pub skipped_not_better
      : (r : ℕ) (a : Found) → r < p.rows → Memory p v a.remembered → threshold (chosen a) ≤ get_or a.remembered r 0
      → choose (row_value p v) r (chosen a) ≡ chosen a
  skipped_not_better r a l h skipped = choose_idle (row_value p v) r (chosen a) (omega (arith, h r l))

  pub considered
      : (r : ℕ) (a : Found) → r < p.rows → Memory p v a.remembered
      → Scanned p v a (consider p v r a) (choose (row_value p v) r (chosen a))
  unfolding consider consider_on choose
  considered r a l h = go (beats (get_or a.remembered r 0) a.best a.pick) (sym (beats_below (chosen a) _))
    where
      go
          : (b : Bool) → ltb (get_or a.remembered r 0) (threshold (chosen a)) ≡ b
          → Scanned p v a (consider_on (not b) p v r a) (choose (row_value p v) r (chosen a))
      go true e = evaluated (beats (row_value p v r) a.best a.pick) r a h
      go false e = record { ends = sym (skipped_not_better r a l h (ltb-false _ _ e)); memory = h; size = refl }

  -- one row more
  scanned_then
      : {a b d : Found} {c : Chosen} (r : ℕ) → Scanned p v a b c → Scanned p v b d (choose (row_value p v) r (chosen b))
      → Scanned p v a d (choose (row_value p v) r c)
  scanned_then r x y =
      record { ends = y.ends ∙ ap (choose (row_value p v) r) x.ends; memory = y.memory; size = y.size ∙ x.size }

  -- the whole scan of a state
  pub scanned
      : WellFormed p → (s prev : ℕ) (a : Found) → s < p.states → Memory p v a.remembered
      → Scanned p v a (scan p v s prev a) (traverse (choose (row_value p v)) p s prev (chosen a))
  scanned formed s prev a l h =
      both_keep p s prev (consider p v) (choose (row_value p v)) (Scanned p v a) a (chosen a)
      (λ i b c own so. scanned_then i so (considered i b (own_row_lem p formed s i l own) so.memory))
      (record { ends = refl; memory = h; size = refl })
