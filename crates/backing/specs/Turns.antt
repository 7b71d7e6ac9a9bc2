-- Whether a pick changes in backups along a list. Where none does, the picks are as they were, and so is the walk.
use Rattle.std.specs.Prelude.{◌≡◌, refl, ℕ, zero, suc, Bool, true, false, ◌||◌, not, List, [], ◌∷◌, eqb, get_or, set}
use Rattle.std.proofs.Common.{◌∙◌, ap, eqb-true}
use Rattle.std.proofs.lemmas.Bool.{not-false}
use Rattle.model.specs.Problem.{Problem}
use Rattle.model.specs.Rounds.{Machine, scan_of, backup, backups}
use Rattle.guarantee.specs.Backups.{backup_picks}
use Rattle.guarantee.specs.Searches.{or_none}

-- whether the pick that stands at some state of the list is another after its backup
unfoldable pub turns : Problem → ℕ → List ℕ → Machine → Bool
turns p e [] m = false
turns p e (s ∷ ss) m = not (eqb (get_or (backup p e s m).picks s 0) (get_or m.picks s 0)) || turns p e ss (backup p e s m)

-- an entry that is set to what it was
set_same : (l : List ℕ) (i x : ℕ) → get_or (set l i x) i 0 ≡ get_or l i 0 → set l i x ≡ l
set_same [] i x e = refl
set_same (y ∷ l) zero x e = ap (λ z. z ∷ l) e
set_same (y ∷ l) (suc i) x e = ap (λ k. y ∷ k) (set_same l i x e)

or_first : (a b : Bool) → (a || b) ≡ false → a ≡ false
or_first true b e = e
or_first false b e = refl

pub unturned_picks : (p : Problem) (e : ℕ) (ss : List ℕ) (m : Machine) → turns p e ss m ≡ false → (backups p e ss m).picks ≡ m.picks
unfolding turns backups
unturned_picks p e [] m h = refl
unturned_picks p e (s ∷ ss) m h =
    let changed = not (eqb (get_or (backup p e s m).picks s 0) (get_or m.picks s 0)) in
    let later = turns p e ss (backup p e s m) in
    let stays : get_or (backup p e s m).picks s 0 ≡ get_or m.picks s 0 = eqb-true _ _ (not-false _ (or_first changed later h)) in
    unturned_picks p e ss (backup p e s m) (or_none changed later h)
    ∙ backup_picks p e s m
    ∙ set_same m.picks s (scan_of p s m).pick (rw (backup_picks p e s m) at stays)
