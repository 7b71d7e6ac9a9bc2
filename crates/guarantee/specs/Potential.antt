-- One number that no backup lifts and that every backup with a rise or a changed pick lowers: what values may still rise, in steps of d,
-- times the open states and one more, plus the open states that would change their pick. It serves every tolerance of at least d.
use Rattle.std.specs.Prelude.{◌≡◌, ℕ, zero, suc, ◌+◌, ◌-◌, ◌*◌, ◌/◌, ◌≤◌, ◌<◌, Bool, ◌⊎◌, eqb, set}
use Rattle.std.proofs.Math.Path.{refl}
use Rattle.std.proofs.Common.{sym, ◌∙◌, ap, true≢false, inl, inr, get_or-set_same}
use Rattle.std.proofs.Math.Decide.{ℕ_discrete}
use Rattle.std.proofs.Math.Nat.{mul-le-mul_right}
use native.Mathlib.Omega.{arith}
use Rattle.std.proofs.Math.Bool.{true, false}
use Rattle.std.proofs.Math.ListN.{get_or}
use Rattle.std.proofs.Math.Seq.{get_or-set_other}
use borrow.Author.Tests.{eq-eqb, ne_eqb}
use Rattle.model.specs.Problem.{Problem, give_up_cost}
use Rattle.model.specs.Search.{sum_to}
use Rattle.model.specs.Value.{by_state}
use Rattle.model.specs.Cover.{allowance_on, allowance_to, open_to}
use Rattle.model.specs.Rounds.{Machine, scan_of, backup, round, choice}
use Rattle.guarantee.specs.WellFormed.{WellFormed}
use Rattle.guarantee.specs.Sums.{sum_below, sum_less, quotient_less}
use Rattle.guarantee.specs.Values.{quotient_rises}
use Rattle.guarantee.specs.Choosing.{choice_again}
use Rattle.guarantee.specs.Sound.{Sound, scan_law, best_high, backup_rises, backup_sound}
use Rattle.guarantee.specs.Backups.{Open, Backed, rose, turned, rested, backed, backup_picks, round_keeps, walked_sound}

abbrev pub turns_on : Bool → ℕ
turns_on true = 0
turns_on false = 1

-- what V(s) may still rise, in steps of d
unfoldable pub left_at : Problem → ℕ → (ℕ → ℕ) → ℕ → ℕ
left_at p d v s = allowance_on (p.goal s) ((give_up_cost p - v s) / d)

-- 1 where a choice would change the pick at s: where s is not settled
unfoldable pub unsettled_at : Problem → (ℕ → ℕ) → (ℕ → ℕ) → ℕ → ℕ
unsettled_at p v picks s = allowance_on (p.goal s) (turns_on (eqb (choice p v s (picks s)).pick (picks s)))

unfoldable pub left : Problem → ℕ → (ℕ → ℕ) → ℕ
left p d v = sum_to (left_at p d v) p.states

unfoldable pub unsettled : Problem → (ℕ → ℕ) → (ℕ → ℕ) → ℕ
unsettled p v picks = sum_to (unsettled_at p v picks) p.states

unfoldable pub potential : Problem → ℕ → Machine → ℕ
potential p d m = left p d (by_state m.values) * (open_to p p.states + 1) + unsettled p (by_state m.values) (by_state m.picks)

-- the model's two sums, as sums of these
pub allowance_left : (p : Problem) (d k : ℕ) → allowance_to p d k ≡ sum_to (left_at p d p.estimate) k
unfolding allowance_to left_at sum_to
allowance_left p d zero = refl
allowance_left p d (suc k) = rw (allowance_left p d k) refl

open_sum : (p : Problem) (k : ℕ) → open_to p k ≡ sum_to (λ s. allowance_on (p.goal s) 1) k
unfolding open_to sum_to
open_sum p zero = refl
open_sum p (suc k) = rw (open_sum p k) refl

pub unsettled_high : (p : Problem) (v picks : ℕ → ℕ) → unsettled p v picks ≤ open_to p p.states
unfolding unsettled unsettled_at
unsettled_high p v picks =
    rw (open_sum p p.states)
    (sum_below _ _ p.states (λ s l. go (p.goal s) (eqb (choice p v s (picks s)).pick (picks s))))
  where
    go : (goal same : Bool) → allowance_on goal (turns_on same) ≤ allowance_on goal 1
    go true same = omega arith
    go false true = omega arith
    go false false = omega arith

-- values that rise leave less
module _ (p : Problem) (d : ℕ) (unit : 1 ≤ d) (v w : ℕ → ℕ) (above : (s : ℕ) → v s ≤ w s) where
  left_at_falls : (s : ℕ) → left_at p d w s ≤ left_at p d v s
  unfolding left_at
  left_at_falls s = go (p.goal s)
    where
      go : (b : Bool) → allowance_on b ((give_up_cost p - w s) / d) ≤ allowance_on b ((give_up_cost p - v s) / d)
      go true = omega arith
      go false = quotient_rises d _ _ unit (omega (arith, above s))

  left_at_less : (s : ℕ) → p.goal s ≡ false → v s + d ≤ w s → w s ≤ give_up_cost p → left_at p d w s < left_at p d v s
  unfolding left_at
  left_at_less s no_goal rise top = rw no_goal (quotient_less d _ _ unit (omega arith))

  -- a rise of at least d leaves at least one step less
  pub left_falls : (s : ℕ) → Open p s → v s + d ≤ w s → w s ≤ give_up_cost p → left p d w < left p d v
  unfolding left
  left_falls s o rise top =
      sum_less (left_at p d w) (left_at p d v) p.states s o.state (λ j l. left_at_falls j) (left_at_less s o.no_goal rise top)

-- a state that takes the pick of its choice is settled, and no other state is touched
module _ (p : Problem) (formed : WellFormed p) (v picks after : ℕ → ℕ) (s : ℕ) (o : Open p s) where
  unsettled_at_less
      : after s ≡ (choice p v s (picks s)).pick → ((choice p v s (picks s)).pick ≡ picks s → ⊥)
      → unsettled_at p v after s < unsettled_at p v picks s
  unfolding unsettled_at
  unsettled_at_less takes turns =
      let again : (choice p v s (after s)).pick ≡ after s =
      rw takes (ap (λ c. c.pick) (choice_again p formed v s o.state (picks s))) in
      rw (o.no_goal, eq-eqb _ _ again, ne_eqb _ _ turns) (omega arith)

  unsettled_at_same : (t : ℕ) → after t ≡ picks t → unsettled_at p v after t ≤ unsettled_at p v picks t
  unfolding unsettled_at
  unsettled_at_same t e = rw e (omega arith)

  pub unsettled_falls
      : ((t : ℕ) → (t ≡ s → ⊥) → after t ≡ picks t) → after s ≡ (choice p v s (picks s)).pick → ((choice p v s (picks s)).pick ≡ picks s → ⊥)
      → unsettled p v after < unsettled p v picks
  unfolding unsettled
  unsettled_falls others takes turns =
      sum_less (unsettled_at p v after) (unsettled_at p v picks) p.states s o.state (λ t l. go t (ℕ_discrete t s))
      (unsettled_at_less takes turns)
    where
      go : (t : ℕ) → Dec (t ≡ s) → unsettled_at p v after t ≤ unsettled_at p v picks t
      go t (yes at) = rw at (omega (arith, unsettled_at_less takes turns))
      go t (no ne) = unsettled_at_same t (others t ne)

-- a backup lowers the potential, or changes nothing and leaves it
module _ (p : Problem) (formed : WellFormed p) (d e : ℕ) (unit : 1 ≤ d) (steps : d ≤ e) (s : ℕ) (m : Machine) (o : Open p s)
    (sound : Sound p m) where
  scan_pick : (scan_of p s m).pick ≡ (choice p (by_state m.values) s (get_or m.picks s 0)).pick
  scan_pick = ap (λ c. c.pick) (scan_law p formed s m o.state sound).ends

  rise_lowers
      : get_or m.values s 0 + e ≤ (scan_of p s m).best → (backup p e s m).values ≡ set m.values s (scan_of p s m).best
      → potential p d (backup p e s m) < potential p d m
  unfolding potential
  rise_lowers rise stores =
      let n = open_to p p.states in
      let new : get_or (backup p e s m).values s 0 ≡ (scan_of p s m).best =
      rw stores (get_or-set_same m.values s (scan_of p s m).best 0 (omega (arith, o.state, sound.values_length))) in
      let falls =
      left_falls p d unit (by_state m.values) (by_state (backup p e s m).values) (backup_rises p formed s m o.state sound e) s o
      (omega arith) (omega (arith, best_high p formed s m o.state sound)) in
      omega (arith, mul-le-mul_right (n + 1) falls, unsettled_high p (by_state (backup p e s m).values) (by_state (backup p e s m).picks))

  turn_lowers
      : ((scan_of p s m).pick ≡ get_or m.picks s 0 → ⊥) → (backup p e s m).values ≡ m.values
      → potential p d (backup p e s m) < potential p d m
  unfolding potential
  turn_lowers turns stays =
      rw (stays, backup_picks p e s m)
      (omega (
        arith,
        unsettled_falls p formed (by_state m.values) (by_state m.picks) (by_state (set m.picks s (scan_of p s m).pick)) s o
            (λ t ne. get_or-set_other m.picks s t (scan_of p s m).pick 0 ne)
            (get_or-set_same m.picks s (scan_of p s m).pick 0 (omega (arith, o.state, sound.picks_length)) ∙ scan_pick)
            (λ q. turns (scan_pick ∙ q)),
      ))

  rest_leaves : (backup p e s m).values ≡ m.values → (backup p e s m).picks ≡ m.picks → potential p d (backup p e s m) ≡ potential p d m
  unfolding potential
  rest_leaves values picks = rw (values, picks) refl

  pub backup_lowers
      : (potential p d (backup p e s m) < potential p d m)
      ⊎ ((potential p d (backup p e s m) ≡ potential p d m) × ((backup p e s m).moved ≡ m.moved))
  backup_lowers = go (backed p e s m)
    where
      go : Backed p e s m → (potential p d (backup p e s m) < potential p d m)
          ⊎ ((potential p d (backup p e s m) ≡ potential p d m) × ((backup p e s m).moved ≡ m.moved))
      go (rose rise stores moved) = inl (rise_lowers rise stores)
      go (turned turns stays moved) = inl (turn_lowers turns stays)
      go (rested close same values picks moved) = inr (rest_leaves values picks, moved)

-- a sound machine whose potential is at most K, and below K once something has moved
pub record PotentialWithin (p : Problem) (d K : ℕ) (m : Machine) : Type 0 where
  pub sound : Sound p m
  pub at_most : potential p d m ≤ K
  pub below : m.moved ≡ true → potential p d m < K

-- no round lifts the potential, and one that is not quiet lowers it
module _ (p : Problem) (formed : WellFormed p) (d e : ℕ) (unit : 1 ≤ d) (steps : d ≤ e) where
  backup_within : (K s : ℕ) (m : Machine) → Open p s → PotentialWithin p d K m → PotentialWithin p d K (backup p e s m)
  backup_within K s m o h = go (backup_lowers p formed d e unit steps s m o h.sound)
    where
      go : (potential p d (backup p e s m) < potential p d m)
          ⊎ ((potential p d (backup p e s m) ≡ potential p d m) × ((backup p e s m).moved ≡ m.moved))
          → PotentialWithin p d K (backup p e s m)
      go (inl less) =
          record {
            sound = backup_sound p formed s m o.state h.sound e o.no_goal;
            at_most = omega (arith, h.at_most);
            below = λ q. omega (arith, h.at_most);
          }
      go (inr (same, still)) =
          record {
            sound = backup_sound p formed s m o.state h.sound e o.no_goal;
            at_most = omega (arith, h.at_most);
            below = λ q. omega (arith, h.below (sym still ∙ q));
          }

  pub round_lowers : (m : Machine) → Sound p m → PotentialWithin p d (potential p d m) (round p e m)
  unfolding potential
  round_lowers m sound =
      round_keeps p e (PotentialWithin p d (potential p d m)) (backup_within (potential p d m)) formed m
      (record { sound = walked_sound p formed e m sound; at_most = omega arith; below = λ q. absurd (true≢false (sym q)) })
