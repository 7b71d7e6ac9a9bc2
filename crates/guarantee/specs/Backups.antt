-- Backups along a list, rounds and runs: the three kinds of backup, what a property kept by each backup gives, and what stays.
-- By induction on the list and on the budget.
use Rattle.std.specs.Prelude.{◌≡◌, Bool, eqb, get_or, set}
use Rattle.std.proofs.Math.Path.{refl, sym}
use Rattle.std.proofs.Common.{◌∙◌, arith, leb-true, leb-false, eqb-true}
use Prim.Native.Nat.{ℕ, zero, suc, ◌+◌, ◌-◌, ◌≤◌, ◌<◌}
use Rattle.std.proofs.Math.Bool.{true, false, or-true, or-false}
use mathlib.Core.List.{List, [], ◌∷◌}
use Rattle.std.proofs.lemmas.List.{set-get_or}
use Rattle.std.proofs.lemmas.Bool.{eqb-false}
use Rattle.model.specs.Problem.{Problem}
use Rattle.model.specs.Value.{by_state}
use Rattle.model.specs.Walk.{In, here, there, walk}
use Rattle.model.specs.Rounds.{Machine, Found, scan_of, raise_on, rises, settle, backup}
use Rattle.model.specs.Rounds.{backups, walked, round, round_with, Ending, solved, spent, run_from, run_from_with, machine_start}
use Rattle.model.specs.Rounds.{goes_on, goes_on_with, run_of}
use Rattle.model.specs.declared.Kind.{Kind}
use Rattle.model.specs.declared.Kind.TheVariants.{Plain, Finishing}
use Rattle.guarantee.specs.WellFormed.{WellFormed}
use Rattle.guarantee.specs.Walks.{listed_state, listed_open}
use Rattle.guarantee.specs.Sound.{Sound, backup_sound}

-- a state that is no goal
pub record Open (p : Problem) (s : ℕ) : Type 0 where
  pub state : s < p.states
  pub no_goal : p.goal s ≡ false

-- what a backup at s does: it raises V(s), or it changes the pick only, or it changes neither
pub data Backed (p : Problem) (e s : ℕ) (m : Machine) : Type 0 where
  rose
      : get_or m.values s 0 + e ≤ (scan_of p s m).best → (backup p e s m).values ≡ set m.values s (scan_of p s m).best
      → (backup p e s m).moved ≡ true → Backed p e s m
  turned
      : ((scan_of p s m).pick ≡ get_or m.picks s 0 → ⊥) → (backup p e s m).values ≡ m.values → (backup p e s m).moved ≡ true → Backed p e s m
  rested
      : (scan_of p s m).best < get_or m.values s 0 + e → (scan_of p s m).pick ≡ get_or m.picks s 0 → (backup p e s m).values ≡ m.values
      → (backup p e s m).picks ≡ m.picks → (backup p e s m).moved ≡ m.moved → Backed p e s m

-- the rounds done and the machine of an ending
abbrev pub rounds_of : Ending → ℕ
rounds_of (solved n m) = n
rounds_of (spent n m) = n

abbrev pub machine_of : Ending → Machine
machine_of (solved n m) = m
machine_of (spent n m) = m

pub spent_not_solved : {n k : ℕ} {m m' : Machine} → spent n m ≡ solved k m' → ⊥
spent_not_solved q = let z : ◌≡◌ {A = ℕ} 0 1 = cc in omega arith

pub backed : (p : Problem) (e s : ℕ) (m : Machine) → Backed p e s m
unfolding backup settle raise_on
backed p e s m = go (rises e s m a) (eqb a.pick (get_or m.picks s 0)) refl refl
  where
    a : Found
    a = scan_of p s m

    go : (b c : Bool) → rises e s m a ≡ b → eqb a.pick (get_or m.picks s 0) ≡ c → Backed p e s m
    go true c r q = rose (leb-true _ _ r) (rw r refl) (rw r (or-true m.moved))
    go false true r q =
        let same : a.pick ≡ get_or m.picks s 0 = eqb-true _ _ q in
        rested (leb-false _ _ r) same (rw r refl) (rw same (set-get_or m.picks s 0)) (rw (r, q) (or-false m.moved))
    go false false r q = turned (eqb-false _ _ q) (rw r refl) (rw (r, q) (or-true m.moved))

pub backup_picks : (p : Problem) (e s : ℕ) (m : Machine) → (backup p e s m).picks ≡ set m.picks s (scan_of p s m).pick
unfolding backup settle
backup_picks p e s m = refl

-- backups keep the list, and a round's list is the walk's
pub backup_list : (p : Problem) (e s : ℕ) (m : Machine) → (backup p e s m).list ≡ m.list
unfolding backup settle
backup_list p e s m = refl

pub backups_list : (p : Problem) (e : ℕ) (l : List ℕ) (m : Machine) → (backups p e l m).list ≡ m.list
unfolding backups
backups_list p e [] m = refl
backups_list p e (s ∷ l) m = backups_list p e l (backup p e s m) ∙ backup_list p e s m

pub round_list : (p : Problem) (e : ℕ) (m : Machine) → (round p e m).list ≡ (walk p (by_state m.picks)).list
unfolding round_with
round_list p e m = backups_list p e (walk p (by_state m.picks)).list (walked p m)

pub walk_opens : (p : Problem) → WellFormed p → (picks : ℕ → ℕ) (s : ℕ) → In s (walk p picks).list → Open p s
walk_opens p formed picks s i = record { state = listed_state p formed picks s i; no_goal = listed_open p formed picks s i }

-- what every backup of an open state keeps, backups along a list of open states keep, and so does a round's walk list
module _ (p : Problem) (e : ℕ) (Inv : Machine → Type 0) (kept : (s : ℕ) (m : Machine) → Open p s → Inv m → Inv (backup p e s m)) where
  pub backups_keep : (l : List ℕ) (m : Machine) → ((s : ℕ) → In s l → Open p s) → Inv m → Inv (backups p e l m)
  unfolding backups
  backups_keep [] m opens h = h
  backups_keep (s ∷ l) m opens h = backups_keep l (backup p e s m) (λ t i. opens t (there i)) (kept s m (opens s here) h)

  pub round_keeps : WellFormed p → (m : Machine) → Inv (walked p m) → Inv (round p e m)
  unfolding round_with
  round_keeps formed m h = backups_keep (walk p (by_state m.picks)).list (walked p m) (walk_opens p formed (by_state m.picks)) h

-- the quiet round that ends a solved run: the machine before it, of which `Inv n` holds after n rounds
pub record Quiet (p : Problem) (e : ℕ) (Inv : ℕ → Machine → Type 0) (k : ℕ) (m : Machine) : Type 0 where
  pub rounds : ℕ
  pub before : Machine
  pub held : Inv rounds before
  pub quiet : (round p e before).moved ≡ false
  pub count : suc rounds ≡ k
  pub ends : round p e before ≡ m

-- a run that is not going is solved
pub run_stops : (p : Problem) (e budget n : ℕ) (m : Machine) → run_from p e budget false n m ≡ solved n m
unfolding run_from_with
run_stops p e zero n m = refl
run_stops p e (suc budget) n m = refl

-- what every round keeps, with the number of rounds done, holds of a run's ending
module _ (p : Problem) (e : ℕ) (Inv : ℕ → Machine → Type 0) (kept : (n : ℕ) (m : Machine) → Inv n m → Inv (suc n) (round p e m)) where
  pub run_keeps
      : (budget : ℕ) (going : Bool) (n : ℕ) (m : Machine) → Inv n m
      → Inv (rounds_of (run_from p e budget going n m)) (machine_of (run_from p e budget going n m))
  unfolding run_from_with
  run_keeps zero true n m h = h
  run_keeps zero false n m h = h
  run_keeps (suc budget) false n m h = h
  run_keeps (suc budget) true n m h = run_keeps budget (round p e m).moved (suc n) (round p e m) (kept n m h)

  -- a solved run ends with a quiet round
  pub run_quiet
      : (budget n : ℕ) (m : Machine) (k : ℕ) (m' : Machine) → Inv n m → run_from p e budget true n m ≡ solved k m' → Quiet p e Inv k m'
  unfolding run_from_with
  run_quiet zero n m k m' h q = absurd (spent_not_solved q)
  run_quiet (suc budget) n m k m' h q =
      go (round p e m).moved refl q (λ q'. run_quiet budget (suc n) (round p e m) k m' (kept n m h) q')
    where
      go
          : (b : Bool) → (round p e m).moved ≡ b → run_from p e budget b (suc n) (round p e m) ≡ solved k m'
          → (run_from p e budget true (suc n) (round p e m) ≡ solved k m' → Quiet p e Inv k m') → Quiet p e Inv k m'
      go true moved q ih = ih q
      go false still q ih =
          let done : solved (suc n) (round p e m) ≡ solved k m' = sym (run_stops p e budget (suc n) (round p e m)) ∙ q in
          record { rounds = n; before = m; held = h; quiet = still; count = cc; ends = cc }

-- a run that is spent has done every round of its budget
pub run_spent
    : (p : Problem) (e budget n : ℕ) (m : Machine) (k : ℕ) (m' : Machine) → run_from p e budget true n m ≡ spent k m' → k ≡ n + budget
unfolding run_from_with
run_spent p e zero n m k m' q = let same : n ≡ k = cc in omega arith
run_spent p e (suc budget) n m k m' q = go (round p e m).moved q (run_spent p e budget (suc n) (round p e m) k m')
  where
    go
        : (b : Bool) → run_from p e budget b (suc n) (round p e m) ≡ spent k m'
        → (run_from p e budget true (suc n) (round p e m) ≡ spent k m' → k ≡ suc n + budget) → k ≡ n + suc budget
    go true q ih = omega (arith, ih q)
    go false q ih = absurd (spent_not_solved (sym q ∙ run_stops p e budget (suc n) (round p e m)))

-- and no run does more
run_rounds : (p : Problem) (e budget : ℕ) (going : Bool) (n : ℕ) (m : Machine) → rounds_of (run_from p e budget going n m) ≤ n + budget
unfolding run_from_with
run_rounds p e zero true n m = omega arith
run_rounds p e zero false n m = omega arith
run_rounds p e (suc budget) false n m = omega arith
run_rounds p e (suc budget) true n m = omega (arith, run_rounds p e budget (round p e m).moved (suc n) (round p e m))

pub whole_run_rounds
    : (kind : Kind) (p : Problem) (budget : ℕ) (values picks remembered : List ℕ)
    → rounds_of (run_of kind p budget values picks remembered) ≤ budget
unfolding goes_on_with
whole_run_rounds kind p budget values picks remembered =
    go kind (run_from p p.tolerance budget true 0 start) (run_rounds p p.tolerance budget true 0 start)
  where
    start : Machine
    start = machine_start p values picks remembered

    go : (kind : Kind) (end : Ending) → rounds_of end ≤ 0 + budget → rounds_of (goes_on kind p budget end) ≤ budget
    go Plain end few = omega arith
    go Finishing (spent n m) few = omega arith
    go Finishing (solved n m) few = omega (arith, run_rounds p 1 (budget - n) true n m)

-- The run of a problem of either kind: what every round keeps, with whatever tolerance, holds of its ending
module _ (p : Problem) (Inv : ℕ → Machine → Type 0) (kept : (e n : ℕ) (m : Machine) → Inv n m → Inv (suc n) (round p e m)) where
  goes_on_keeps
      : (kind : Kind) (budget : ℕ) (end : Ending) → Inv (rounds_of end) (machine_of end)
      → Inv (rounds_of (goes_on kind p budget end)) (machine_of (goes_on kind p budget end))
  unfolding goes_on_with
  goes_on_keeps Plain budget end h = h
  goes_on_keeps Finishing budget (spent n m) h = h
  goes_on_keeps Finishing budget (solved n m) h = run_keeps p 1 Inv (kept 1) (budget - n) true n m h

  pub whole_run_keeps
      : (kind : Kind) (budget : ℕ) (values picks remembered : List ℕ) → Inv 0 (machine_start p values picks remembered)
      → Inv (rounds_of (run_of kind p budget values picks remembered)) (machine_of (run_of kind p budget values picks remembered))
  whole_run_keeps kind budget values picks remembered h =
      let e = p.tolerance in goes_on_keeps kind budget _ (run_keeps p e Inv (kept e) budget true 0 _ h)

-- and where it is spent it has done every round of its budget
pub whole_run_spent
    : (kind : Kind) (p : Problem) (budget : ℕ) (values picks remembered : List ℕ) (k : ℕ) (m' : Machine)
    → run_of kind p budget values picks remembered ≡ spent k m' → k ≡ budget
unfolding goes_on_with
whole_run_spent kind p budget values picks remembered k m' q = go kind (run_from p e budget true 0 start) refl q
  where
    e : ℕ
    e = p.tolerance

    start : Machine
    start = machine_start p values picks remembered

    go : (kind : Kind) (end : Ending) → run_from p e budget true 0 start ≡ end → goes_on kind p budget end ≡ spent k m' → k ≡ budget
    go Plain end run q = omega (arith, run_spent p e budget 0 start k m' (run ∙ q))
    go Finishing (spent n m) run q = omega (arith, run_spent p e budget 0 start k m' (run ∙ q))
    go Finishing (solved n m) run q =
        let few : n ≤ 0 + budget = rw run at (run_rounds p e budget true 0 start) in omega (arith, run_spent p 1 (budget - n) n m k m' q)

-- rounds keep a machine sound
module _ (p : Problem) (formed : WellFormed p) (e : ℕ) where
  pub walked_sound : (m : Machine) → Sound p m → Sound p (walked p m)
  walked_sound m h =
      record {
        values_length = h.values_length;
        picks_length = h.picks_length;
        remembered_length = h.remembered_length;
        goal_values = h.goal_values;
        high = h.high;
        under = h.under;
        memory = h.memory;
        picked = h.picked;
        goal_picks = h.goal_picks;
      }

  pub round_sound : (m : Machine) → Sound p m → Sound p (round p e m)
  round_sound m h =
      round_keeps p e (Sound p) (λ s n o k. backup_sound p formed s n o.state k e o.no_goal) formed m (walked_sound m h)
