-- The choice of one backup depends on the row values alone, and after its own pick it is the same choice again: no row beats where it
-- ends. The rule for ties stands in `beats_below` and the three laws of `threshold` only.
use Rattle.std.specs.Prelude.{◌≡◌, Bool, ◌&&◌, ◌||◌, ◌⊎◌}
use Rattle.std.proofs.Math.Path.{refl, sym}
use Rattle.std.proofs.Common.{◌∙◌, ap, eq-or-lt_of_le, true≢false, inl, inr, ⊎_elim}
use Prim.Native.Nat.{ℕ, suc, ◌+◌, ◌≤◌, ◌<◌}
use Rattle.std.proofs.Math.Decide.{ℕ_discrete}
use native.Mathlib.Omega.{arith}
use Rattle.std.proofs.Math.Bool.{true, false}
use Rattle.std.proofs.Math.Dec.{ltb, eqb}
use borrow.Author.Tests.{ltb-true, ltb-false, lt-ltb, le-ltb, eq-eqb, ne_eqb}
use Rattle.model.specs.Limits.{give_up}
use Rattle.model.specs.Problem.{Problem, give_up_cost, end_row, own_row}
use Rattle.model.specs.Value.{row_value}
use Rattle.model.specs.Rounds.{traverse, beats, Chosen, pick_of, choose_on, choose, giving_up, choice}
use Rattle.guarantee.specs.WellFormed.{WellFormed}
use Rattle.guarantee.specs.Traversals.{traverse_along, traverse_keeps, traverse_every, traverse_idle}
use Rattle.guarantee.specs.Rows.{own_low, own_high, own_within, row_no_mark}

-- what is below this beats what is best so far: best, and one more while giving up is best
abbrev threshold_on : Bool → ℕ → ℕ
threshold_on true best = best + 1
threshold_on false best = best

unfoldable pub threshold : Chosen → ℕ
threshold c = threshold_on (eqb c.pick give_up) c.best

module _ (c : Chosen) where
  pub threshold_giving_up : c.pick ≡ give_up → threshold c ≡ c.best + 1
  unfolding threshold
  threshold_giving_up e = rw (eq-eqb c.pick give_up e) refl

  pub threshold_row : c.pick < give_up → threshold c ≡ c.best
  unfolding threshold
  threshold_row l = rw (ne_eqb c.pick give_up (λ e. omega arith)) refl

  pub threshold_near : (c.best ≤ threshold c) × (threshold c ≤ c.best + 1)
  unfolding threshold
  threshold_near = go (eqb c.pick give_up)
    where
      go : (b : Bool) → (c.best ≤ threshold_on b c.best) × (threshold_on b c.best ≤ c.best + 1)
      go true = (omega arith, omega arith)
      go false = (omega arith, omega arith)

  pub beats_below : (x : ℕ) → beats x c.best c.pick ≡ ltb x (threshold c)
  unfolding beats threshold
  beats_below x = go (eqb c.pick give_up) (ltb x c.best) refl (ℕ_discrete x c.best)
    where
      go : (gives below : Bool) → ltb x c.best ≡ below → Dec (x ≡ c.best)
          → (below || (gives && eqb x c.best)) ≡ ltb x (threshold_on gives c.best)
      go true true e d = sym (lt-ltb x (c.best + 1) (omega (arith, ltb-true x c.best e)))
      go true false e (yes at) = eq-eqb x c.best at ∙ sym (lt-ltb x (c.best + 1) (omega arith))
      go true false e (no off) =
          ne_eqb x c.best off ∙ sym (le-ltb x (c.best + 1) (omega (arith, ltb-false x c.best e, off)))
      go false true e d = sym e
      go false false e d = sym e

-- where a choice ends: giving up at 1000 × D, or an own row that costs no more, at its value
pub data Landed (p : Problem) (v : ℕ → ℕ) (s : ℕ) (c : Chosen) : Type 0 where
  at_giving_up : c.pick ≡ give_up → c.best ≡ give_up_cost p → Landed p v s c
  at_row : own_row p s c.pick ≡ true → c.best ≡ row_value p v c.pick → c.best ≤ give_up_cost p → Landed p v s c

-- a pick: giving up, or one of the state's own rows
abbrev pub OwnPick : Problem → ℕ → ℕ → Type 0
OwnPick p s x = (x ≡ give_up) ⊎ (own_row p s x ≡ true)

pub landed_pick : {p : Problem} {v : ℕ → ℕ} {s : ℕ} {c : Chosen} → Landed p v s c → OwnPick p s c.pick
landed_pick (at_giving_up gives b) = inl gives
landed_pick (at_row own b low) = inr own

-- one row
module _ (q : ℕ → ℕ) (r : ℕ) (c : Chosen) where
  pub choose_keeps
      : (P : Chosen → Type 0) → (threshold c ≤ q r → P c) → (q r < threshold c → P (pick_of (q r) r)) → P (choose q r c)
  unfolding choose
  choose_keeps P old new = go (beats (q r) c.best c.pick) (sym (beats_below c (q r)))
    where
      go : (b : Bool) → ltb (q r) (threshold c) ≡ b → P (choose_on b (q r) r c)
      go true e = new (ltb-true _ _ e)
      go false e = old (ltb-false _ _ e)

  pub choose_falls : r < give_up → threshold (choose q r c) ≤ threshold c
  choose_falls l =
      choose_keeps (λ d. threshold d ≤ threshold c) (λ h. omega arith) (λ h. omega (arith, threshold_row (pick_of (q r) r) l))

  pub choose_under : r < give_up → threshold (choose q r c) ≤ q r
  choose_under l = choose_keeps (λ d. threshold d ≤ q r) (λ h. h) (λ h. omega (arith, threshold_row (pick_of (q r) r) l))

  pub choose_takes : q r < threshold c → choose q r c ≡ pick_of (q r) r
  choose_takes h = choose_keeps (λ d. d ≡ pick_of (q r) r) (λ l. absurd (omega arith)) (λ l. refl)

  pub choose_idle : threshold c ≤ q r → choose q r c ≡ c
  choose_idle h = choose_keeps (λ d. d ≡ c) (λ l. refl) (λ l. absurd (omega arith))

-- one backup: where it lands
module _ (p : Problem) (v : ℕ → ℕ) (s prev : ℕ) where
  pub choice_landed : Landed p v s (choice p v s prev)
  unfolding choice
  choice_landed =
      traverse_keeps p s prev (choose (row_value p v)) (giving_up p) (Landed p v s)
      (λ i c own old. choose_keeps (row_value p v) i c (Landed p v s) (λ l. old) (λ l. land i c own l old)) (at_giving_up refl refl)
    where
      land : (i : ℕ) (c : Chosen) → own_row p s i ≡ true → row_value p v i < threshold c → Landed p v s c
          → Landed p v s (pick_of (row_value p v i) i)
      land i c own less (at_giving_up e b) = at_row own refl (omega (arith, (threshold_near c).1))
      land i c own less (at_row o e b) = at_row own refl (omega (arith, (threshold_near c).1))

  pub choice_high : (choice p v s prev).best ≤ give_up_cost p
  choice_high = go (choice p v s prev) choice_landed
    where
      go : (c : Chosen) → Landed p v s c → c.best ≤ give_up_cost p
      go c (at_giving_up e b) = omega arith
      go c (at_row own e high) = high

pub same_chosen : {c d : Chosen} → c.best ≡ d.best → c.pick ≡ d.pick → c ≡ d
same_chosen b e = λ i. record { best = b i; pick = e i }

-- when a choice has come to row j: what is picked, and that where another row than before is picked, row i before it costs more than best
data Placed (prev j : ℕ) (c : Chosen) : Type 0 where
  at_mark : c.pick ≡ give_up → Placed prev j c
  at_prev : c.pick ≡ prev → Placed prev j c
  at_earlier : c.pick < j → Placed prev j c

record Order (q : ℕ → ℕ) (prev first j : ℕ) (c : Chosen) : Type 0 where
  placed : Placed prev j c
  unbeaten : (i : ℕ) → first ≤ i → i < j → (i ≡ prev → ⊥) → threshold c ≤ q i
  wins : (i : ℕ) → first ≤ i → i < j → (i ≡ prev → ⊥) → (c.pick ≡ prev → ⊥) → i < c.pick → c.best < q i

module _ (q : ℕ → ℕ) (prev first : ℕ) where
  placed_later : (j : ℕ) (c : Chosen) → Placed prev j c → Placed prev (suc j) c
  placed_later j c (at_mark e) = at_mark e
  placed_later j c (at_prev e) = at_prev e
  placed_later j c (at_earlier l) = at_earlier (omega arith)

  placed_wins : (j : ℕ) (c : Chosen) → Placed prev j c → threshold c ≤ q j → (c.pick ≡ prev → ⊥) → j < c.pick → c.best < q j
  placed_wins j c (at_mark e) under other before = omega (arith, threshold_giving_up c e)
  placed_wins j c (at_prev e) under other before = absurd (other e)
  placed_wins j c (at_earlier l) under other before = absurd (omega arith)

  order_begins : (c : Chosen) → Placed prev first c → Order q prev first first c
  order_begins c at =
      record { placed = at; unbeaten = λ i low high. absurd (omega arith); wins = λ i low high. absurd (omega arith) }

  -- a row that is not picked, or passed over
  order_on : (j : ℕ) (c : Chosen) → ((j ≡ prev → ⊥) → threshold c ≤ q j) → Order q prev first j c → Order q prev first (suc j) c
  order_on j c under h =
      record {
        placed = placed_later j c h.placed;
        unbeaten = λ i low high ne. at i high (λ k. threshold c ≤ q k) (λ e. under (λ o. ne (e ∙ o))) (λ l. h.unbeaten i low l ne);
        wins =
            λ i low high ne other before.
            at i high (λ k. c.best < q k) (λ e. placed_wins j c h.placed (under (λ o. ne (e ∙ o))) other (omega (arith, e)))
            (λ l. h.wins i low l ne other before);
      }
    where
      at : (i : ℕ) → i < suc j → (P : ℕ → Type 0) → (i ≡ j → P j) → (i < j → P i) → P i
      at i high P here there =
          ⊎_elim (λ e. let same : i ≡ j = omega (arith, e) in rw same (here same)) (λ l. there (omega arith)) (eq-or-lt_of_le high)

  order_picked
      : (j : ℕ) (c : Chosen) → j < give_up → q j < threshold c → Order q prev first j c → Order q prev first (suc j) (pick_of (q j) j)
  order_picked j c few less h =
      record {
        placed = at_earlier (omega arith);
        unbeaten = λ i low high ne. omega (arith, threshold_row (pick_of (q j) j) few, at i low high ne);
        wins = λ i low high ne other before. omega (arith, h.unbeaten i low before ne);
      }
    where
      at : (i : ℕ) → first ≤ i → i < suc j → (i ≡ prev → ⊥) → q j ≤ q i
      at i low high ne =
          ⊎_elim (λ (e : suc i ≡ suc j). let same : i ≡ j = omega arith in rw same (omega arith))
          (λ l. omega (arith, h.unbeaten i low (omega arith) ne)) (eq-or-lt_of_le high)

-- one backup in a file: nothing beats its choice
module _ (p : Problem) (formed : WellFormed p) (v : ℕ → ℕ) (s : ℕ) (state : s < p.states) where
  few : (r : ℕ) → own_row p s r ≡ true → r < give_up
  few r own = omega (arith, row_no_mark p formed s r state own)

  pub choice_unbeaten : (prev r : ℕ) → p.first_row s ≤ r → r < end_row p s → threshold (choice p v s prev) ≤ row_value p v r
  unfolding choice
  choice_unbeaten prev r low high =
      let q = row_value p v in
      traverse_every p s prev (choose q) (giving_up p) (λ i c. threshold c ≤ q i) (λ i c own. choose_under q i c (few i own))
      (λ i j c own h. omega (arith, choose_falls q j c (few j own))) r (own_within p s r low high)

  pub choice_under : (prev r : ℕ) → p.first_row s ≤ r → r < end_row p s → (choice p v s prev).best ≤ row_value p v r
  choice_under prev r low high = omega (arith, (threshold_near (choice p v s prev)).0, choice_unbeaten prev r low high)

  -- A choice that landed and that no own row beats is the choice after its own pick: put first, nothing beats it.
  pub landed_again
      : (c : Chosen) → Landed p v s c → ((r : ℕ) → p.first_row s ≤ r → r < end_row p s → threshold c ≤ row_value p v r)
      → choice p v s c.pick ≡ c
  unfolding choice
  landed_again c landed unbeaten =
      traverse_idle p s c.pick (choose (row_value p v)) (giving_up p) (λ own. first own landed) (λ none. given none landed)
      (λ i own other. choose_idle (row_value p v) i c (unbeaten i (own_low p s i own) (own_high p s i own)))
    where
      first : own_row p s c.pick ≡ true → Landed p v s c → choose (row_value p v) c.pick (giving_up p) ≡ c
      first own (at_giving_up e b) = absurd (omega (arith, few c.pick own))
      first own (at_row o b high) =
          choose_takes (row_value p v) c.pick (giving_up p) (omega (arith, threshold_giving_up (giving_up p) refl))
          ∙ same_chosen (sym b) refl

      given : own_row p s c.pick ≡ false → Landed p v s c → giving_up p ≡ c
      given none (at_giving_up e b) = same_chosen (sym b) (sym e)
      given none (at_row own b high) = absurd (true≢false (sym own ∙ none))

  -- "repick": a choice is its own next choice
  pub choice_again : (prev : ℕ) → choice p v s (choice p v s prev).pick ≡ choice p v s prev
  choice_again prev = landed_again (choice p v s prev) (choice_landed p v s prev) (choice_unbeaten prev)

  -- "among rows the earlier pick": where the row picked before is worth best, it is picked again
  pub pick_stays
      : (prev : ℕ) → own_row p s prev ≡ true → row_value p v prev ≤ (choice p v s prev).best → (choice p v s prev).pick ≡ prev
  pick_stays prev own least =
      let row = threshold_row (pick_of (row_value p v prev) prev) (omega (arith, row_no_mark p formed s prev state own)) in
      ap (λ c. c.pick)
      (landed_again (pick_of (row_value p v prev) prev) (at_row own refl (omega (arith, choice_high p v s prev)))
      (λ r low high. omega (arith, row, choice_under prev r low high)))

  -- "and then row order still win": where another is picked, each row before it costs more than best
  pub order_wins
      : (prev : ℕ) → ((choice p v s prev).pick ≡ prev → ⊥) → (r : ℕ) → own_row p s r ≡ true → r < (choice p v s prev).pick
      → (choice p v s prev).best < row_value p v r
  unfolding choice
  order_wins prev other r own before = go (ℕ_discrete r prev)
    where
      q : ℕ → ℕ
      q = row_value p v

      first : ℕ
      first = p.first_row s

      order : Order q prev first (end_row p s) (traverse (choose q) p s prev (giving_up p))
      order =
          traverse_along p s prev (choose q) (giving_up p) (Order q prev first)
          (λ o. order_begins q prev first _ (choose_keeps q prev (giving_up p) (Placed prev first) (λ l. at_mark refl) (λ l. at_prev refl)))
          (λ none. order_begins q prev first _ (at_mark refl))
          (λ i c o ne h.
          choose_keeps q i c (Order q prev first (suc i)) (λ l. order_on q prev first i c (λ k. l) h)
          (λ l. order_picked q prev first i c (few i o) l h))
          (λ c o h. order_on q prev first prev c (λ ne. absurd (ne refl)) h)

      go : Dec (r ≡ prev) → (choice p v s prev).best < row_value p v r
      go (yes at) =
          ⊎_elim (λ same. absurd (other (pick_stays prev (rw at at own) (omega (arith, ap (row_value p v) at))))) (λ l. l)
          (eq-or-lt_of_le (choice_under prev r (own_low p s r own) (own_high p s r own)))
      go (no off) = order.wins r (own_low p s r own) (own_high p s r own) off other before

  -- E1: "a stick is given up only when that is cheaper": where the choice gives up, every own row costs more than 1000 × D
  pub gives_up_dear
      : (prev : ℕ) → (choice p v s prev).pick ≡ give_up → (r : ℕ) → own_row p s r ≡ true → give_up_cost p < row_value p v r
  gives_up_dear prev gives r own =
      go (choice p v s prev) gives (choice_landed p v s prev) (choice_unbeaten prev r (own_low p s r own) (own_high p s r own))
    where
      go : (c : Chosen) → c.pick ≡ give_up → Landed p v s c → threshold c ≤ row_value p v r → give_up_cost p < row_value p v r
      go c g (at_giving_up e b) l = omega (arith, threshold_giving_up c g)
      go c g (at_row own b high) l = absurd (omega (arith, row_no_mark p formed s c.pick state own))
