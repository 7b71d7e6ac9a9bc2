-- `rest`, one number a state: where the pick before is picked again and best is at most rest, the others are left out.
-- What a scan leaves fits, 0 always fits, and memories never fall: each by the three cases of one row considered.
use Rattle.std.specs.Prelude.{◌≡◌, Bool, not, List, leb, eqb, get_or, set}
use Rattle.std.proofs.Math.Path.{refl, ap}
use Rattle.std.proofs.Common.{sym, ◌∙◌, arith, true≢false, get_or-set_same, get_or-set_other}
use Prim.Native.Nat.{ℕ, zero, suc, ◌+◌, ◌≤◌, ◌<◌, min, max}
use Rattle.std.proofs.Math.Decide.{ℕ_discrete}
use Rattle.std.proofs.Math.Bool.{true, false}
use Rattle.std.proofs.Math.Dec.{ltb}
use Rattle.std.proofs.Math.ListN.{length, length-set}
use borrow.Author.Tests.{ltb-true, ltb-false, le-ltb, lt-leb}
use Rattle.model.specs.Limits.{give_up}
use Rattle.model.specs.Problem.{Problem, give_up_cost, own_row}
use Rattle.model.specs.Value.{row_value, by_state}
use Rattle.model.specs.Rounds.{taken_if, others_from, traverse, Found, beats, evaluate_on, consider_on, consider, pick_of}
use Rattle.model.specs.Rounds.{Machine, scan_start, scan_of, raise_on}
use Rattle.guarantee.specs.WellFormed.{WellFormed}
use Rattle.guarantee.specs.Walks.{own_row_lem}
use Rattle.guarantee.specs.Tables.{stored}
use Rattle.guarantee.specs.Rows.{row_no_mark}
use Rattle.guarantee.specs.Traversals.{traverse_keeps, traverse_every, traverse_idle}
use Rattle.guarantee.specs.Choosing.{threshold, threshold_near, threshold_row, threshold_giving_up, beats_below}
use Rattle.guarantee.specs.Scans.{chosen}
use Rattle.guarantee.specs.Sound.{Sound}

-- a scan so far with rest beside it
pub record Resting : Type 0 where
  pub found : Found
  pub rest : ℕ

-- rest after a row, from rest and best before it and what the row then remembers
abbrev pub rest_after : ℕ → ℕ → ℕ → ℕ
rest_after x b y = min x (max y b)

-- a row is considered, and rest follows
unfoldable pub consider_rest : Problem → (ℕ → ℕ) → ℕ → Resting → Resting
consider_rest p v r z =
    record {
      found = consider p v r z.found;
      rest = rest_after z.rest z.found.best (get_or (consider p v r z.found).remembered r 0);
    }

-- "Set best to 1000 × D and the pick to giving up.", with c evaluations counted and l remembered
abbrev pub start_from : Problem → ℕ → List ℕ → Found
start_from p c l = record { best = give_up_cost p; pick = give_up; count = c; remembered = l }

-- and rest begins at 1000 × D
abbrev pub rest_from : Problem → ℕ → List ℕ → Resting
rest_from p c l = record { found = start_from p c l; rest = give_up_cost p }

-- what a number must satisfy to serve as rest at s, where `prev` is the pick before
pub record RestFits (p : Problem) (s prev : ℕ) (remembered : List ℕ) (x : ℕ) : Type 0 where
  pub low : x ≤ give_up_cost p
  pub others : (r : ℕ) → own_row p s r ≡ true → (r ≡ prev → ⊥) → x ≤ get_or remembered r 0
  pub given : prev ≡ give_up → x ≡ give_up_cost p → (r : ℕ) → own_row p s r ≡ true → give_up_cost p < get_or remembered r 0

-- and what a scan with rest beside it leaves
abbrev pub Rested : Problem → ℕ → Resting → Type 0
Rested p s z = RestFits p s z.found.pick z.found.remembered z.rest

-- a scan so far once row r was evaluated, with what is then best and picked
abbrev pub evaluated_as : ℕ → ℕ → ℕ → ℕ → Found → Found
evaluated_as best pick r q a =
    record { best = best; pick = pick; count = a.count + 1; remembered = set a.remembered r q }

-- one row
module _ (p : Problem) (v : ℕ → ℕ) (r : ℕ) where
  -- the row is skipped, or evaluated and not picked, or picked
  pub consider_cases
      : (a : Found) (P : Found → Type 0) → (threshold (chosen a) ≤ get_or a.remembered r 0 → P a)
      → (threshold (chosen a) ≤ row_value p v r → P (evaluated_as a.best a.pick r (row_value p v r) a))
      → (row_value p v r < threshold (chosen a) → P (evaluated_as (row_value p v r) r r (row_value p v r) a))
      → P (consider p v r a)
  unfolding consider consider_on evaluate_on
  consider_cases a P skipped counted picked =
      go (beats (get_or a.remembered r 0) a.best a.pick) (sym (beats_below (chosen a) _))
    where
      on : (b : Bool) → ltb (row_value p v r) (threshold (chosen a)) ≡ b → P (evaluate_on b (row_value p v r) r a)
      on true e = picked (ltb-true _ _ e)
      on false e = counted (ltb-false _ _ e)

      go : (b : Bool) → ltb (get_or a.remembered r 0) (threshold (chosen a)) ≡ b → P (consider_on (not b) p v r a)
      go true e = on (beats (row_value p v r) a.best a.pick) (sym (beats_below (chosen a) _))
      go false e = skipped (ltb-false _ _ e)

  -- a row that remembers enough changes nothing
  pub consider_skips : {a : Found} → threshold (chosen a) ≤ get_or a.remembered r 0 → consider p v r a ≡ a
  unfolding consider consider_on
  consider_skips {a} h =
      rw (beats_below (chosen a) (get_or a.remembered r 0), le-ltb (get_or a.remembered r 0) (threshold (chosen a)) h)

  -- no other row's memory changes
  pub consider_other
      : (a : Found) (i : ℕ) → (i ≡ r → ⊥) → get_or (consider p v r a).remembered i 0 ≡ get_or a.remembered i 0
  consider_other a i ne =
      consider_cases a (λ b. get_or b.remembered i 0 ≡ get_or a.remembered i 0) (λ h. refl)
      (λ h. get_or-set_other a.remembered r i _ 0 ne) (λ h. get_or-set_other a.remembered r i _ 0 ne)

  pub consider_length : (a : Found) → length (consider p v r a).remembered ≡ length a.remembered
  consider_length a =
      consider_cases a (λ b. length b.remembered ≡ length a.remembered) (λ h. refl)
      (λ h. length-set a.remembered r _) (λ h. length-set a.remembered r _)

  pub taken_found
      : (b : Bool) (z : Resting) → (taken_if (consider_rest p v) b r z).found ≡ taken_if (consider p v) b r z.found
  unfolding taken_if consider_rest
  taken_found true z = refl
  taken_found false z = refl

-- a scan with rest beside it is the scan
module _ (p : Problem) (v : ℕ → ℕ) (prev : ℕ) where
  pub others_found
      : (r k : ℕ) (z : Resting)
      → (others_from (consider_rest p v) prev r k z).found ≡ others_from (consider p v) prev r k z.found
  unfolding others_from
  others_found r zero z = refl
  others_found r (suc k) z =
      others_found (suc r) k _ ∙ ap (others_from (consider p v) prev (suc r) k) (taken_found p v r (not (eqb r prev)) z)

  pub traverse_found
      : (s : ℕ) (z : Resting)
      → (traverse (consider_rest p v) p s prev z).found ≡ traverse (consider p v) p s prev z.found
  unfolding traverse
  traverse_found s z =
      others_found (p.first_row s) (p.row_count s) _
      ∙ ap (others_from (consider p v) prev (p.first_row s) (p.row_count s)) (taken_found p v prev (own_row p s prev) z)

-- a row that was considered remembers at least best and, where it is not the pick, rest, and enough to be skipped
record Seen (i : ℕ) (z : Resting) : Type 0 where
  best_low : z.found.best ≤ get_or z.found.remembered i 0
  rest_low : (i ≡ z.found.pick → ⊥) → z.rest ≤ get_or z.found.remembered i 0
  skippable : (i ≡ z.found.pick → ⊥) → threshold (chosen z.found) ≤ get_or z.found.remembered i 0

-- what a scan keeps: how much is remembered, rest at most 1000 × D, and best at 1000 × D while giving up is best
record Kept (p : Problem) (n : ℕ) (z : Resting) : Type 0 where
  size : length z.found.remembered ≡ n
  high : z.rest ≤ give_up_cost p
  gives : z.found.pick ≡ give_up → z.found.best ≡ give_up_cost p

module _ (p : Problem) (v : ℕ → ℕ) where
  rest_length : (i : ℕ) (z : Resting) → length (consider_rest p v i z).found.remembered ≡ length z.found.remembered
  unfolding consider_rest
  rest_length i z = consider_length p v i z.found

  -- a row that is considered has been seen
  seen_taken : (i : ℕ) (z : Resting) → i < length z.found.remembered → Seen i (consider_rest p v i z)
  unfolding consider_rest
  seen_taken i z long =
      consider_cases p v i a
      (λ b. Seen i (record { found = b; rest = rest_after z.rest a.best (get_or b.remembered i 0) }))
      (λ h.
      record {
        best_low = omega (arith, (threshold_near (chosen a)).0);
        rest_low = λ ne. omega (arith, (threshold_near (chosen a)).0);
        skippable = λ ne. h;
      })
      (λ h.
      record {
        best_low = omega (arith, now, (threshold_near (chosen a)).0);
        rest_low = λ ne. omega (arith, now, (threshold_near (chosen a)).0);
        skippable = λ ne. omega (arith, now);
      })
      (λ h.
      record {
        best_low = omega (arith, now);
        rest_low = λ ne. absurd (ne refl);
        skippable = λ ne. absurd (ne refl);
      })
    where
      a : Found
      a = z.found

      now : get_or (set a.remembered i (row_value p v i)) i 0 ≡ row_value p v i
      now = get_or-set_same a.remembered i (row_value p v i) 0 long

  -- and what was seen stays so while another row is considered
  seen_stays
      : (i j : ℕ) (z : Resting) → (i ≡ j → ⊥) → i < give_up → j < give_up → j < length z.found.remembered
      → Seen i z → Seen i (consider_rest p v j z)
  unfolding consider_rest
  seen_stays i j z other few_i few_j long seen =
      consider_cases p v j a
      (λ b. Seen i (record { found = b; rest = rest_after z.rest a.best (get_or b.remembered j 0) }))
      (λ h.
      record {
        best_low = seen.best_low;
        rest_low = λ ne. omega (arith, seen.rest_low ne);
        skippable = seen.skippable;
      })
      (λ h.
      record {
        best_low = omega (arith, kept, seen.best_low);
        rest_low = λ ne. omega (arith, kept, seen.rest_low ne);
        skippable = λ ne. omega (arith, kept, seen.skippable ne);
      })
      (λ h. picked h (ℕ_discrete i a.pick))
    where
      a : Found
      a = z.found

      q : ℕ
      q = row_value p v j

      kept : get_or (set a.remembered j q) i 0 ≡ get_or a.remembered i 0
      kept = get_or-set_other a.remembered j i q 0 other

      now : get_or (set a.remembered j q) j 0 ≡ q
      now = get_or-set_same a.remembered j q 0 long

      picked
          : q < threshold (chosen a) → Dec (i ≡ a.pick)
          → Seen i
          (record {
            found = evaluated_as q j j q a;
            rest = rest_after z.rest a.best (get_or (set a.remembered j q) j 0);
          })
      picked h (yes at) =
          let row = threshold_row (chosen a) (omega arith) in
          record {
            best_low = omega (arith, kept, row, seen.best_low);
            rest_low = λ ne. omega (arith, kept, now, row, seen.best_low);
            skippable = λ ne. omega (arith, kept, row, seen.best_low, threshold_row (pick_of q j) few_j);
          }
      picked h (no off) =
          record {
            best_low = omega (arith, kept, seen.skippable off);
            rest_low = λ ne. omega (arith, kept, seen.rest_low off);
            skippable = λ ne. omega (arith, kept, seen.skippable off, threshold_row (pick_of q j) few_j);
          }

  kept_taken : (n j : ℕ) (z : Resting) → j < give_up → Kept p n z → Kept p n (consider_rest p v j z)
  unfolding consider_rest
  kept_taken n j z few h =
      consider_cases p v j z.found
      (λ b. Kept p n (record { found = b; rest = rest_after z.rest z.found.best (get_or b.remembered j 0) }))
      (λ l. record { size = h.size; high = omega (arith, h.high); gives = h.gives })
      (λ l. record { size = same ∙ h.size; high = omega (arith, h.high); gives = h.gives })
      (λ l. record { size = same ∙ h.size; high = omega (arith, h.high); gives = λ e. absurd (omega arith) })
    where
      same : length (set z.found.remembered j (row_value p v j)) ≡ length z.found.remembered
      same = length-set z.found.remembered j (row_value p v j)

module _ {p : Problem} (formed : WellFormed p) {s : ℕ} (state : s < p.states) where
  few : (r : ℕ) → own_row p s r ≡ true → r < give_up
  few r own = omega (arith, row_no_mark p formed s r state own)

  -- after any scan the number that stands beside it serves as rest
  pub rest_scanned
      : (v : ℕ → ℕ) (prev c : ℕ) (l : List ℕ) → p.rows ≤ length l
      → Rested p s (traverse (consider_rest p v) p s prev (rest_from p c l))
  rest_scanned v prev c l long =
      fits (traverse (consider_rest p v) p s prev (rest_from p c l))
      (traverse_keeps p s prev (consider_rest p v) (rest_from p c l) (Kept p (length l))
      (λ i z own h. kept_taken p v (length l) i z (few i own) h)
      (record { size = refl; high = omega arith; gives = λ e. refl }))
      (traverse_every p s prev (consider_rest p v) (rest_from p c l) Along
      (λ i z own few_i size. seen_taken p v i z (room i z own size))
      (λ i j z own h few_i size.
      later i j z own few_i size (h few_i (sym (rest_length p v j z) ∙ size)) (ℕ_discrete i j)))
    where
      Along : ℕ → Resting → Type 0
      Along i z = i < give_up → length z.found.remembered ≡ length l → Seen i z

      room : (i : ℕ) (z : Resting) → own_row p s i ≡ true → length (consider_rest p v i z).found.remembered ≡ length l
          → i < length z.found.remembered
      room i z own size = omega (arith, rest_length p v i z, own_row_lem p formed s i state own)

      later
          : (i j : ℕ) (z : Resting) → own_row p s j ≡ true → i < give_up
          → length (consider_rest p v j z).found.remembered ≡ length l → Seen i z → Dec (i ≡ j)
          → Seen i (consider_rest p v j z)
      later i j z own few_i size seen (yes at) = rw at (seen_taken p v j z (room j z own size))
      later i j z own few_i size seen (no off) = seen_stays p v i j z off few_i (few j own) (room j z own size) seen

      fits : (z : Resting) → Kept p (length l) z → ((i : ℕ) → own_row p s i ≡ true → Along i z) → Rested p s z
      fits z kept seen =
          record {
            low = kept.high;
            others = λ r own ne. (seen r own (few r own) kept.size).rest_low ne;
            given =
                λ gives e r own.
                omega (
                  arith,
                  threshold_giving_up (chosen z.found) gives,
                  kept.gives gives,
                  (seen r own (few r own) kept.size).skippable (λ at. omega (arith, few r own)),
                );
          }

  -- while nothing is picked, a row that remembers more than 1000 × D changes nothing
  dear_skips
      : (v : ℕ → ℕ) (c : ℕ) {l : List ℕ} (i : ℕ) → give_up_cost p < get_or l i 0
      → consider p v i (start_from p c l) ≡ start_from p c l
  dear_skips v c {l} i h = consider_skips p v i (omega (arith, threshold_giving_up (chosen (start_from p c l)) refl))

  -- where the pick before, a row or giving up, is picked again and best is at most rest, the others change nothing
  pub short_scan
      : (v : ℕ → ℕ) {prev : ℕ} (c : ℕ) {l : List ℕ} {x : ℕ} → RestFits p s prev l x
      → (taken_if (consider p v) (own_row p s prev) prev (start_from p c l)).pick ≡ prev
      → (taken_if (consider p v) (own_row p s prev) prev (start_from p c l)).best ≤ x
      → traverse (consider p v) p s prev (start_from p c l)
      ≡ taken_if (consider p v) (own_row p s prev) prev (start_from p c l)
  unfolding taken_if
  short_scan v {prev} c {l} {x} fits = go (own_row p s prev) refl
    where
      start : Found
      start = start_from p c l

      go : (own : Bool) → own_row p s prev ≡ own → (taken_if (consider p v) own prev start).pick ≡ prev
          → (taken_if (consider p v) own prev start).best ≤ x
          → traverse (consider p v) p s prev start ≡ taken_if (consider p v) own prev start
      go true own stays least =
          let row = threshold_row (chosen (consider p v prev start)) (rw stays (few prev own)) in
          traverse_idle p s prev (consider p v) start (λ o. refl) (λ none. absurd (true≢false (sym own ∙ none)))
          (λ i o other.
          consider_skips p v i (omega (arith, row, consider_other p v prev start i other, fits.others i o other)))
      go false none stays least =
          traverse_idle p s prev (consider p v) start (λ own. absurd (true≢false (sym own ∙ none))) (λ o. refl)
          (λ i o other. dear_skips v c i (fits.given (sym stays) (omega (arith, fits.low)) i o))

  -- where giving up was the pick and rest is 1000 × D, a scan evaluates nothing and gives up again
  pub gave_up_stays
      : (v : ℕ → ℕ) (c : ℕ) {l : List ℕ} → RestFits p s give_up l (give_up_cost p)
      → traverse (consider p v) p s give_up (start_from p c l) ≡ start_from p c l
  gave_up_stays v c {l} fits =
      traverse_idle p s give_up (consider p v) (start_from p c l) (λ own. absurd (omega (arith, few give_up own)))
      (λ none. refl) (λ i own other. dear_skips v c i (fits.given refl refl i own))

-- 0 always serves
pub rest_none : {p : Problem} {s prev : ℕ} {l : List ℕ} → WellFormed p → RestFits p s prev l 0
rest_none formed =
    record {
      low = omega arith;
      others = λ r own ne. omega arith;
      given = λ gives e. absurd (omega (arith, formed.penalty_low));
    }

-- and what serves, serves by memories that are no less
pub rest_kept
    : {p : Problem} {s prev : ℕ} {l l' : List ℕ} {x : ℕ} → RestFits p s prev l x → ((r : ℕ) → get_or l r 0 ≤ get_or l' r 0)
    → RestFits p s prev l' x
rest_kept fits rises =
    record {
      low = fits.low;
      others = λ r own ne. omega (arith, rises r, fits.others r own ne);
      given = λ gives e r own. omega (arith, rises r, fits.given gives e r own);
    }

-- what is remembered never falls: what is stored is a row's value, and what was remembered is at most that
pub never_falls
    : (p : Problem) (s : ℕ) (m : Machine) → WellFormed p → s < p.states → Sound p m → (r : ℕ)
    → get_or m.remembered r 0 ≤ get_or (scan_of p s m).remembered r 0
never_falls p s m formed state sound =
    traverse_keeps p s (get_or m.picks s 0) (consider p v) (scan_start p m) Risen
    (λ i a own risen. consider_cases p v i a Risen (λ h. risen) (λ h. store i a own risen) (λ h. store i a own risen))
    (λ r. omega arith)
  where
    v : ℕ → ℕ
    v = by_state m.values

    Risen : Found → Type 0
    Risen a = (r : ℕ) → get_or m.remembered r 0 ≤ get_or a.remembered r 0

    store : (i : ℕ) (a : Found) → own_row p s i ≡ true → Risen a → (r : ℕ)
        → get_or m.remembered r 0 ≤ get_or (set a.remembered i (row_value p v i)) r 0
    store i a own risen =
        stored (λ r x. get_or m.remembered r 0 ≤ x) a.remembered i (row_value p v i) risen
        (sound.memory i (own_row_lem p formed s i state own))

-- a value that a backup left, raised to x or not, is not raised to x by another one with the same tolerance; by a lower one it may be. So
-- the value of a state that gave up moves again only where the tolerance falls
pub raised_once
    : (l : List ℕ) (s e x : ℕ) → 1 ≤ e → s < length l
    → leb (get_or (raise_on (leb (get_or l s 0 + e) x) l s x) s 0 + e) x ≡ false
unfolding raise_on
raised_once l s e x low long = go (leb (get_or l s 0 + e) x) refl
  where
    go : (b : Bool) → leb (get_or l s 0 + e) x ≡ b → leb (get_or (raise_on b l s x) s 0 + e) x ≡ false
    go true h = rw (get_or-set_same l s x 0 long) (lt-leb (x + e) x (omega arith))
    go false h = h
