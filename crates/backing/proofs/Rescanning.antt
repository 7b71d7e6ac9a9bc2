-- Laws of the scan of a state by its entries: the row picked before is the one whose code is entered; where it settles the scan, the
-- others change nothing and the entries stay; otherwise what the scan leaves is entered. Memories never fall, so all other entries fit.
use mathlib.Core.Path.{◌≡◌, refl, sym, ◌∙◌, ap, subst}
use Prim.Native.Nat.{ℕ, ◌+◌, ◌-◌, ◌*◌, ◌≤◌, ◌<◌}
use native.Mathlib.Decide.{ℕ_discrete}
use native.Mathlib.Omega.{arith}
use mathlib.Core.Bool.{Bool, true, false, ◌&&◌, not}
use mathlib.Core.List.{List, []}
use mathlib.Core.Logic.{◌⊎◌, inl, inr, ⊎_elim}
use lib.Dec.{leb, eqb}
use lib.ListN.{get_or, set, length, length-set}
use lib.Seq.{set-get_or, get_or-set_same, get_or-set_other}
use borrow.Author.Tests.{eq-eqb, ne_eqb, eqb-true, leb-true}
use Rattle.model.specs.Limits.{give_up, value_bound}
use Rattle.model.specs.Problem.{Problem, end_row, own_row}
use Rattle.model.specs.Sections.{problem_of}
use Rattle.model.specs.Value.{by_state}
use Rattle.model.specs.Rounds.{Found, Machine, taken_if, traverse, consider, pick_of, scan_of}
use Rattle.guarantee.specs.Walks.{own_row_lem}
use Rattle.guarantee.specs.Rows.{own_low, own_high, row_no_mark, give_up-not_own}
use Rattle.guarantee.specs.Searches.{and_left, and_right}
use Rattle.guarantee.specs.Tables.{pair_first, pair_second, pair_other}
use Rattle.guarantee.specs.Choosing.{OwnPick, landed_pick, choice_landed, threshold_giving_up}
use Rattle.guarantee.specs.Sound.{Sound, Allowed, holds_none, holds_giving_up, holds_own, scan_law}
use Rattle.guarantee.proofs.RowsFit.{evaluation_fits}
use Rattle.guarantee.specs.Evaluations.{scan_count}
use Rattle.guarantee.specs.Rests.{Resting, consider_rest, start_from, rest_from, Rested, RestFits, taken_found, traverse_found}
use Rattle.guarantee.specs.Rests.{rest_scanned, short_scan, rest_kept, never_falls}
use Rattle.reading.specs.Entries.{code_in, rest_in, row_code, code_on, pick_code, Coded, code_some, row_coded}
use Rattle.reading.specs.RowParts.{rows_begin, rows_end, own_at_lem}
use Rattle.reading.specs.Tests.{own_at}
use Rattle.reading.specs.declared.problem.Problem
use Rattle.backing.specs.declared.Terms.{Terms}
use Rattle.backing.specs.declared.Memory.{Memory}
use Rattle.backing.specs.Backable.{count_bound, resting, Going, Coding, Apart, ScanDone}
use Rattle.backing.specs.Backable.{value_under, rest_taken_under, rest_others_under}
use Rattle.backing.specs.Scanned.{machine_of, Fitting}

-- in sound tables every row value fits
pub sound_fits
    : (p : Problem.Problem) {values : List ℕ} {mem : Memory} → Fitting p values mem
    → (r : ℕ) → r < (problem_of p.file.now).rows → value_under p.file.now values r < value_bound
sound_fits p {values} {mem} h = evaluation_fits (problem_of p.file.now) p.formed (machine_of values mem [] 0 false) h.sound

-- a scan goes on from giving up
pub given_going : (give : ℕ) → Going give (give + 1) give_up
given_going give = sym (threshold_giving_up (pick_of give give_up) refl)

module _ (t : Terms) {values : List ℕ} {mem : Memory} (h : Fitting t.problem values mem) (s : ℕ)
    (state : s < (problem_of t.problem.file.now).states) (count : ℕ) where
  abbrev f : List ℕ
  f = t.problem.file.now

  abbrev index : List ℕ
  index = t.problem.index.now

  abbrev picks : List ℕ
  picks = mem.picks.now

  abbrev remembered : List ℕ
  remembered = mem.remembered.now

  abbrev entries : List ℕ
  entries = mem.entries.now

  abbrev p : Problem
  p = problem_of f

  abbrev v : ℕ → ℕ
  v = by_state values

  abbrev prev : ℕ
  prev = get_or picks s 0

  abbrev m : Machine
  m = machine_of values mem [] count false

  sound : Sound p m
  sound = h.sound

  -- the code of s is that of its pick, so that it is 0 where the pick is no own row
  code_is : (b : Bool) → own_at index s prev ≡ b → code_in entries s ≡ code_on b index prev
  code_is b e = h.kept.entered.codes s state ∙ ap (λ c. code_on c index prev) e

  own_is : (b : Bool) → own_at index s prev ≡ b → own_row p s prev ≡ b
  own_is b e = sym (own_at_lem f index t.problem.ready s state prev) ∙ e

  own_code : not (eqb (code_in entries s) 0) ≡ own_row p s prev
  own_code = go (own_at index s prev) refl
    where
      go : (b : Bool) → own_at index s prev ≡ b → not (eqb (code_in entries s) 0) ≡ own_row p s prev
      go true e =
          let row = own_row_lem p t.problem.formed s prev state (own_is true e) in
          let some : code_in entries s ≡ 0 → ⊥ = λ z. code_some t.problem.ready.indexed prev row (sym (code_is true e) ∙ z) in
          rw (ne_eqb (code_in entries s) 0 some) (sym (own_is true e))
      go false e = rw (eq-eqb (code_in entries s) 0 (code_is false e)) (sym (own_is false e))

  pub entry_coding : Coding f index (code_in entries s) prev
  entry_coding some = go (own_at index s prev) refl
    where
      go : (b : Bool) → own_at index s prev ≡ b → (prev < p.rows) × (code_in entries s ≡ row_code index prev)
      go true e = (own_row_lem p t.problem.formed s prev state (own_is true e), code_is true e)
      go false e = absurd (some (code_is false e))

  pub entry_there : 2 * s + 1 < length entries
  entry_there = omega (arith, h.kept.entered.long)

  -- the rows of the state, and the pick before among them or beyond them
  first_is : get_or index s 0 ≡ p.first_row s
  first_is = rows_begin f index t.problem.ready s state

  end_is : get_or index (s + 1) 0 ≡ end_row p s
  end_is = rows_end f index t.problem.ready s state

  pub rows_ordered : get_or index s 0 ≤ get_or index (s + 1) 0
  rows_ordered = omega (arith, first_is, end_is)

  pub rows_inside : get_or index (s + 1) 0 ≤ p.rows
  rows_inside = omega (arith, end_is, t.problem.ready.indexed.within.rows_within_lem s state)

  pub pick_apart : Apart (get_or index s 0) (get_or index (s + 1) 0) prev
  pick_apart = go (sound.picked s state)
    where
      beyond : p.rows < prev → Apart (get_or index s 0) (get_or index (s + 1) 0) prev
      beyond l = record { low = omega (arith, rows_ordered, rows_inside); off_end = λ e. omega (arith, rows_inside) }

      go : Allowed p s prev → Apart (get_or index s 0) (get_or index (s + 1) 0) prev
      go (holds_none e) = beyond (omega (arith, t.problem.formed.rows_high))
      go (holds_giving_up e) = beyond (omega (arith, t.problem.formed.rows_high))
      go (holds_own own) =
          record {
            low = omega (arith, first_is, own_low p s prev own);
            off_end = λ e. omega (arith, end_is, own_high p s prev own);
          }

  -- there is room to count
  pub start_room : (scan_of p s m).count < count_bound → count < count_bound
  start_room l = omega (arith, scan_count p v s prev (start_from p count remembered))

  -- the pick before is considered first
  abbrev first_taken : Resting
  first_taken = taken_if (consider_rest p v) (own_row p s prev) prev (rest_from p count remembered)

  pub taken_first
      : {z : Resting} → z ≡ rest_taken_under (not (eqb (code_in entries s) 0)) f values prev (resting t.give give_up count remembered t.give)
      → z ≡ first_taken
  taken_first e =
      e
      ∙ ap (λ x. rest_taken_under (not (eqb (code_in entries s) 0)) f values prev (resting x give_up count remembered x)) t.give_is
      ∙ ap (λ b. taken_if (consider_rest p v) b prev (rest_from p count remembered)) own_code

  -- what a scan leaves in the memories is no less than before
  risen : {a : Found} → a ≡ scan_of p s m → (r : ℕ) → get_or remembered r 0 ≤ get_or a.remembered r 0
  risen same r = rw same (never_falls p s m t.problem.formed state sound r)

  -- where the pick before is picked again, and best is at most rest, the scan is done, and all entries stay
  pub scan_settled
      : {z : Resting} {rest : ℕ} {b : Bool} → z ≡ first_taken → rest ≡ rest_in entries s
      → b ≡ (eqb z.found.pick prev && leb z.found.best rest) → b ≡ true → ScanDone f index s m z.found picks entries
  unfolding taken_if
  scan_settled {z} {rest} {b} first is test yes_it =
      let both : (eqb z.found.pick prev && leb z.found.best rest) ≡ true = sym test ∙ yes_it in
      let stays : z.found.pick ≡ prev = eqb-true _ _ (and_left (eqb z.found.pick prev) _ both) in
      let least : z.found.best ≤ rest = leb-true _ _ (and_right (eqb z.found.pick prev) _ both) in
      done stays (rw (← is) least)
    where
      taken : z.found ≡ taken_if (consider p v) (own_row p s prev) prev (start_from p count remembered)
      taken = ap (λ (y : Resting). y.found) first ∙ taken_found p v prev (own_row p s prev) (rest_from p count remembered)

      done : z.found.pick ≡ prev → z.found.best ≤ rest_in entries s → ScanDone f index s m z.found picks entries
      done stays least =
          let whole =
          short_scan t.problem.formed state v count (h.kept.rests s state) (ap (λ (a : Found). a.pick) (sym taken) ∙ stays)
          (rw (← ap (λ (a : Found). a.best) taken) least) in
          let same : z.found ≡ scan_of p s m = taken ∙ sym whole in
          record {
            same = same;
            picks = sym (ap (set picks s) stays ∙ set-get_or picks s 0);
            kept = record { entered = h.kept.entered; rests = λ j l. rest_kept (h.kept.rests j l) (risen same) };
          }

  -- otherwise the others follow, and the scan is done
  module _ {z y : Resting} {first end : ℕ} (taken : z ≡ first_taken) (low : first ≡ get_or index s 0) (high : end ≡ get_or index (s + 1) 0)
      (rest_of : y ≡ rest_others_under f values prev first (end - first) z) where
    whole : y ≡ traverse (consider_rest p v) p s prev (rest_from p count remembered)
    unfolding traverse
    whole =
        let begin : first ≡ p.first_row s = low ∙ first_is in
        let number : end - first ≡ p.row_count s = omega (arith, low, high, first_is, end_is) in
        rest_of ∙ rw (taken, number, begin) refl

    same_scan : y.found ≡ scan_of p s m
    same_scan = ap (λ (x : Resting). x.found) whole ∙ traverse_found p v prev s (rest_from p count remembered)

    serves : Rested p s y
    serves =
        subst (Rested p s) (sym whole) (rest_scanned t.problem.formed state v prev count remembered sound.remembered_length)

    landed : OwnPick p s y.found.pick
    landed =
        rw (ap (λ (a : Found). a.pick) same_scan ∙ ap (λ c. c.pick) (scan_law p t.problem.formed s m state sound).ends)
        (landed_pick (choice_landed p v s prev))

    pub entering : (y.found.pick ≡ give_up) ⊎ Coded index y.found.pick
    entering =
        ⊎_elim inl (λ own. inr (row_coded t.problem.ready.indexed y.found.pick (own_row_lem p t.problem.formed s y.found.pick state own))) landed

    -- the code that is entered is that of the pick
    code_entered : code_on (not (eqb y.found.pick give_up)) index y.found.pick ≡ pick_code index s y.found.pick
    code_entered = ⊎_elim gives owns landed
      where
        pick : ℕ
        pick = y.found.pick

        gives : pick ≡ give_up → code_on (not (eqb pick give_up)) index pick ≡ pick_code index s pick
        gives e =
            rw (eq-eqb pick give_up e, own_at_lem f index t.problem.ready s state pick, ap (own_row p s) e, give_up-not_own p t.problem.formed s state) refl

        owns : own_row p s pick ≡ true → code_on (not (eqb pick give_up)) index pick ≡ pick_code index s pick
        owns own =
            let few : pick < give_up = omega (arith, row_no_mark p t.problem.formed s pick state own) in
            rw (ne_eqb pick give_up (λ e. omega arith), own_at_lem f index t.problem.ready s state pick, own) refl

    pub scan_entered
        : {entries' : List ℕ}
        → entries' ≡ set (set entries (2 * s) (code_on (not (eqb y.found.pick give_up)) index y.found.pick)) (2 * s + 1) y.rest
        → ScanDone f index s m y.found (set picks s y.found.pick) entries'
    scan_entered {entries'} stored =
        record {
          same = same_scan;
          picks = refl;
          kept =
              record {
                entered =
                    record {
                      long =
                          rw stored
                          (omega (arith, h.kept.entered.long, length-set (set entries (2 * s) c) (2 * s + 1) x, length-set entries (2 * s) c));
                      codes = λ j l. code_at j l (ℕ_discrete j s);
                    };
                rests = λ j l. rest_at j l (ℕ_discrete j s);
              };
        }
      where
        c : ℕ
        c = code_on (not (eqb y.found.pick give_up)) index y.found.pick

        x : ℕ
        x = y.rest

        long_picks : s < length picks
        long_picks = omega (arith, sound.picks_length)

        stays : (j : ℕ) → (j ≡ s → ⊥) → get_or (set picks s y.found.pick) j 0 ≡ get_or picks j 0
        stays j off = get_or-set_other picks s j y.found.pick 0 off

        code_at : (j : ℕ) → j < p.states → Dec (j ≡ s)
            → code_in entries' j ≡ pick_code index j (get_or (set picks s y.found.pick) j 0)
        code_at j l (yes at) =
            rw (at, stored, pair_first entries (2 * s) c x (omega (arith, entry_there)), get_or-set_same picks s y.found.pick 0 long_picks)
            code_entered
        code_at j l (no off) =
            rw (stays j off, stored, pair_other entries (2 * s) c x (2 * j) (λ e. off (omega arith)) (λ e. omega arith))
            (h.kept.entered.codes j l)

        rest_at : (j : ℕ) → j < p.states → Dec (j ≡ s)
            → RestFits p j (get_or (set picks s y.found.pick) j 0) y.found.remembered (rest_in entries' j)
        rest_at j l (yes at) =
            rw (at, stored, pair_second entries (2 * s) c x (omega (arith, entry_there)), get_or-set_same picks s y.found.pick 0 long_picks)
            serves
        rest_at j l (no off) =
            rw (stays j off, stored, pair_other entries (2 * s) c x (2 * j + 1) (λ e. omega arith) (λ e. off (omega arith)))
            (rest_kept (h.kept.rests j l) (risen same_scan))

  -- there is room to count the others
  pub others_room
      : {z : Resting} → z ≡ first_taken → (scan_of p s m).count < count_bound
      → (rest_others_under f values prev (get_or index s 0) (get_or index (s + 1) 0 - get_or index s 0) z).found.count < count_bound
  others_room taken l = rw (ap (λ (a : Found). a.count) (same_scan taken refl refl refl)) l
