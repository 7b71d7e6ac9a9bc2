-- Laws of the rows of one backup, one for each event of the code: a row skipped or evaluated, the pick before taken first,
-- and the loop over the others, in which what is left of the scan gives the same as the whole.
use mathlib.Core.Path.{◌≡◌, refl, sym, ◌∙◌, ap}
use Prim.Native.Nat.{ℕ, suc, ◌+◌, ◌-◌, ◌*◌, ◌≤◌, ◌<◌, min}
use native.Mathlib.Omega.{arith}
use mathlib.Core.Bool.{Bool, true, false, not}
use lib.Dec.{leb, ltb, eqb}
use mathlib.Core.List.{List}
use lib.ListN.{get_or, length, set}
use lib.Seq.{get_or-set_same}
use borrow.Author.Tests.{le-leb, leb-true, leb-false, ltb-true, ltb-false, eq-eqb, ne_eqb}
use Rattle.model.specs.Limits.{max_rows}
use Rattle.model.specs.Problem.{Problem}
use Rattle.model.specs.Sections.{problem_of}
use Rattle.model.specs.Value.{row_value, by_state}
use Rattle.model.specs.Rounds.{Found, beats, evaluate_on, evaluate, skipped, consider_on, consider, pick_of, taken_if, others_from}
use Rattle.guarantee.specs.Choosing.{threshold, threshold_row, threshold_near, beats_below}
use Rattle.guarantee.specs.Evaluations.{others_count}
use Rattle.guarantee.specs.Rests.{Resting, rest_after, consider_rest, consider_skips, others_found}
use Rattle.guarantee.specs.Scans.{chosen}
use Rattle.reading.specs.Entries.{row_code, code_from, code_to, code_from_lem, code_to_lem}
use Rattle.reading.specs.Ready.{RowReady}
use Rattle.reading.specs.RowParts.{part_from, part_to}
use Rattle.reading.specs.Tests.{rows_base}
use Rattle.reading.proofs.RowValues.{row_part_there, row_value_is}
use Rattle.backing.specs.declared.scan.Rows.{Rows}
use Rattle.backing.specs.Backable.{count_bound, Going, Scannable, Rowed, Apart, other_on, stop_on}
use Rattle.backing.specs.Backable.{rest_under, rest_taken_under, rest_others_under}

-- the code's test is the model's, and a scan goes on so from row r of value q
pub going_beats : (best pick : ℕ) {below : ℕ} → Going best below pick → (x : ℕ) → beats x best pick ≡ ltb x below
going_beats best pick h x = beats_below (pick_of best pick) x ∙ ap (ltb x) (sym h)

pub going_picked : (q r : ℕ) → r < max_rows → Going q q r
going_picked q r l = sym (threshold_row (pick_of q r) (omega arith))

-- an evaluation stores the row's value
evaluate_stores : (b : Bool) (q r : ℕ) (a : Found) → (evaluate_on b q r a).remembered ≡ set a.remembered r q
unfolding evaluate_on
evaluate_stores true q r a = refl
evaluate_stores false q r a = refl

-- a row that is skipped, and one that is evaluated, with rest beside it
module _ (p : Problem) (v : ℕ → ℕ) (r : ℕ) (a : Found) (x : ℕ) where
  abbrev resting_at : Found → ℕ → Resting
  resting_at c y = record { found = c; rest = y }

  abbrev before : Resting
  before = resting_at a x

  pub row_skipped
      : {below y : ℕ} → Going a.best below a.pick → below ≤ get_or a.remembered r 0 → y ≡ min x (get_or a.remembered r 0)
      → record { found = a; rest = y } ≡ consider_rest p v r before
  unfolding consider_rest
  row_skipped {below} {y} going least low =
      let high : threshold (chosen a) ≤ get_or a.remembered r 0 = rw (← going) least in
      let same : y ≡ rest_after x a.best (get_or a.remembered r 0) = omega (arith, low, (threshold_near (chosen a)).0) in
      ap (λ n. resting_at a n) same ∙ ap (λ (c : Found). resting_at c (rest_after x a.best (get_or c.remembered r 0))) (sym (consider_skips p v r high))

  pub row_evaluated
      : {q y : ℕ} {b : Found} → r < length a.remembered → skipped r a ≡ false → q ≡ row_value p v r → b ≡ evaluate q r a
      → y ≡ rest_after x a.best q → record { found = b; rest = y } ≡ consider_rest p v r before
  unfolding consider_rest consider consider_on evaluate_on
  row_evaluated {q} {y} {b} long not_skipped value same low =
      rw (not_skipped, ← value, evaluate_stores (beats q a.best a.pick) q r a, get_or-set_same a.remembered r q 0 long, same, low) refl

-- the rows of a problem under a table are what evaluating rows stands on, as long as what remembers them is long enough
pub scannable_of
    : (s : Rows) {remembered : List ℕ} → (problem_of s.problem.file.now).rows ≤ length remembered
    → Scannable s.problem.file.now s.problem.index.now s.values.now remembered
scannable_of s long = record { ready = s.problem.ready; values_long = s.long; remembered_long = long; fits = s.fits }

-- what evaluating row r stands on, as the index has the row, and by its code
module _ {f index values remembered : List ℕ} (h : Scannable f index values remembered) {r from to cost total : ℕ}
    (row : r < (problem_of f).rows) (ticks : cost ≡ get_or index (rows_base + 2 * r + 1) 0) (W : total ≡ (problem_of f).total) where
  pub rowed_at : from ≡ part_from index r → to ≡ part_to index r → Rowed f values (length remembered) r from to cost total
  rowed_at begins ends =
      let ready : RowReady f index (length values) r =
      record { ready = h.ready; entries_there = h.values_long; row_there = row } in
      rw (begins, ends, ticks, W)
      (record {
        part = row_part_there ready;
        known = h.ready.total_known;
        value = row_value_is ready (by_state values);
        fits = h.fits r row;
        few = omega (arith, h.ready.indexed.within.rows_high);
        there = omega (arith, h.remembered_long);
      })

  pub rowed_by_code
      : {code : ℕ} → code ≡ row_code index r → from ≡ code_from code → to ≡ code_to code
      → Rowed f values (length remembered) r from to cost total
  rowed_by_code is begins ends =
      rowed_at (begins ∙ ap code_from is ∙ code_from_lem h.ready.indexed r row) (ends ∙ ap code_to is ∙ code_to_lem h.ready.indexed r row)

-- the pick before, where its code is not 0
module _ (f values : List ℕ) (prev code : ℕ) (z : Resting) where
  pub pick_none : code ≡ 0 → z ≡ rest_taken_under (not (eqb code 0)) f values prev z
  unfolding taken_if
  pick_none e = rw (eq-eqb code 0 e) refl

  pub pick_taken : {y : Resting} → (code ≡ 0 → ⊥) → y ≡ rest_under f values prev z → y ≡ rest_taken_under (not (eqb code 0)) f values prev z
  unfolding taken_if
  pick_taken n e = rw (ne_eqb code 0 n) e

-- the position at which k others are done: that of the row picked before is passed over
abbrev pub place : ℕ → ℕ → ℕ
place prev k = other_on (leb prev k) k

module _ (f values : List ℕ) (prev end : ℕ) (z : Resting) where
  abbrev pub from : ℕ → Resting → Resting
  from r y = rest_others_under f values prev r (end - r) y

  one_row : (r : ℕ) → r < end → from r z ≡ from (r + 1) (rest_taken_under (not (eqb r prev)) f values r z)
  unfolding others_from
  one_row r l =
      let k : end - r ≡ suc (end - (r + 1)) = omega arith in
      let s : r + 1 ≡ suc r = omega arith in
      rw k (ap (λ x. rest_others_under f values prev x (end - (r + 1)) (rest_taken_under (not (eqb r prev)) f values r z)) (sym s))

  row_taken : (r : ℕ) → r < end → (r ≡ prev → ⊥) → from r z ≡ from (r + 1) (rest_under f values r z)
  unfolding taken_if
  row_taken r l n = one_row r l ∙ rw (ne_eqb r prev n) refl

  row_passed : (r : ℕ) → r < end → r ≡ prev → from r z ≡ from (r + 1) z
  unfolding taken_if
  row_passed r l e = one_row r l ∙ rw (eq-eqb r prev e) refl

  -- before the row picked before, or at it, what is left from k on is what is left from the place of k on
  at_place : (k : ℕ) → k ≤ end → (prev ≡ end → ⊥) → k ≤ prev → from k z ≡ from (place prev k) z
  at_place k l off low = go (leb prev k) refl
    where
      go : (b : Bool) → leb prev k ≡ b → from k z ≡ from (other_on b k) z
      go true e =
          let same : k ≡ prev = omega (arith, leb-true prev k e) in
          row_passed k (omega (arith, same, off)) same
      go false e = refl

-- the place of one more of them lies behind a row that is another than the one picked before
module _ {prev end k : ℕ} (off : prev ≡ end → ⊥) (more : k < stop_on (ltb prev end) end) where
  stop_near : (b : Bool) → ltb prev end ≡ b → k < stop_on b end → (k < end) × (prev ≤ k → k + 1 < end)
  stop_near true e l = (omega arith, λ h. omega arith)
  stop_near false e l = (l, λ h. omega (arith, ltb-false prev end e))

  pub other_inside : place prev k < end
  other_inside = go (leb prev k) refl
    where
      go : (b : Bool) → leb prev k ≡ b → other_on b k < end
      go true e = (stop_near (ltb prev end) refl more).1 (leb-true prev k e)
      go false e = (stop_near (ltb prev end) refl more).0

  other_else : place prev k ≡ prev → ⊥
  other_else = go (leb prev k) refl
    where
      go : (b : Bool) → leb prev k ≡ b → other_on b k ≡ prev → ⊥
      go true e h = omega (arith, leb-true prev k e)
      go false e h = omega (arith, leb-false prev k e)

  place_on : (f values : List ℕ) (z : Resting) → from f values prev end z (place prev k + 1) z ≡ from f values prev end z (place prev (k + 1)) z
  place_on f values z = go (leb prev k) refl
    where
      go : (b : Bool) → leb prev k ≡ b → from f values prev end z (other_on b k + 1) z ≡ from f values prev end z (place prev (k + 1)) z
      go true e = rw (le-leb prev (k + 1) (omega (arith, leb-true prev k e))) refl
      go false e =
          at_place f values prev end z (k + 1) (omega (arith, (stop_near (ltb prev end) refl more).0)) off (omega (arith, leb-false prev k e))

-- what is left of the scan when k others are done, from the place of k up to `end`
abbrev pub left_from : List ℕ → List ℕ → ℕ → ℕ → ℕ → Resting → Resting
left_from f values prev end k z = from f values prev end z (place prev k) z

module _ (f values : List ℕ) {first end prev : ℕ} (apart : Apart first end prev) (z : Resting) where
  pub left_starts : first ≤ end → left_from f values prev end first z ≡ from f values prev end z first z
  left_starts order = sym (at_place f values prev end z first order apart.off_end apart.low)

  module _ {stop : ℕ} (stops : stop ≡ stop_on (ltb prev end) end) (k : ℕ) (w : Resting) (left : left_from f values prev end k z ≡ w) where
    -- what is counted so far is at most what is counted in the end
    pub left_room : w.found.count < count_bound → z.found.count < count_bound
    left_room room =
        let r = place prev k in
        omega (
          arith,
          room,
          others_count (problem_of f) (by_state values) prev r (end - r) z.found,
          ap (λ (y : Found). y.count) (sym (others_found (problem_of f) (by_state values) prev r (end - r) z) ∙ ap (λ (y : Resting). y.found) left),
        )

    module _ (more : k < stop) {r : ℕ} (at : r ≡ place prev k) where
      on : k < stop_on (ltb prev end) end
      on = rw (← stops) more

      pub left_row : r < end
      left_row = rw at (other_inside apart.off_end on)

      pub left_taken : {y : Resting} → y ≡ rest_under f values r z → left_from f values prev end (k + 1) y ≡ w
      left_taken {y} same =
          sym (place_on apart.off_end on f values y)
          ∙ ap (λ x. from f values prev end x (place prev k + 1) x) (same ∙ ap (λ i. rest_under f values i z) at)
          ∙ sym (row_taken f values prev end z (place prev k) (other_inside apart.off_end on) (other_else apart.off_end on))
          ∙ left

    pub left_done : stop ≤ k → z ≡ w
    unfolding others_from
    left_done l =
        let over : end ≤ place prev k = go (ltb prev end) refl (leb prev k) refl (rw (← stops) l) in
        let none : end - place prev k ≡ 0 = omega arith in
        rw none at left
      where
        go : (b : Bool) → ltb prev end ≡ b → (c : Bool) → leb prev k ≡ c → stop_on b end ≤ k → end ≤ other_on c k
        go true e true e' l = omega arith
        go true e false e' l = omega (arith, ltb-true prev end e, leb-false prev k e')
        go false e true e' l = omega arith
        go false e false e' l = l
