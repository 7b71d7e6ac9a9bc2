-- How many evaluations are counted: no step takes any back, a backup counts each own row at most once, a round each row of the file.
-- The row picked before is considered first and passed over in the scan; the listed states are distinct, so their rows are too.
use Rattle.std.specs.Prelude.{◌≡◌, ℕ, suc, ◌+◌, ◌≤◌, ◌<◌, Bool, get_or}
use native.Mathlib.Omega.{arith}
use Rattle.std.proofs.Math.Bool.{true, false}
use mathlib.Core.List.{List, [], ◌∷◌}
use Rattle.model.specs.Problem.{Problem, end_row, own_row}
use Rattle.model.specs.Value.{row_value, by_state}
use Rattle.model.specs.Walk.{walk}
use Rattle.model.specs.Rounds.{others_from, Found, Machine, beats, skipped, evaluate_on, consider_on, consider, scan}
use Rattle.model.specs.Rounds.{scan_start, settle, backup, backups, walked, round, round_with}
use Rattle.guarantee.specs.WellFormed.{WellFormed}
use Rattle.guarantee.specs.Rows.{own_low, own_high}
use Rattle.guarantee.specs.Traversals.{others_keep, traverse_along}
use Rattle.guarantee.specs.Graphs.{sum_over}
use Rattle.guarantee.specs.Walks.{listed_rows}

-- a count goes from a to b: it never falls, and rises by at most k
pub record Counted (a b k : ℕ) : Type 0 where
  pub no_less : a ≤ b
  pub no_more : b ≤ a + k

module _ (p : Problem) (v : ℕ → ℕ) where
  evaluated_count : (b : Bool) (q r : ℕ) (a : Found) → Counted a.count (evaluate_on b q r a).count 1
  unfolding evaluate_on
  evaluated_count true q r a = omega arith
  evaluated_count false q r a = omega arith

  pub consider_count : (r : ℕ) (a : Found) → Counted a.count (consider p v r a).count 1
  unfolding consider consider_on
  consider_count r a = go (skipped r a)
    where
      go : (b : Bool) → Counted a.count (consider_on b p v r a).count 1
      go true = omega arith
      go false = evaluated_count (beats (row_value p v r) a.best a.pick) (row_value p v r) r a

  pub others_count : (prev r k : ℕ) (a : Found) → a.count ≤ (others_from (consider p v) prev r k a).count
  others_count prev r k a =
      others_keep (consider p v) prev k r a (λ (b : Found). a.count ≤ b.count)
      (λ i b l. omega (arith, l, (consider_count i b).no_less)) (omega arith)

  -- when a scan has come to row j: one row more may be counted than those before j, while the one picked before is not passed over
  record CountedTo (s prev base j : ℕ) (a : Found) : Type 0 where
    no_less : base ≤ a.count
    near : a.count + p.first_row s ≤ base + j + 1
    no_more : (own_row p s prev ≡ true → prev < j) → a.count + p.first_row s ≤ base + j

  -- a scan counts at most the state's rows
  pub scan_count : (s prev : ℕ) (a : Found) → Counted a.count (scan p v s prev a).count (p.row_count s)
  scan_count s prev a = record { no_less = to.no_less; no_more = omega (arith, to.no_more (own_high p s prev)) }
    where
      to : CountedTo s prev a.count (end_row p s) (scan p v s prev a)
      to =
          traverse_along p s prev (consider p v) a (CountedTo s prev a.count)
          (λ own.
          let one = consider_count prev a in
          record {
            no_less = one.no_less;
            near = omega (arith, one.no_more);
            no_more = λ past. absurd (omega (arith, past own, own_low p s prev own));
          })
          (λ none. record { no_less = omega arith; near = omega arith; no_more = λ past. omega arith })
          (λ i b own other h.
          let one = consider_count i b in
          let before : (own_row p s prev ≡ true → prev < suc i) → b.count + p.first_row s ≤ a.count + i =
          λ past. h.no_more (λ o. omega (arith, past o, other)) in
          record {
            no_less = omega (arith, h.no_less, one.no_less);
            near = omega (arith, h.near, one.no_more);
            no_more = λ past. omega (arith, before past, one.no_more);
          })
          (λ b own h. record { no_less = h.no_less; near = omega (arith, h.near); no_more = λ past. omega (arith, h.near) })

module _ (p : Problem) (e : ℕ) where
  pub backup_count : (s : ℕ) (m : Machine) → Counted m.evaluations (backup p e s m).evaluations (p.row_count s)
  unfolding backup settle
  backup_count s m = scan_count p (by_state m.values) s (get_or m.picks s 0) (scan_start p m)

  pub backups_count : (l : List ℕ) (m : Machine) → Counted m.evaluations (backups p e l m).evaluations (sum_over p.row_count l)
  unfolding backups sum_over
  backups_count [] m = omega arith
  backups_count (s ∷ l) m = omega (arith, backup_count s m, backups_count l (backup p e s m))

  -- a round counts at most the file's rows
  pub round_count : WellFormed p → (m : Machine) → Counted m.evaluations (round p e m).evaluations p.rows
  unfolding round_with
  round_count formed m =
      let l = (walk p (by_state m.picks)).list in
      omega (arith, backups_count l (walked p m), listed_rows p formed (by_state m.picks))
