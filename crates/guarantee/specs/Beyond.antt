-- "in every table entries beyond stay": what lies beyond the states, or the rows, in a lent table is left as it was, however a call ends.
-- Every store of a run is at a state or at a row of the file, and a store before a place leaves what lies from there on.
use Rattle.std.specs.Prelude.{◌≡◌, ℕ, zero, suc, ◌+◌, ◌-◌, ◌≤◌, ◌<◌, Bool, List, ◌++◌, get_or, length, replicate}
use Rattle.std.proofs.Math.Path.{refl}
use Rattle.std.proofs.Common.{◌∙◌, ap, arith, drop_at}
use Rattle.std.proofs.Math.Bool.{true, false}
use Rattle.std.proofs.Math.ListN.{drop}
use Rattle.std.proofs.lemmas.List.{length-replicate}
use Rattle.std.proofs.Math.Seq.{drop-set-lt, drop-append-add}
use Rattle.model.specs.Limits.{list_end}
use Rattle.model.specs.Problem.{Problem}
use Rattle.model.specs.Value.{row_value, by_state}
use Rattle.model.specs.Sections.{problem_of}
use Rattle.model.specs.Rounds.{Found, Machine, Ending, beats, evaluate_on, skipped, consider_on, consider, scan_start, scan_of}
use Rattle.model.specs.Rounds.{raise_on, rises, settle, backup, walked, fill_to, machine_start, run_of, list_table}
use Rattle.model.specs.declared.Kind.{Kind}
use Rattle.model.specs.Solution.{Tables, tables_of, solution_of, solution_of_with, solution}
use Rattle.guarantee.specs.WellFormed.{WellFormed, well_formed}
use Rattle.guarantee.specs.Walks.{own_row_lem, listed_number}
use Rattle.guarantee.specs.Traversals.{traverse_keeps}
use Rattle.guarantee.specs.Backups.{Open, machine_of, round_keeps, whole_run_keeps}
use Rattle.guarantee.specs.Solutions.{run_with, Told, TurnedDown, ran, told}

-- four tables hold beyond the states and rows of a problem what four others hold there
pub record Beyond (p : Problem) (t t' : Tables) : Type 0 where
  pub values : drop p.states t'.values ≡ drop p.states t.values
  pub picks : drop p.states t'.picks ≡ drop p.states t.picks
  pub remembered : drop p.rows t'.remembered ≡ drop p.rows t.remembered
  pub walk_list : drop p.states t'.walk_list ≡ drop p.states t.walk_list

-- the same of a machine's three tables; and its list is no longer than the states
record Keeps (p : Problem) (t : Tables) (m : Machine) : Type 0 where
  values : drop p.states m.values ≡ drop p.states t.values
  picks : drop p.states m.picks ≡ drop p.states t.picks
  remembered : drop p.rows m.remembered ≡ drop p.rows t.remembered
  list_short : length m.list ≤ p.states

-- stores

fill_drop : (g : ℕ → ℕ) (l : List ℕ) (n k : ℕ) → k ≤ n → drop n (fill_to g l k) ≡ drop n l
unfolding fill_to
fill_drop g l n zero h = refl
fill_drop g l n (suc k) h = drop-set-lt n (fill_to g l k) k (g k) (omega arith) ∙ fill_drop g l n k (omega arith)

raise_drop : (b : Bool) (l : List ℕ) (n s x : ℕ) → s < n → drop n (raise_on b l s x) ≡ drop n l
unfolding raise_on
raise_drop true l n s x h = drop-set-lt n l s x h
raise_drop false l n s x h = refl

pad_drop : (list rest : List ℕ) (k n : ℕ) → n ≡ length list + k → drop n (list ++ (replicate k list_end ++ rest)) ≡ rest
pad_drop list rest k n e =
    rw e (drop-append-add list (replicate k list_end ++ rest) k ∙ drop_at (replicate k list_end) rest k (length-replicate k list_end))

list_drop : (n : ℕ) (list table : List ℕ) → length list ≤ n → drop n (list_table n list table) ≡ drop n table
unfolding list_table
list_drop n list table h = pad_drop list (drop n table) (n - length list) n (omega arith)

-- a scan remembers values at rows below n only

module _ (p : Problem) (v : ℕ → ℕ) (n : ℕ) where
  evaluate_drop : (b : Bool) (q r : ℕ) (a : Found) → r < n → drop n (evaluate_on b q r a).remembered ≡ drop n a.remembered
  unfolding evaluate_on
  evaluate_drop true q r a h = drop-set-lt n a.remembered r q h
  evaluate_drop false q r a h = drop-set-lt n a.remembered r q h

  consider_drop : (r : ℕ) (a : Found) → r < n → drop n (consider p v r a).remembered ≡ drop n a.remembered
  unfolding consider consider_on
  consider_drop r a h = go (skipped r a)
    where
      go : (b : Bool) → drop n (consider_on b p v r a).remembered ≡ drop n a.remembered
      go true = refl
      go false = evaluate_drop (beats (row_value p v r) a.best a.pick) (row_value p v r) r a h

module _ (p : Problem) (formed : WellFormed p) (t : Tables) where
  scan_drop : (s : ℕ) (m : Machine) → s < p.states → drop p.rows (scan_of p s m).remembered ≡ drop p.rows m.remembered
  scan_drop s m l =
      let v = by_state m.values in
      traverse_keeps p s (get_or m.picks s 0) (consider p v) (scan_start p m)
      (λ (a : Found). drop p.rows a.remembered ≡ drop p.rows m.remembered)
      (λ i a own e. consider_drop p v p.rows i a (own_row_lem p formed s i l own) ∙ e) refl

  backup_keeps : (e s : ℕ) (m : Machine) → Open p s → Keeps p t m → Keeps p t (backup p e s m)
  unfolding backup settle
  backup_keeps e s m o h =
      let a = scan_of p s m in
      record {
        values = raise_drop (rises e s m a) m.values p.states s a.best o.state ∙ h.values;
        picks = drop-set-lt p.states m.picks s a.pick o.state ∙ h.picks;
        remembered = scan_drop s m o.state ∙ h.remembered;
        list_short = h.list_short;
      }

  walked_keeps : (m : Machine) → Keeps p t m → Keeps p t (walked p m)
  walked_keeps m h =
      record {
        values = h.values;
        picks = h.picks;
        remembered = h.remembered;
        list_short = listed_number p formed (by_state m.picks);
      }

  start_keeps : Keeps p t (machine_start p t.values t.picks t.remembered)
  unfolding machine_start
  start_keeps =
      record {
        values = fill_drop _ t.values p.states p.states (omega arith);
        picks = fill_drop _ t.picks p.states p.states (omega arith);
        remembered = fill_drop _ t.remembered p.rows p.rows (omega arith);
        list_short = omega arith;
      }

  run_beyond : (kind : Kind) (budget : ℕ) → Keeps p t (machine_of (run_of kind p budget t.values t.picks t.remembered))
  run_beyond kind budget =
      whole_run_keeps p (λ n. Keeps p t) (λ e n m h. round_keeps p e (Keeps p t) (backup_keeps e) formed m (walked_keeps m h)) kind budget
      t.values t.picks t.remembered start_keeps

  left_beyond : (m : Machine) → Keeps p t m → Beyond p t (tables_of p t.walk_list m)
  left_beyond m h =
      record {
        values = h.values;
        picks = h.picks;
        remembered = h.remembered;
        walk_list = list_drop p.states m.list t.walk_list h.list_short;
      }

pub solution_beyond : (kind : Kind) (f : List ℕ) (budget : ℕ) (t : Tables) → Beyond (problem_of f) t (solution kind f budget t).tables
unfolding solution_of_with
solution_beyond kind f budget t = go (told kind f budget t)
  where
    same : {t' : Tables} → t' ≡ t → Beyond (problem_of f) t t'
    same e = rw e (record { values = refl; picks = refl; remembered = refl; walk_list = refl })

    on : WellFormed (problem_of f) → (run : Ending) → Keeps (problem_of f) t (machine_of run)
        → Beyond (problem_of f) t (solution_of (problem_of f) t.walk_list run).tables
    on formed (Ending.solved n m) h = left_beyond (problem_of f) formed t m h
    on formed (Ending.spent n m) h = left_beyond (problem_of f) formed t m h

    go : Told kind f budget t → Beyond (problem_of f) t (solution kind f budget t).tables
    go (TurnedDown q i failed is) = same (ap (λ s. s.tables) is)
    go (ran file lent is) =
        rw is (on (well_formed f file) (run_with kind f budget t) (run_beyond (problem_of f) (well_formed f file) t kind budget))
