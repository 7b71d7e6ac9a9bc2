-- Laws of the backups of a round, one for each event of the code: a backup done, and the loop along the walk list, in which the
-- backups that are left give the same as all. Every backup keeps the tables sound, so that the next one may be made.
use mathlib.Core.Path.{◌≡◌, refl, sym, ◌∙◌, ap, subst}
use Prim.Native.Nat.{ℕ, ◌+◌, ◌≤◌, ◌<◌}
use native.Mathlib.Numerals.{add-one}
use native.Mathlib.Omega.{arith}
use mathlib.Core.Bool.{Bool, true, false, ◌||◌, not}
use mathlib.Core.List.{List, []}
use mathlib.Core.List.{◌∷◌}
use lib.Dec.{leb, eqb}
use lib.ListN.{get_or, length, drop}
use lib.Seq.{drop-cons}
use Rattle.std.proofs.Math.ListN.{drop_of_length-le}
use Rattle.model.specs.Problem.{Problem}
use Rattle.model.specs.Sections.{problem_of}
use Rattle.model.specs.Rounds.{Found, Machine, raise_on, settle, scan_of, backup, backups}
use Rattle.guarantee.specs.Graphs.{in_place}
use Rattle.guarantee.specs.Sound.{Sound, backup_sound}
use Rattle.guarantee.specs.Backups.{Open}
use Rattle.guarantee.specs.Evaluations.{backups_count}
use Rattle.backing.specs.declared.Terms.{Terms}
use Rattle.backing.specs.declared.Memory.{Memory}
use Rattle.backing.specs.declared.backup.Tally.{Tally}
use Rattle.backing.specs.Backable.{count_bound, machine, ScanDone, Opens}
use Rattle.backing.specs.Scanned.{problem_in, machine_of, Fitting, KeptIn, Same}
use Rattle.std.proofs.Common.{rules}
use Rattle.backing.specs.Turns.{turns}

or_joined : (a b c d : Bool) → d ≡ (a || b) → (d || c) ≡ (a || (b || c))
or_joined true b c d e = rw e refl
or_joined false b c d e = rw e refl

or_nothing : (a : Bool) → (a || false) ≡ a
or_nothing true = refl
or_nothing false = refl

same_on : (m m' m'' : Memory) → Same m m' → Same m' m'' → Same m m''
same_on m m' m'' first then = search rules

-- a backup done: the scan's result is stored, and the value is raised by the model's test
module _ {f index values picks remembered : List ℕ} (s count : ℕ) where
  pub backup_done
      : (e : ℕ) (moved : Bool) (l : List ℕ) {a : Found} {values' picks' entries' : List ℕ} {rose turned moved' : Bool}
      → ScanDone f index s (machine values picks remembered [] count false) a picks' entries'
      → rose ≡ leb (get_or values s 0 + e) a.best → values' ≡ raise_on (leb (get_or values s 0 + e) a.best) values s a.best
      → turned ≡ not (eqb a.pick (get_or picks s 0)) → moved' ≡ (moved || (rose || turned))
      → machine values' picks' a.remembered l a.count moved'
      ≡ backup (problem_of f) e s (machine values picks remembered l count moved)
  unfolding backup settle
  backup_done e moved l done raised stored turned same =
      rw (← done.same) (rw (stored, done.picks, same, raised, turned) refl)

-- the loop along a walk list, begun with a tally and tables: what is left of the backups, from the i-th on, gives the same as all, and so does
-- whether a pick changes
pub record BackLeft
    (terms : Terms) (list values : List ℕ) (mem : Memory) (t : Tally) (values' : List ℕ) (mem' : Memory) (t' : Tally) (i : ℕ) : Type 0 where
  pub same : Same mem mem'
  pub fitting : Fitting terms.problem values' mem'
  pub left
      : backups (problem_in terms.problem) terms.tolerance (drop i list) (machine_of values' mem' list t'.count t'.moved)
      ≡ backups (problem_in terms.problem) terms.tolerance list (machine_of values mem list t.count t.moved)
  pub turning
      : (t'.turned || turns (problem_in terms.problem) terms.tolerance (drop i list) (machine_of values' mem' list t'.count t'.moved))
      ≡ (t.turned || turns (problem_in terms.problem) terms.tolerance list (machine_of values mem list t.count t.moved))

module _ {terms : Terms} {list values values' : List ℕ} {mem mem' : Memory} {t t' : Tally} {i : ℕ}
    (h : BackLeft terms list values mem t values' mem' t' i) where
  abbrev p : Problem
  p = problem_in terms.problem

  abbrev e : ℕ
  e = terms.tolerance

  abbrev m : Machine
  m = machine_of values' mem' list t'.count t'.moved

  abbrev whole : Machine
  whole = backups p e list (machine_of values mem list t.count t.moved)

  abbrev any_turned : Bool
  any_turned = t.turned || turns p e list (machine_of values mem list t.count t.moved)

  abbrev s : ℕ
  s = get_or list i 0

  module _ (l : i < length list) where
    rest : drop i list ≡ s ∷ drop (i + 1) list
    rest = drop-cons list i 0 l ∙ rw add-one refl

    next_left : backups p e (drop (i + 1) list) (backup p e s m) ≡ whole
    unfolding backups
    next_left = rw rest at h.left

    -- the pick of the next one, and then those of the others
    turned_by : Machine → Bool
    turned_by x = t'.turned || (not (eqb (get_or x.picks s 0) (get_or m.picks s 0)) || turns p e (drop (i + 1) list) x)

    next_turning : turned_by (backup p e s m) ≡ any_turned
    unfolding turns turned_by
    next_turning = rw rest at h.turning

    -- what is counted after the next backup is at most what is counted in the end
    pub next_room : whole.evaluations < count_bound → (scan_of p s m).count < count_bound
    unfolding backup settle
    next_room room =
        omega (arith, room, ap (λ (x : Machine). x.evaluations) next_left, backups_count p e (drop (i + 1) list) (backup p e s m))

    module _ (opens : Opens p list) where
      pub next_open : Open p s
      next_open = opens _ (in_place list i l)

      pub left_backed
          : {values'' : List ℕ} {mem'' : Memory} {t'' : Tally} → Same mem' mem''
          → machine_of values'' mem'' list t''.count t''.moved ≡ backup p e s m
          → t''.turned ≡ (t'.turned || not (eqb (get_or mem''.picks.now s 0) (get_or mem'.picks.now s 0))) → KeptIn terms.problem mem''
          → BackLeft terms list values mem t values'' mem'' t'' (i + 1)
      unfolding turned_by
      left_backed {values''} {mem''} {t''} same is turn kept =
          record {
            same = same_on mem mem' mem'' h.same same;
            fitting = record { sound = sound; kept = kept };
            left = rw is next_left;
            turning = or_joined t'.turned _ _ t''.turned turn ∙ subst (λ x. turned_by x ≡ any_turned) (sym is) next_turning;
          }
        where
          sound : Sound p (machine_of values'' mem'' list t''.count t''.moved)
          sound =
              subst (Sound p) (sym is)
              (backup_sound p terms.problem.formed s m next_open.state h.fitting.sound e next_open.no_goal)

  pub all_backed : length list ≤ i → m ≡ whole
  unfolding backups
  all_backed l = rw (drop_of_length-le list l) at h.left

  pub all_turned : length list ≤ i → t'.turned ≡ any_turned
  unfolding turns
  all_turned l = sym (or_nothing t'.turned) ∙ rw (drop_of_length-le list l) at h.turning
