-- A solved run is accepted: questions 16 to 19 say yes of its values and picks.
-- In its last round nothing rose and no pick changed, so each listed state was backed up under the final values and the final picks.
use Rattle.std.specs.Prelude.{◌≡◌, refl, ℕ, ◌+◌, ◌-◌, ◌≤◌, ◌<◌, true, false, eqb, get_or}
use Rattle.std.proofs.Common.{sym, ◌∙◌, ap, arith, true≢false, eq-eqb, ne_eqb}
use mathlib.Core.List.{List, [], ◌∷◌}
use Rattle.std.proofs.Math.Logic.{⊎_elim}
use Rattle.std.proofs.lemmas.Bool.{eqb-false}
use Rattle.model.specs.Limits.{give_up}
use Rattle.model.specs.Problem.{Problem, give_up_cost, own_row}
use Rattle.model.specs.Value.{row_value, by_state}
use Rattle.model.specs.Walk.{In, here, there, walk, Reached, least_cost}
use Rattle.model.specs.Sections.{problem_of}
use Rattle.model.specs.Questions.{passes, file_questions}
use Rattle.model.specs.Rounds.{Machine, scan_of, backup, backups, walked, round, round_with, run_from, Ending, solved, spent, Chosen}
use Rattle.model.specs.Rounds.{choice}
use Rattle.model.specs.Rounds.{machine_start, goes_on, goes_on_with, run_of}
use Rattle.model.specs.declared.Kind.{Kind}
use Rattle.model.specs.declared.Kind.TheVariants.{Plain, Finishing}
use Rattle.model.specs.Audit.{accepted, pick_value, audit}
use Rattle.guarantee.specs.WellFormed.{WellFormed}
use Rattle.guarantee.specs.Graphs.{in_cons, in_nil}
use Rattle.guarantee.specs.Walks.{marked_reached, reached_listed}
use Rattle.guarantee.specs.Rows.{row_no_mark}
use Rattle.guarantee.specs.Choosing.{Landed, at_giving_up, at_row, OwnPick, landed_pick, choice_landed, gives_up_dear}
use Rattle.guarantee.specs.Sound.{Sound, scan_law, backup_sound}
use Rattle.guarantee.specs.Backups.{Open, Backed, rose, turned, rested}
use Rattle.guarantee.specs.Backups.{backed, walk_opens, walked_sound, round_sound, round_list, run_quiet, spent_not_solved}
use Rattle.guarantee.specs.Accepted.{AcceptsWithin, accepts_wider, accepted_table, yes_audit}

-- a state that is at rest with tolerance e: its choice is its pick, and V(s) lies less than e below best
pub record Rests (p : Problem) (e : ℕ) (values picks : List ℕ) (s : ℕ) : Type 0 where
  pub same : (choice p (by_state values) s (get_or picks s 0)).pick ≡ get_or picks s 0
  pub close : (choice p (by_state values) s (get_or picks s 0)).best < get_or values s 0 + e

-- backups from m to m' along l that moved nothing
pub record Still (p : Problem) (e : ℕ) (l : List ℕ) (m m' : Machine) : Type 0 where
  pub unmoved : m.moved ≡ false
  pub values : m'.values ≡ m.values
  pub picks : m'.picks ≡ m.picks
  pub rests : (s : ℕ) → In s l → Rests p e m.values m.picks s

module _ (p : Problem) (formed : WellFormed p) (e : ℕ) where
  backup_still : (s : ℕ) (m : Machine) → Open p s → Sound p m → (backup p e s m).moved ≡ false → Still p e (s ∷ []) m (backup p e s m)
  backup_still s m o sound quiet = go (backed p e s m)
    where
      ends : ((scan_of p s m).best ≡ (choice p (by_state m.values) s (get_or m.picks s 0)).best)
          × ((scan_of p s m).pick ≡ (choice p (by_state m.values) s (get_or m.picks s 0)).pick)
      ends = let law = (scan_law p formed s m o.state sound).ends in (ap (λ c. c.best) law, ap (λ c. c.pick) law)

      go : Backed p e s m → Still p e (s ∷ []) m (backup p e s m)
      go (rose rise stores moved) = absurd (true≢false (sym moved ∙ quiet))
      go (turned turns stays moved) = absurd (true≢false (sym moved ∙ quiet))
      go (rested close same values picks moved) =
          let here : Rests p e m.values m.picks s = record { same = sym ends.1 ∙ same; close = omega (arith, ends.0) } in
          record {
            unmoved = sym moved ∙ quiet;
            values = values;
            picks = picks;
            rests = λ t i. ⊎_elim (λ at. rw at here) (λ j. absurd (in_nil j)) (in_cons i);
          }

  pub backups_still
      : (l : List ℕ) (m : Machine) → ((s : ℕ) → In s l → Open p s) → Sound p m → (backups p e l m).moved ≡ false
      → Still p e l m (backups p e l m)
  unfolding backups
  backups_still [] m opens sound quiet = record { unmoved = quiet; values = refl; picks = refl; rests = λ s i. absurd (in_nil i) }
  backups_still (s ∷ l) m opens sound quiet =
      let o = opens s here in
      let after = backup_sound p formed s m o.state sound e o.no_goal in
      let rest = backups_still l (backup p e s m) (λ t i. opens t (there i)) after quiet in
      let one = backup_still s m o sound rest.unmoved in
      record {
        unmoved = one.unmoved;
        values = rest.values ∙ one.values;
        picks = rest.picks ∙ one.picks;
        rests = λ t i. ⊎_elim (λ at. one.rests t (rw at here)) (λ j. rw (one.values, one.picks) at (rest.rests t j)) (in_cons i);
      }

  -- a quiet round: values and picks stay, and every listed state rests
  pub round_still
      : (m : Machine) → Sound p m → (round p e m).moved ≡ false → Still p e (walk p (by_state m.picks)).list (walked p m) (round p e m)
  unfolding round_with
  round_still m sound quiet =
      let picks = by_state m.picks in
      backups_still (walk p picks).list (walked p m) (walk_opens p formed picks) (walked_sound p formed e m sound) quiet

-- where a choice landed on the pick, the pick is an own row or giving up, and its value is the choice's best
module _ (p : Problem) (v picks : ℕ → ℕ) (s : ℕ) (c : Chosen) where
  landed_fits : Landed p v s c → c.pick ≡ picks s → OwnPick p s (picks s)
  landed_fits landed same = rw (← same) (landed_pick landed)

  landed_value : WellFormed p → s < p.states → Landed p v s c → c.pick ≡ picks s → pick_value p v picks s ≡ c.best
  unfolding pick_value
  landed_value formed l (at_giving_up q b) same = rw (eq-eqb (picks s) give_up (sym same ∙ q)) (sym b)
  landed_value formed l (at_row own b less) same =
      rw (ne_eqb (picks s) give_up (λ z. omega (arith, row_no_mark p formed s c.pick l own))) (rw (← same) (sym b))

-- sound tables whose listed states rest are accepted
module _ (p : Problem) (formed : WellFormed p) (e : ℕ) (m : Machine) (sound : Sound p m)
    (rests : (s : ℕ) → In s (walk p (by_state m.picks)).list → Rests p e m.values m.picks s) where
  marked_rests
      : (s : ℕ) → p.goal s ≡ false → eqb (get_or (walk p (by_state m.picks)).marks s 0) 0 ≡ false
      → Rests p e m.values m.picks s
  marked_rests s no_goal marked =
      rests s (reached_listed p formed (by_state m.picks) s (marked_reached p formed (by_state m.picks) s (eqb-false _ _ marked)) no_goal)

  pub resting_accepted : AcceptsWithin p e (by_state m.values) (by_state m.picks) (least_cost p (by_state m.picks))
  resting_accepted =
      let v = by_state m.values in
      let picks = by_state m.picks in
      record {
        goal_zero = sound.goal_values;
        value_high = λ s l g. sound.high s l;
        no_undercut = sound.under;
        pick_fits = λ s l g marked. landed_fits p v picks s _ (choice_landed p v s (picks s)) (marked_rests s g marked).same;
        pick_close =
            λ s l g marked.
            let at = marked_rests s g marked in
            omega (arith, at.close, landed_value p v picks s _ formed l (choice_landed p v s (picks s)) at.same);
        least = refl;
      }

-- the end of a solved run with tolerance e
pub record Final (p : Problem) (e : ℕ) (m : Machine) : Type 0 where
  pub sound : Sound p m
  pub listed : m.list ≡ (walk p (by_state m.picks)).list
  pub accepts : AcceptsWithin p e (by_state m.values) (by_state m.picks) (least_cost p (by_state m.picks))
  pub rests : (s : ℕ) → In s (walk p (by_state m.picks)).list → Rests p e m.values m.picks s

module _ (p : Problem) (formed : WellFormed p) (e : ℕ) where
  quiet_final : (m : Machine) → Sound p m → (round p e m).moved ≡ false → Final p e (round p e m)
  quiet_final m sound quiet =
      let still = round_still p formed e m sound quiet in
      record {
        sound = round_sound p formed e m sound;
        listed = round_list p e m ∙ rw still.picks refl;
        accepts = rw (still.values, still.picks) (resting_accepted p formed e m sound still.rests);
        rests = rw (still.values, still.picks) still.rests;
      }

  -- from any sound machine, whatever the budget: a solved run's tables are sound and accepted, and its list is the walk of its picks
  pub solved_final
      : (budget n : ℕ) (start : Machine) (k : ℕ) (m : Machine) → Sound p start → run_from p e budget true n start ≡ solved k m → Final p e m
  solved_final budget n start k m sound run =
      let last = run_quiet p e (λ n. Sound p) (λ n. round_sound p formed e) budget n start k m sound run in
      rw last.ends at (quiet_final last.before last.held last.quiet)

  -- E1: a reached state whose pick gives up has no row that costs as little under the values left
  pub final_gives_up
      : (m : Machine) → Final p e m → (s : ℕ) → Reached p (by_state m.picks) s → p.goal s ≡ false → by_state m.picks s ≡ give_up
      → (r : ℕ) → own_row p s r ≡ true → give_up_cost p < row_value p (by_state m.values) r
  final_gives_up m final s reached no_goal gives =
      let listed = reached_listed p formed (by_state m.picks) s reached no_goal in
      let state = (walk_opens p formed (by_state m.picks) s listed).state in
      gives_up_dear p formed (by_state m.values) s state (by_state m.picks s) ((final.rests s listed).same ∙ gives)

-- the tolerance that a run of some kind ends with
abbrev pub last_tolerance : Kind → Problem → ℕ
last_tolerance Plain p = p.tolerance
last_tolerance Finishing p = 1

pub last_narrow : (kind : Kind) (p : Problem) → WellFormed p → last_tolerance kind p ≤ p.tolerance
last_narrow Plain p formed = omega arith
last_narrow Finishing p formed = formed.tolerance_low

-- the machine of a solved run of either kind is final, under the tolerance that it ends with
pub run_final
    : (kind : Kind) (p : Problem) → WellFormed p → (budget : ℕ) (values picks remembered : List ℕ) (k : ℕ) (m : Machine)
    → Sound p (machine_start p values picks remembered) → run_of kind p budget values picks remembered ≡ solved k m
    → Final p (last_tolerance kind p) m
unfolding goes_on_with
run_final kind p formed budget values picks remembered k m sound q = go kind (run_from p e budget true 0 start) refl q
  where
    e : ℕ
    e = p.tolerance

    start : Machine
    start = machine_start p values picks remembered

    go : (kind : Kind) (end : Ending) → run_from p e budget true 0 start ≡ end → goes_on kind p budget end ≡ solved k m
        → Final p (last_tolerance kind p) m
    go Plain end run q = solved_final p formed e budget 0 start k m sound (run ∙ q)
    go Finishing (spent n m₁) run q = absurd (spent_not_solved q)
    go Finishing (solved n m₁) run q =
        solved_final p formed 1 (budget - n) n m₁ k m (solved_final p formed e budget 0 start n m₁ sound run).sound q

-- of a file: final tables pass its audit, which gives their C, where its tolerance is no narrower
pub final_passes_audit
    : (f : List ℕ) → file_questions f ≡ passes → (m : Machine) {e : ℕ} → e ≤ (problem_of f).tolerance → Final (problem_of f) e m
    → audit f m.values m.picks ≡ accepted (least_cost (problem_of f) (by_state m.picks))
final_passes_audit f file m wide final =
    let p = problem_of f in
    yes_audit f m.values m.picks (least_cost p (by_state m.picks))
    (record {
      file_passes = file;
      values_long = final.sound.values_length;
      picks_long = final.sound.picks_length;
      table_accepted = accepted_table p (by_state m.values) (by_state m.picks) _ (accepts_wider p _ _ _ _ _ wide final.accepts);
    })
