-- Laws of rounds and runs, one for each event of the code: a round done, another round, and the two ends of a run.
-- What is left of the run gives the same as the whole; each round counts at most as many evaluations as there can be rows.
use mathlib.Core.Path.{◌≡◌, refl, sym, ◌∙◌, ap, subst}
use Prim.Native.Nat.{ℕ, suc, ◌+◌, ◌-◌, ◌*◌, ◌≤◌, ◌<◌}
use native.Mathlib.Numerals.{add-one}
use native.Mathlib.Omega.{arith}
use mathlib.Core.Bool.{Bool, true, false, ◌||◌}
use mathlib.Core.List.{List, []}
use mathlib.Core.Logic.{◌⊎◌, ⊎_elim}
use lib.Dec.{eqb}
use lib.ListN.{get_or, take}
use Rattle.std.specs.Prelude.{IfSome, is_none, length}
use borrow.Author.Tests.{eq-eqb, ne_eqb}
use Rattle.model.specs.Limits.{give_up, max_rows, max_budget}
use Rattle.model.specs.Problem.{Problem, own_row}
use Rattle.model.specs.Value.{by_state}
use Rattle.model.specs.Walk.{Trail, Reached, at_start_lem, walk, pick_cost_on, pick_cost, least_cost}
use Rattle.model.specs.Rounds.{Machine, backups, round, round_with, walked, Ending, run_from, run_from_with, goes_on, goes_on_with}
use Rattle.model.specs.Solution.{Tables, tables}
use Rattle.model.specs.declared.Kind.{Kind}
use Rattle.model.specs.declared.Kind.TheVariants.{Plain, Finishing}
use Rattle.guarantee.specs.Accepted.{AcceptsWithin}
use Rattle.guarantee.specs.Sound.{Sound}
use Rattle.guarantee.specs.Backups.{walk_opens, round_sound, run_stops}
use Rattle.guarantee.specs.Evaluations.{round_count}
use Rattle.guarantee.specs.Leasts.{least_over, least_listed, least_at_start}
use Rattle.guarantee.specs.Rows.{row_no_mark}
use Rattle.guarantee.specs.Solved.{Still, round_still, resting_accepted}
use Rattle.guarantee.specs.Walks.{own_row_lem, reached_state, reached_marked}
use Rattle.walking.specs.Costs.{ListCosted, no_cost}
use Rattle.walking.specs.Led.{Led, WalkedBy, Listing}
use Rattle.walking.specs.Entered.{entered_led, entered_listing, listing_walked, listing_costed}
use Rattle.backing.specs.Backable.{count_bound, machine, Kept, Opens}
use Rattle.backing.specs.Scanned.{problem_in}
use Rattle.walking.specs.Walkable.{problem_walkable}
use Rattle.guarantee.specs.WellFormed.{WellFormed}
use Rattle.reading.specs.declared.problem.Problem as Given
use Rattle.backing.specs.Turns.{turns, unturned_picks}
use Rattle.solving.specs.declared.run.Standing.{Standing}
use Rattle.solving.specs.declared.run.RoundDone.{RoundDone}
use Rattle.solving.specs.Runs.{machine_with, at_first, Runnable, Rounded}

module _ {q : Given.Problem} {t : Tables} {entries : List ℕ} {standing : Standing} (h : Runnable q t entries standing) where
  abbrev p : Problem
  p = problem_in q

  formed : WellFormed p
  formed = q.formed

  pub runnable_led : Led q.file.now entries
  runnable_led = entered_led (problem_walkable q) h.kept.entered

  -- once the list is the walk by the entries, it is that of the picks
  module _ {list' : List ℕ} {r : ℕ} (walked_by : WalkedBy q.file.now entries list' r) where
    w : Listing q.file.now t.picks list' r
    w = entered_listing (problem_walkable q) h.kept.entered walked_by

    pub listed_there : r ≤ length list'
    listed_there = omega (arith, w.few, w.list_long)

    pub walk_listed : Opens p (take r list')
    walk_listed s i = walk_opens p formed (by_state t.picks) s (rw w.list at i)

    -- the backups along the list that was walked are the round, whatever list stood there before
    abbrev backed : ℕ → ℕ → Machine
    backed e count = backups p e (take r list') (machine_with t (take r list') count false)

    round_left : (e count : ℕ) (l : List ℕ) (b : Bool) → backed e count ≡ round p e (machine_with t l count b)
    unfolding round_with
    round_left e count l b = rw w.list refl

    pub round_room
        : (e count : ℕ) → (round p e (machine_with t [] count true)).evaluations < count_bound → (backed e count).evaluations < count_bound
    round_room e count l = rw (round_left e count [] true) l

    -- where no pick changed, the list is the walk by the entries as they are then
    pub still_walked
        : (e count : ℕ) {values' picks' remembered' entries' : List ℕ} {count' : ℕ} {moved' : Bool}
        → machine values' picks' remembered' (take r list') count' moved' ≡ backed e count
        → Kept q.file.now q.index.now picks' remembered' entries'
        → turns p e (take r list') (machine_with t (take r list') count false) ≡ false → WalkedBy q.file.now entries' list' r
    still_walked e count done kept none =
        let stay = ap (λ (x : Machine). x.picks) done ∙ unturned_picks p e (take r list') (machine_with t (take r list') count false) none in
        let same = ap (λ (x : List ℕ). walk p (by_state x)) (sym stay) in
        listing_walked (problem_walkable q) kept.entered
        (record { list = w.list ∙ ap (λ (x : Trail). x.list) same; few = w.few; list_long = w.list_long })

    -- a round in which nothing moved: the picks are still those of the walk, and each reached one fits
    module _ (e count : ℕ) {values' picks' remembered' : List ℕ} {count' : ℕ} {moved' : Bool}
        (done : machine values' picks' remembered' (take r list') count' moved' ≡ backed e count)
        (quiet : moved' ≡ false) where
      abbrev before : Machine
      before = machine_with t [] count true

      same : machine values' picks' remembered' (take r list') count' moved' ≡ round p e before
      same = done ∙ round_left e count [] true

      still : Still p e (walk p (by_state t.picks)).list (walked p before) (round p e before)
      still =
          round_still p formed e before h.sound (ap (λ (x : Machine). x.moved) (sym same) ∙ quiet)

      picks_stay : picks' ≡ t.picks
      picks_stay = ap (λ (x : Machine). x.picks) same ∙ still.picks

      accepts : AcceptsWithin p e (by_state t.values) (by_state t.picks) (least_cost p (by_state t.picks))
      accepts = resting_accepted p formed e before h.sound still.rests

      reached_fits
          : (s : ℕ) → Reached p (by_state t.picks) s → p.goal s ≡ false
          → (get_or t.picks s 0 ≡ give_up) ⊎ (own_row p s (get_or t.picks s 0) ≡ true)
      reached_fits s reached no_goal =
          let picks = by_state t.picks in
          let marked : eqb (get_or (walk p picks).marks s 0) 0 ≡ false =
          ne_eqb (get_or (walk p picks).marks s 0) 0 (λ z. omega (arith, z, reached_marked p formed picks s reached)) in
          accepts.pick_fits s (reached_state p formed picks s reached) no_goal marked

      pub quiet_costed : ListCosted q.file.now q.index.now picks' list' r
      quiet_costed = rw picks_stay (listing_costed (problem_walkable q) w h.sound.picks_length reached_fits)

      -- C fits in 32 bits: it is at most the cost at the start
      start_fits : least_cost p (by_state t.picks) ≤ no_cost
      unfolding pick_cost
      start_fits =
          let picks = by_state t.picks in
          let s = p.start in
          ⊎_elim
          (λ gives.
          omega (
            arith,
            least_at_start formed picks,
            ap (λ b. pick_cost_on b p (picks s)) (eq-eqb (picks s) give_up gives),
            formed.penalty_high,
          ))
          (λ own.
          let row = own_row_lem p formed s (picks s) formed.start_state own in
          let few = row_no_mark p formed s (picks s) formed.start_state own in
          omega (
            arith,
            least_at_start formed picks,
            ap (λ b. pick_cost_on b p (picks s)) (ne_eqb (picks s) give_up (λ e. omega (arith, few))),
            formed.cost_high (picks s) row,
          ))
          (reached_fits s at_start_lem formed.start_open)

      pub quiet_least : (c : ℕ) → c ≡ least_over p (by_state picks') (take r list') no_cost → c ≡ least_cost p (by_state picks')
      quiet_least c least =
          rw picks_stay (rw (picks_stay, w.list) at least ∙ least_listed formed (by_state t.picks) no_cost start_fits)

    pub round_done
        : (e count : ℕ) (d : RoundDone) {values' picks' remembered' entries' : List ℕ} → d.standing.listed ≡ r
        → machine values' picks' remembered' (take r list') d.standing.count (is_none d.quiet) ≡ backed e count
        → d.standing.turned ≡ (false || turns p e (take r list') (machine_with t (take r list') count false))
        → Kept q.file.now q.index.now picks' remembered' entries'
        → IfSome d.quiet (λ c. c ≡ least_cost p (by_state picks'))
        → Rounded q e t count (tables values' picks' remembered' list') entries' d
    round_done e count d listed done turned kept least =
        record {
          same = λ l b. rw listed (done ∙ round_left e count l b);
          least = least;
          few = rw listed w.few;
          list_long = w.list_long;
          kept = kept;
          fresh = λ none. rw listed (still_walked e count done kept (sym turned ∙ none));
        }

-- the loop over rounds: what is left of the run, of this part and of the other where it is to go on, gives w
pub record RunLeft
    (q : Given.Problem) (budget : ℕ) (w : Ending) (t : Tables) (entries : List ℕ) (kind : Kind) (e rounds : ℕ) (standing : Standing)
    : Type 0 where
  pub runnable : Runnable q t entries standing
  pub within : rounds ≤ budget
  pub moved : Bool
  pub left
      : goes_on kind (problem_in q) budget
      (run_from (problem_in q) e (budget - rounds) true rounds (machine_with t (take standing.listed t.walk_list) standing.count moved))
      ≡ w
  pub counted : standing.count ≤ max_rows * rounds
  pub few : standing.listed ≤ (problem_in q).states

pub run_starts
    : {q : Given.Problem} {t : Tables} {entries : List ℕ} {e budget : ℕ} {kind : Kind} → Runnable q t entries at_first
    → RunLeft q budget (goes_on kind (problem_in q) budget (run_from (problem_in q) e budget true 0 (machine_with t [] 0 true)))
    t entries kind e 0 at_first
run_starts {budget = budget} h =
    let z : budget - 0 ≡ budget = omega arith in
    record {
      runnable = h;
      within = omega arith;
      moved = true;
      left = rw z refl;
      counted = omega arith;
      few = omega arith;
    }

one_round
    : (p : Problem) (e k j n : ℕ) (m : Machine) → j ≡ suc k
    → run_from p e j true n m ≡ run_from p e k (round p e m).moved (n + 1) (round p e m)
unfolding run_from_with
one_round p e k j n m h = rw (h, add-one) refl

module _ {q : Given.Problem} {budget : ℕ} {w : Ending} {t : Tables} {entries : List ℕ} {kind : Kind} {e rounds : ℕ} {standing : Standing}
    (h : RunLeft q budget w t entries kind e rounds standing) where
  abbrev count : ℕ
  count = standing.count

  abbrev listed : ℕ
  listed = standing.listed

  -- under the largest budget there is room for what the next round counts
  pub next_round_room
      : rounds < budget → budget ≤ max_budget → (round (problem_in q) e (machine_with t [] count true)).evaluations < count_bound
  next_round_room l top =
      omega (
        arith,
        h.counted,
        q.formed.rows_high,
        round_count (problem_in q) e q.formed (machine_with t [] count true),
      )

  module _ {t' : Tables} {entries' : List ℕ} {d : RoundDone} (r : Rounded q e t count t' entries' d) (l : rounds < budget) where
    abbrev this : Machine
    this = machine_with t (take listed t.walk_list) count h.moved

    abbrev next : Bool → Machine
    next b = machine_with t' (take d.standing.listed t'.walk_list) d.standing.count b

    went : next (is_none d.quiet) ≡ round (problem_in q) e this
    went = r.same (take listed t.walk_list) h.moved

    went_on : (b : Bool) → is_none d.quiet ≡ b
        → goes_on kind (problem_in q) budget (run_from (problem_in q) e (budget - (rounds + 1)) b (rounds + 1) (next b)) ≡ w
    went_on b same =
        let p = problem_in q in
        rw same at
        (ap (λ (x : Machine). goes_on kind p budget (run_from p e (budget - (rounds + 1)) x.moved (rounds + 1) x)) went
        ∙ sym (ap (goes_on kind p budget) (one_round p e (budget - (rounds + 1)) (budget - rounds) rounds this (omega arith)))
        ∙ h.left)

    after_sound : Sound (problem_in q) (next (is_none d.quiet))
    after_sound =
        subst
        (Sound (problem_in q))
        (sym went)
        (round_sound (problem_in q) q.formed e this h.runnable.sound)

    next_counted : d.standing.count ≤ max_rows * (rounds + 1)
    next_counted =
        omega (
          arith,
          h.counted,
          q.formed.rows_high,
          ap (λ (x : Machine). x.evaluations) went,
          round_count (problem_in q) e q.formed this,
        )

    -- the next turn, once it is known what is left
    goes
        : {kind' : Kind} {e' : ℕ} (moved : Bool)
        → goes_on kind' (problem_in q) budget (run_from (problem_in q) e' (budget - (rounds + 1)) true (rounds + 1) (next moved)) ≡ w
        → RunLeft q budget w t' entries' kind' e' (rounds + 1) d.standing
    goes moved left =
        record {
          runnable =
              record {
                sound = after_sound;
                kept = r.kept;
                list_long = r.list_long;
                fresh = r.fresh;
              };
          within = omega arith;
          moved = moved;
          left = left;
          counted = next_counted;
          few = r.few;
        }

    pub run_goes_on : is_none d.quiet ≡ true → RunLeft q budget w t' entries' kind e (rounds + 1) d.standing
    run_goes_on moved = goes true (went_on true moved)

    -- a quiet round
    quiet : is_none d.quiet ≡ false → goes_on kind (problem_in q) budget (Ending.solved (rounds + 1) (next false)) ≡ w
    quiet still =
        ap (goes_on kind (problem_in q) budget)
        (sym (run_stops (problem_in q) e (budget - (rounds + 1)) (rounds + 1) (next false)))
        ∙ went_on false still

    pub part_ends
        : is_none d.quiet ≡ false → kind ≡ Finishing → RunLeft q budget w t' entries' Plain 1 (rounds + 1) d.standing
    unfolding goes_on_with
    part_ends still more = goes false (rw more at (quiet still))

    pub run_solved : is_none d.quiet ≡ false → kind ≡ Plain → w ≡ Ending.solved (rounds + 1) (next false)
    unfolding goes_on_with
    run_solved still last = sym (rw last at (quiet still))

  pub run_out_of_budget : budget ≡ rounds → w ≡ Ending.spent budget (machine_with t (take listed t.walk_list) count h.moved)
  unfolding run_from_with goes_on_with
  run_out_of_budget same =
      let none : budget - rounds ≡ 0 = omega arith in
      sym (spent_stays kind _ _ ∙ rw (none, ← same) at h.left)
    where
      spent_stays
          : (kind : Kind) (n : ℕ) (m : Machine) → Ending.spent n m ≡ goes_on kind (problem_in q) budget (Ending.spent n m)
      spent_stays Plain n m = refl
      spent_stays Finishing n m = refl
