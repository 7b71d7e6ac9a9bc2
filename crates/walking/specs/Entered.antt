-- Entries whose codes are those of the picks lead a walk, and it is the model's walk with these picks: laws for whoever
-- calls `walk_entries`. The code of a pick tells the part that the index gives it, so both graphs lead the same way.
use Rattle.std.specs.Prelude.{◌≡◌, refl, ℕ, ◌≤◌, ◌<◌, true, false, List, ◌⊎◌, get_or, length, take}
use Rattle.std.proofs.Math.Path.{sym}
use Rattle.std.proofs.Common.{◌∙◌, ap, arith, inl, inr, ⊎_elim, length-take-le, get_or-take}
use Rattle.model.specs.Limits.{max_states, give_up}
use Rattle.model.specs.Problem.{own_row}
use Rattle.model.specs.Sections.{problem_of}
use Rattle.model.specs.Value.{by_state}
use Rattle.model.specs.Walk.{In, Trail, walk, walk_with, Reached}
use Rattle.guarantee.specs.Graphs.{visit_same, in_place}
use Rattle.guarantee.specs.Walks.{own_row_lem, next_state, listed_reached, listed_state, listed_open}
use Rattle.reading.specs.Entries.{code_in, code_from, code_to, row_code, Entered, code_from_lem, code_to_lem}
use Rattle.reading.specs.RowParts.{part_from, part_to, own_at_lem}
use Rattle.reading.specs.Tests.{own_at}
use Rattle.walking.specs.Walkable.{Walkable}
use Rattle.walking.specs.Trails.{Picked, picked_by, walk_on}
use Rattle.walking.specs.PickedParts.{picked_open, picked_leads, picked_outcomes}
use Rattle.walking.specs.Costs.{ListCosted}
use Rattle.walking.specs.Led.{led_by, Led, WalkedBy, Listing}

module _ {f index picks entries : List ℕ} (w : Walkable f index) (e : Entered f index picks entries) where
  -- the code of a state tells the part of its pick
  entered_picked : (s : ℕ) → s < (problem_of f).states
      → Picked index s (get_or picks s 0) (code_from (code_in entries s)) (code_to (code_in entries s))
  entered_picked s l = record { own = own; stray = stray }
    where
      own : own_at index s (get_or picks s 0) ≡ true
          → (code_from (code_in entries s) ≡ part_from index (get_or picks s 0))
          × (code_to (code_in entries s) ≡ part_to index (get_or picks s 0))
      own o =
          let is_own = sym (own_at_lem f index w.ready s l (get_or picks s 0)) ∙ o in
          let row = own_row_lem (problem_of f) w.formed s (get_or picks s 0) l is_own in
          let code : code_in entries s ≡ row_code index (get_or picks s 0) = e.codes s l ∙ rw o refl in
          rw code (code_from_lem w.ready.indexed (get_or picks s 0) row, code_to_lem w.ready.indexed (get_or picks s 0) row)

      stray : own_at index s (get_or picks s 0) ≡ false
          → (code_from (code_in entries s) ≡ 0) × (code_to (code_in entries s) ≡ 0)
      stray o =
          let code : code_in entries s ≡ 0 = e.codes s l ∙ rw o refl in
          (omega (arith, code), omega (arith, code))

  pub entered_led : Led f entries
  entered_led =
      record {
        whole = w.ready.indexed.whole;
        formed = w.formed;
        long = e.long;
        outcomes = λ s l. picked_outcomes w s l picks (entered_picked s l);
        no_goal = λ s l. picked_open w s l picks (entered_picked s l);
      }

  -- both graphs lead the same way
  same_walk : walk (problem_of f) (by_state picks) ≡ walk_on f (led_by f entries)
  unfolding walk_with
  same_walk =
      visit_same
      (problem_of f).goal
      (picked_by f picks)
      (led_by f entries)
      (problem_of f).states
      (next_state (problem_of f) w.formed (by_state picks))
      (λ s l. sym (picked_leads w s l picks (entered_picked s l)))
      max_states
      (problem_of f).start
      _
      w.formed.start_state

  pub entered_walk : {list' : List ℕ} {r : ℕ} → WalkedBy f entries list' r
      → take r list' ≡ (walk (problem_of f) (by_state picks)).list
  entered_walk h = h.list ∙ sym (ap (λ (t : Trail). t.list) same_walk)

  pub entered_listing : {list' : List ℕ} {r : ℕ} → WalkedBy f entries list' r → Listing f picks list' r
  entered_listing h = record { list = entered_walk h; few = h.few; list_long = h.list_long }

  -- and a list of the walk with the picks is that by the entries
  pub listing_walked : {list' : List ℕ} {r : ℕ} → Listing f picks list' r → WalkedBy f entries list' r
  listing_walked {list'} {r} h =
      let list : take r list' ≡ (walk_on f (led_by f entries)).list = h.list ∙ ap (λ (t : Trail). t.list) same_walk in
      record {
        list = list;
        count = sym (length-take-le r list' (omega (arith, h.few, h.list_long))) ∙ ap length list;
        few = h.few;
        list_long = h.list_long;
      }

-- the picks at the listed states say what they cost
pub listing_costed : {f index picks list : List ℕ} {n : ℕ} → Walkable f index → Listing f picks list n
    → (problem_of f).states ≤ length picks
    → ((s : ℕ) → Reached (problem_of f) (by_state picks) s → (problem_of f).goal s ≡ false
    → (get_or picks s 0 ≡ give_up) ⊎ (own_row (problem_of f) s (get_or picks s 0) ≡ true))
    → ListCosted f index picks list n
listing_costed {f} {index} {picks} {list} {n} w l long h =
    record {
      walkable = w;
      few = l.few;
      list_long = list_long;
      picks_long = long;
      listed = λ i m. listed_state (problem_of f) w.formed (by_state picks) (get_or list i 0) (there i m);
      costs = λ i m. cost_of (get_or list i 0) (there i m);
    }
  where
    list_long : n ≤ length list
    list_long = omega (arith, l.few, l.list_long)

    there : (i : ℕ) → i < n → In (get_or list i 0) (walk (problem_of f) (by_state picks)).list
    there i m =
        let size : i < length (take n list) = omega (arith, length-take-le n list list_long) in
        rw (get_or-take n list i 0 m, l.list) at (in_place (take n list) i size)

    cost_of : (s : ℕ) → In s (walk (problem_of f) (by_state picks)).list
        → (get_or picks s 0 ≡ give_up) ⊎ (get_or picks s 0 < (problem_of f).rows)
    cost_of s i =
        let p = problem_of f in
        let state = listed_state p w.formed (by_state picks) s i in
        ⊎_elim
        inl
        (λ own. inr (own_row_lem p w.formed s (get_or picks s 0) state own))
        (h s (listed_reached p w.formed (by_state picks) s i) (listed_open p w.formed (by_state picks) s i))
