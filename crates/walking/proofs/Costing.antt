-- The index's cost of a pick is the model's, and one state more lowers the least as the model's step does.
-- Each marked state that is no goal has a pick whose cost the file says.
use mathlib.Core.Path.{◌≡◌, refl, ◌∙◌, ap}
use Prim.Native.Nat.{ℕ, ◌+◌, ◌*◌, ◌<◌, min}
use native.Mathlib.Decide.{ℕ_discrete}
use native.Mathlib.Numerals.{add-one}
use native.Mathlib.Omega.{arith}
use mathlib.Core.List.{List, [], ◌∷◌, ◌++◌}
use mathlib.Core.Logic.{◌⊎◌, inl, inr, ⊎_elim}
use lib.Dec.{eqb}
use lib.ListN.{length, get_or, take}
use lib.Seq.{take-suc}
use borrow.Author.Tests.{eq-eqb, ne_eqb}
use Rattle.model.specs.Limits.{give_up}
use Rattle.model.specs.Problem.{Problem, give_up_cost}
use Rattle.model.specs.Sections.{problem_of}
use Rattle.model.specs.Value.{by_state}
use Rattle.model.specs.Walk.{pick_cost, pick_cost_on, least_to}
use Rattle.guarantee.specs.Leasts.{least_over}
use Rattle.reading.specs.Tests.{rows_base}
use Rattle.walking.specs.Walkable.{Walkable}
use Rattle.walking.specs.Costs.{PickCosts, Costed, ListCosted, lower_to}

module _ {f index : List ℕ} (w : Walkable f index) where
  -- what `pick_cost` asks
  pub costed_row : {pick : ℕ} → (pick ≡ give_up) ⊎ (pick < (problem_of f).rows)
      → (pick ≡ give_up) ⊎ (rows_base + 2 * pick + 1 < length index)
  costed_row h = ⊎_elim inl (λ l. inr (omega (arith, w.ready.indexed.size))) h

  pub cost_is : (picks : List ℕ) (s : ℕ) {limit r : ℕ} → (get_or picks s 0 ≡ give_up) ⊎ (get_or picks s 0 < (problem_of f).rows)
      → limit ≡ give_up_cost (problem_of f) → PickCosts index (get_or picks s 0) limit r → r ≡ pick_cost (problem_of f) (by_state picks) s
  unfolding pick_cost
  cost_is picks s {limit} {r} h e c = go (ℕ_discrete (get_or picks s 0) give_up) h
    where
      go : Dec (get_or picks s 0 ≡ give_up) → (get_or picks s 0 ≡ give_up) ⊎ (get_or picks s 0 < (problem_of f).rows)
          → r ≡ pick_cost_on (eqb (get_or picks s 0) give_up) (problem_of f) (get_or picks s 0)
      go (yes g) q = rw (eq-eqb (get_or picks s 0) give_up g) (c.given g ∙ e)
      go (no n) q = rw (ne_eqb (get_or picks s 0) give_up n) (c.row n ∙ ⊎_elim (λ g. absurd (n g)) (w.ready.indexed.ticks (get_or picks s 0)) q)

  -- the start, which is marked and no goal
  module _ {picks marks : List ℕ} (c : Costed f picks marks) (m : get_or marks (problem_of f).start 0 ≡ 1) {s : ℕ}
      (is_start : s ≡ (problem_of f).start) where
    pub start_costed : (get_or picks s 0 ≡ give_up) ⊎ (get_or picks s 0 < (problem_of f).rows)
    start_costed = rw is_start (c.costs (problem_of f).start w.formed.start_state w.formed.start_open (omega arith))

    pub start_least : {limit r : ℕ} → limit ≡ give_up_cost (problem_of f) → PickCosts index (get_or picks s 0) limit r
        → r ≡ least_to (problem_of f) (by_state picks) marks 0
    unfolding least_to
    start_least e q = cost_is picks s start_costed e q ∙ ap (pick_cost (problem_of f) (by_state picks)) is_start

-- the loop: the least over one state more
pub least_more : (f picks marks : List ℕ) (k : ℕ) {least r : ℕ} → least ≡ least_to (problem_of f) (by_state picks) marks k
    → r ≡ lower_to f picks marks k least → r ≡ least_to (problem_of f) (by_state picks) marks (k + 1)
unfolding least_to
least_more f picks marks k e h = rw (add-one, ← e) h

-- the least over a list, and one state more at its end
least_over-snoc : (p : Problem) (picks : ℕ → ℕ) (l : List ℕ) (s c : ℕ)
    → least_over p picks (l ++ (s ∷ [])) c ≡ min (pick_cost p picks s) (least_over p picks l c)
unfolding least_over
least_over-snoc p picks [] s c = refl
least_over-snoc p picks (x ∷ l) s c = least_over-snoc p picks l s (min (pick_cost p picks x) c)

pub least_over-none : (p : Problem) (picks : ℕ → ℕ) (list : List ℕ) (c : ℕ) → c ≡ least_over p picks (take 0 list) c
unfolding least_over
least_over-none p picks list c = refl

-- the loop over a list: the least over the first i states and the next
module _ {f index picks list : List ℕ} {n : ℕ} (h : ListCosted f index picks list n) (i : ℕ) (more : i < n) where
  pub listed_picked : get_or list i 0 < length picks
  listed_picked = omega (arith, h.listed i more, h.picks_long)

  pub list_more : {limit : ℕ} → limit ≡ give_up_cost (problem_of f) → (c : ℕ) {least r least' : ℕ}
      → least ≡ least_over (problem_of f) (by_state picks) (take i list) c
      → PickCosts index (get_or picks (get_or list i 0) 0) limit r → least' ≡ min r least
      → least' ≡ least_over (problem_of f) (by_state picks) (take (i + 1) list) c
  list_more limited c {least} {r} e q m =
      let there : i < length list = omega (arith, more, h.list_long) in
      let last = least_over-snoc (problem_of f) (by_state picks) (take i list) (get_or list i 0) c in
      let longer : take (i + 1) list ≡ take i list ++ (get_or list i 0 ∷ []) = rw add-one (take-suc list i 0 there) in
      let costs = cost_is h.walkable picks (get_or list i 0) (h.costs i more) limited q in
      rw (longer, last, ← e, ← costs) m
