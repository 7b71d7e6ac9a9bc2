-- C over the walk list is C over the marks: the least of the listed picks' costs and of any number no less than C.
-- C is at most the cost at every listed state, and equals one of them.
use Rattle.std.specs.Prelude.{◌≡◌, ℕ, ◌≤◌, min}
use native.Mathlib.Omega.{arith}
use mathlib.Core.List.{List, [], ◌∷◌}
use Rattle.std.proofs.Math.Logic.{⊎_elim}
use Rattle.model.specs.Problem.{Problem}
use Rattle.model.specs.Walk.{In, here, there, walk, at_start_lem, pick_cost, least_cost}
use Rattle.guarantee.specs.WellFormed.{WellFormed}
use Rattle.guarantee.specs.Graphs.{in_nil, in_cons}
use Rattle.guarantee.specs.Walks.{listed_reached, listed_open, reached_listed, least_low, least_cheapest}

-- the least of c and of the costs of the listed states' picks, from the front
unfoldable pub least_over : Problem → (ℕ → ℕ) → List ℕ → ℕ → ℕ
least_over p picks [] c = c
least_over p picks (s ∷ ss) c = least_over p picks ss (min (pick_cost p picks s) c)

-- it is at most c, at most each of the costs, and the greatest such number
module _ (p : Problem) (picks : ℕ → ℕ) where
  over_high : (l : List ℕ) (c : ℕ) → least_over p picks l c ≤ c
  unfolding least_over
  over_high [] c = omega arith
  over_high (s ∷ l) c = omega (arith, over_high l (min (pick_cost p picks s) c))

  over_under : (l : List ℕ) (c t : ℕ) → In t l → least_over p picks l c ≤ pick_cost p picks t
  unfolding least_over
  over_under [] c t i = absurd (in_nil i)
  over_under (s ∷ l) c t i =
      ⊎_elim (λ (e : t ≡ s). rw e (omega (arith, over_high l (min (pick_cost p picks s) c))))
      (λ j. over_under l (min (pick_cost p picks s) c) t j) (in_cons i)

  over_greatest
      : (l : List ℕ) (c x : ℕ) → x ≤ c → ((t : ℕ) → In t l → x ≤ pick_cost p picks t) → x ≤ least_over p picks l c
  unfolding least_over
  over_greatest [] c x h each = h
  over_greatest (s ∷ l) c x h each =
      over_greatest l (min (pick_cost p picks s) c) x (omega (arith, each s here)) (λ t i. each t (there i))

module _ {p : Problem} (formed : WellFormed p) (picks : ℕ → ℕ) where
  -- begun at any number that is no less than C, it is C
  pub least_listed : (c : ℕ) → least_cost p picks ≤ c → least_over p picks (walk p picks).list c ≡ least_cost p picks
  least_listed c h =
      let one = least_cheapest p formed picks in
      omega (
        arith,
        one.cost,
        over_under p picks (walk p picks).list c one.state
            (reached_listed p formed picks one.state one.reached one.state_open),
        over_greatest p picks (walk p picks).list c (least_cost p picks) h
            (λ t i. least_low p formed picks t (listed_reached p formed picks t i) (listed_open p formed picks t i)),
      )

  -- the cost of the start's pick is such a number
  pub least_at_start : least_cost p picks ≤ pick_cost p picks p.start
  least_at_start = least_low p formed picks p.start at_start_lem formed.start_open
