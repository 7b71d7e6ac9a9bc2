-- Laws of a problem's walk: its marks are the reached states, its list the reached states that are no goals, each once.
-- The laws of any graph, put to the states below the count, and the least cost along the marks.
use Rattle.std.specs.Prelude.{◌≡◌, true, false, ◌&&◌, List, [], ◌∷◌, map, eqb, leb, ltb, get_or, length}
use Rattle.std.proofs.Math.Path.{refl, sym}
use Rattle.std.proofs.Common.{ap, arith, ⊎_elim, ltb-true}
use Prim.Native.Nat.{ℕ, zero, suc, ◌≤◌, ◌<◌}
use Rattle.std.proofs.Math.Decide.{dec_le}
use Rattle.std.proofs.Math.Bool.{Bool, not}
use Rattle.std.proofs.lemmas.Bool.{eqb-false, not-true}
use Rattle.model.specs.Limits.{max_states}
use Rattle.model.specs.Problem.{Problem, Outcome, end_row, own_row}
use Rattle.model.specs.Search.{sum_to}
use Rattle.model.specs.Walk.{In, here, there, next_on, next, walk, walk_with, Reached, at_start_lem, along}
use Rattle.model.specs.Walk.{pick_cost, least_on, least_to, least_cost, least_cost_with}
use Rattle.guarantee.specs.WellFormed.{WellFormed}
use Rattle.guarantee.specs.Graphs.{sum_over, sum_over-each, sum_to_each, each, NoDup, no_dup, one_place}
use Rattle.guarantee.specs.Graphs.{only, only_once, in_nil, in_cons}
use Rattle.guarantee.specs.Graphs.{Whole, whole_walk, visit_same}
use Rattle.guarantee.specs.Searches.{and_left, and_right}

-- a reached state that is no goal, whose pick costs c
pub record Cheapest (p : Problem) (picks : ℕ → ℕ) (c : ℕ) : Type 0 where
  pub state : ℕ
  pub reached : Reached p picks state
  pub state_open : p.goal state ≡ false
  pub cost : c ≡ pick_cost p picks state

-- Rows and successors of a well formed problem.

pub and-true : (a b : Bool) → (a && b) ≡ true → (a ≡ true) × (b ≡ true)
and-true a b e = (and_left a b e, and_right a b e)

pub in_map {ℓ} : {A B : Type ℓ} (f : A → B) (l : List A) (b : B) → In b (map f l) → (a : A) × In a l × (b ≡ f a)
in_map f [] b i = absurd (in_nil i)
in_map f (a ∷ l) b i = ⊎_elim (λ e. (a, here, e)) (λ j. let r = in_map f l b j in (r.0, there r.1, r.2)) (in_cons i)

pub next_same : (p : Problem) (picks picks' : ℕ → ℕ) (s : ℕ) → picks s ≡ picks' s → next p picks s ≡ next p picks' s
unfolding next
next_same p picks picks' s e = ap (λ r. next_on (not (p.goal s) && own_row p s r) p r) e

module _ (p : Problem) (formed : WellFormed p) where
  pub rows_rise : (s k : ℕ) → s ≤ k → p.first_row s ≤ p.first_row k
  rows_rise s zero h = let e : s ≡ 0 = omega arith in rw e (omega arith)
  rows_rise s (suc k) h = go (dec_le s k) (rows_rise s k)
    where
      go : Dec (s ≤ k) → (s ≤ k → p.first_row s ≤ p.first_row k) → p.first_row s ≤ p.first_row (suc k)
      go (yes l) ih = omega (arith, ih l, formed.rows_follow k)
      go (no l) ih = let e : s ≡ suc k = omega arith in rw e (omega arith)

  -- the rows of a state end by the number of rows
  pub rows_within_lem : (s : ℕ) → s < p.states → end_row p s ≤ p.rows
  rows_within_lem s h = omega (arith, formed.rows_follow s, formed.rows_end, rows_rise (suc s) p.states h)

  pub rows_sum : (k : ℕ) → sum_to p.row_count k ≡ p.first_row k
  unfolding sum_to
  rows_sum zero = sym formed.rows_start
  rows_sum (suc k) = omega (arith, rows_sum k, formed.rows_follow k)

  -- an own row of a state is a row
  pub own_row_lem : (s r : ℕ) → s < p.states → own_row p s r ≡ true → r < p.rows
  own_row_lem s r h e = omega (arith, rows_within_lem s h, ltb-true r (end_row p s) (and-true (leb (p.first_row s) r) (ltb r (end_row p s)) e).1)

  next_on_lem : (b : Bool) (r t : ℕ) → (b ≡ true → r < p.rows) → In t (next_on b p r) → t < p.states
  next_on_lem true r t h i =
      let o = in_map (λ (o : Outcome). o.successor) (p.outcomes r) t i in
      omega (arith, o.2, formed.successor_state r (h refl) o.0 o.1)
  next_on_lem false r t h i = absurd (in_nil i)

  -- where a state leads are states
  pub next_state : (picks : ℕ → ℕ) (s t : ℕ) → s < p.states → In t (next p picks s) → t < p.states
  unfolding next
  next_state picks s t h i =
      let own = own_row p s (picks s) in
      next_on_lem (not (p.goal s) && own) (picks s) t (λ e. own_row_lem s (picks s) h (and-true (not (p.goal s)) own e).1) i

  module _ (picks : ℕ → ℕ) where
    pub reached_state : (s : ℕ) → Reached p picks s → s < p.states
    reached_state _ at_start_lem = formed.start_state
    reached_state _ (along {s = s} {t = t} r i) = next_state picks s t (reached_state s r) i

    -- the walk as a whole, over the reached states
    pub walk_whole : Whole p.goal (next p picks) p.states (Reached p picks) max_states p.start (walk p picks)
    unfolding walk_with
    walk_whole =
        whole_walk
        p.goal
        (next p picks)
        p.states
        (Reached p picks)
        reached_state
        (λ s t r i. along r i)
        max_states
        p.start
        formed.states_high
        at_start_lem

    -- "Reached states": the marks at the end are those of the reached states
    pub reached_marked : (s : ℕ) → Reached p picks s → get_or (walk p picks).marks s 0 ≡ 1
    reached_marked _ at_start_lem = walk_whole.started
    reached_marked _ (along {s = s} {t = t} r i) = walk_whole.closed s (reached_marked s r) t i

    pub marks_binary : (s : ℕ) → get_or (walk p picks).marks s 0 ≤ 1
    marks_binary = walk_whole.binary

    pub marked_reached : (s : ℕ) → (get_or (walk p picks).marks s 0 ≡ 0 → ⊥) → Reached p picks s
    marked_reached s h = walk_whole.within s (omega (arith, marks_binary s))

    -- the list: the reached states that are no goals, each once
    pub listed_reached : (s : ℕ) → In s (walk p picks).list → Reached p picks s
    listed_reached s i = walk_whole.within s (walk_whole.marked s i)

    pub listed_state : (s : ℕ) → In s (walk p picks).list → s < p.states
    listed_state s i = reached_state s (listed_reached s i)

    pub listed_open : (s : ℕ) → In s (walk p picks).list → p.goal s ≡ false
    listed_open = walk_whole.opens

    pub reached_listed : (s : ℕ) → Reached p picks s → p.goal s ≡ false → In s (walk p picks).list
    reached_listed s r o = walk_whole.lists s (reached_marked s r) o

    -- a weight on states: the listed ones weigh at most all
    pub listed_weight : (g : ℕ → ℕ) → sum_over g (walk p picks).list ≤ sum_to g p.states
    listed_weight = walk_whole.weighs

    pub listed_number : length (walk p picks).list ≤ p.states
    listed_number = omega (arith, listed_weight each, sum_over-each (walk p picks).list, sum_to_each p.states)

    pub listed_rows : sum_over p.row_count (walk p picks).list ≤ p.rows
    listed_rows = omega (arith, listed_weight p.row_count, rows_sum p.states, formed.rows_end)

    pub listed_once : NoDup (walk p picks).list
    listed_once = no_dup (walk p picks).list (λ a. omega (arith, listed_weight (only a), only_once a p.states))

    pub listed_places
        : (i j : ℕ) → i < length (walk p picks).list → j < length (walk p picks).list
        → get_or (walk p picks).list i 0 ≡ get_or (walk p picks).list j 0 → i ≡ j
    listed_places = one_place listed_once

    -- "C is the least .. over the picks at reached states that aren't goals": at most each, and one of them
    least_on_lem : (b : Bool) (c l : ℕ) → least_on b c l ≤ l
    least_on_lem true c l = omega arith
    least_on_lem false c l = omega arith

    least_under : (marks : List ℕ) (k s : ℕ) → s < k → p.goal s ≡ false → get_or marks s 0 ≡ 1 → least_to p picks marks k ≤ pick_cost p picks s
    unfolding least_to
    least_under marks zero s h o m = absurd (omega arith)
    least_under marks (suc k) s h o m = go (dec_le k s) (λ l. least_under marks k s l o m)
      where
        test : Bool
        test = not (p.goal k) && not (eqb (get_or marks k 0) 0)

        go : Dec (k ≤ s) → (s < k → least_to p picks marks k ≤ pick_cost p picks s)
            → least_on test (pick_cost p picks k) (least_to p picks marks k) ≤ pick_cost p picks s
        go (yes l) ih =
            let e : k ≡ s = omega arith in
            let t : test ≡ true = rw (e, o, m) in
            rw (t, e) (omega arith)
        go (no l) ih = omega (arith, ih (omega arith), least_on_lem test (pick_cost p picks k) (least_to p picks marks k))

    pub least_low : (s : ℕ) → Reached p picks s → p.goal s ≡ false → least_cost p picks ≤ pick_cost p picks s
    unfolding least_cost_with
    least_low s r o = least_under (walk p picks).marks p.states s (reached_state s r) o (reached_marked s r)

    least_attained : (k : ℕ) → Cheapest p picks (least_to p picks (walk p picks).marks k)
    unfolding least_to
    least_attained zero = record { state = p.start; reached = at_start_lem; state_open = formed.start_open; cost = refl }
    least_attained (suc k) = go _ refl (dec_le (pick_cost p picks k) (least_to p picks (walk p picks).marks k)) (least_attained k)
      where
        least : ℕ
        least = least_to p picks (walk p picks).marks k

        go : (b : Bool) → (not (p.goal k) && not (eqb (get_or (walk p picks).marks k 0) 0)) ≡ b
            → Dec (pick_cost p picks k ≤ least) → Cheapest p picks least
            → Cheapest p picks (least_on b (pick_cost p picks k) least)
        go false e d a = a
        go true e (no l) a =
            record { state = a.state; reached = a.reached; state_open = a.state_open; cost = omega (arith, a.cost) }
        go true e (yes l) a =
            let both = and-true (not (p.goal k)) (not (eqb (get_or (walk p picks).marks k 0) 0)) e in
            record {
              state = k;
              reached = marked_reached k (eqb-false _ _ (not-true _ both.1));
              state_open = not-true _ both.0;
              cost = omega arith;
            }

    pub least_cheapest : Cheapest p picks (least_cost p picks)
    unfolding least_cost_with
    least_cheapest = least_attained p.states

  -- picks that agree on states make the same walk
  pub walk_same : (picks picks' : ℕ → ℕ) → ((s : ℕ) → s < p.states → picks s ≡ picks' s) → walk p picks ≡ walk p picks'
  unfolding walk_with
  walk_same picks picks' h =
      visit_same
      p.goal
      (next p picks)
      (next p picks')
      p.states
      (next_state picks)
      (λ s l. next_same p picks picks' s (h s l))
      max_states
      p.start
      _
      formed.start_state
