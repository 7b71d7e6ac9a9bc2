-- The visits as the code makes them, event by event: what each step keeps and leaves, over any graph of states.
-- Everything but the equation with the model follows from the graph's law at the depth of the unmarked states.
use mathlib.Core.Path.{◌≡◌, refl, sym, ◌∙◌, ap}
use Prim.Native.Nat.{ℕ, zero, suc, ◌+◌, ◌/◌, ◌≤◌, ◌<◌}
use native.Mathlib.Numerals.{add-one}
use native.Mathlib.Omega.{arith}
use mathlib.Core.Bool.{Bool, true, false}
use mathlib.Core.List.{List, [], ◌∷◌, ◌++◌}
use lib.Dec.{eqb}
use lib.ListN.{get_or, set, length, take, length-set}
use lib.Seq.{take-suc-set}
use borrow.Author.Tests.{eq-eqb, ne_eqb}
use Rattle.std.proofs.Common.{true≢false}
use Rattle.model.specs.Bytes.{u16_at}
use Rattle.model.specs.Limits.{max_states}
use Rattle.model.specs.Sections.{problem_of}
use Rattle.model.specs.Walk.{Trail, join, visit_on, visit_state, visit_outcomes}
use Rattle.guarantee.specs.Graphs.{VisitReady, each, unmarked_mark, set_entry, step_none, step_then, state_visited}
use Rattle.walking.specs.Trails.{OutcomesIn, Told, leads_in, leads_from, trail, unmarked_states, AmongStates, Stretch}
use Rattle.walking.specs.Trails.{visited_state, visited_outcomes, Under, OverState, OverOutcomes}
use Rattle.walking.specs.Parts.{leads_more, outcome_state, outcomes_more}

-- a depth of the unmarked states is enough for a visit
under_ready : {f marks list : List ℕ} {n : ℕ} (graph : ℕ → List ℕ) → Under f marks list n
    → VisitReady
    (problem_of f).goal
    graph
    (problem_of f).states
    (λ s. s < (problem_of f).states)
    (unmarked_states f marks)
    (trail marks list n)
under_ready graph u = record { room = u.marks_long; binary = u.binary; deep = omega arith }

-- a visit of state s: it is marked, the outcomes of its pick are visited, and it joins the list unless it is a goal
module _ {f marks list : List ℕ} {n : ℕ} (u : Under f marks list n) (s : ℕ)
    (state : s < (problem_of f).states) (clear : get_or marks s 0 ≡ 0) where
  inside : s < length marks
  inside = omega (arith, u.marks_long)

  pub mark_left : unmarked_states f (set marks s 1) + 1 ≡ unmarked_states f marks
  mark_left = unmarked_mark each marks s (problem_of f).states inside state clear

  pub mark_under : Under f (set marks s 1) list n
  mark_under =
      record {
        list_long = u.list_long;
        marks_long = omega (arith, u.marks_long, length-set marks s 1);
        binary = set_entry (λ j m. m ≤ 1) marks s 1 inside (λ j ne. u.binary j) (omega arith);
        room = omega (arith, u.room, mark_left);
      }

  -- the stretch that a visit is, from what it leaves at the depth of the unmarked states
  state_stretch : (graph : ℕ → List ℕ) → AmongStates f graph → (w : Trail)
      → visited_state f graph s (unmarked_states f marks) (trail marks list n) ≡ w → Stretch f graph (trail marks list n) w
  state_stretch graph along w e =
      let ready = under_ready graph u in
      rw e at (state_visited _ _ _ _ (λ x h. h) along _ s (trail marks list n) state clear ready).0

  module _ {graph : ℕ → List ℕ} (part : List ℕ) {marks1 list1 : List ℕ} {k : ℕ}
      (o : OverOutcomes f graph part (set marks s 1) list n marks1 list1 k) where
    -- there is room to list the state
    list_room : k < (problem_of f).states
    list_room = omega (arith, o.room, u.room, mark_left)

    pub list_inside : (problem_of f).states ≤ max_states → k < max_states
    list_inside h = omega (arith, list_room)

    module _ (among : AmongStates f graph) (led : leads_in part ≡ graph s) where
      state_same : (b : Bool) → (problem_of f).goal s ≡ b → (d : ℕ) → unmarked_states f marks ≤ d
          → visited_state f graph s d (trail marks list n) ≡ join b s (trail marks1 list1 k)
      unfolding visit_state
      state_same b g zero h = absurd (omega (arith, mark_left))
      state_same b g (suc d) h =
          rw (g, ← led) (ap (join b s) (o.same d (omega (arith, mark_left))))

      over_unlisted : (problem_of f).goal s ≡ true → OverState f graph s marks list n marks1 list1 k
      over_unlisted g = record {
        same = state_same true g;
        stretch = state_stretch graph among _ (state_same true g _ (omega arith));
        grows = o.grows;
        room = omega (arith, o.room, mark_left);
        list_long = o.list_long;
      }

      pub over_listed : (problem_of f).goal s ≡ false → OverState f graph s marks list n marks1 (set list1 k s) (k + 1)
      over_listed g = record {
        same = listed;
        stretch = state_stretch graph among _ (listed _ (omega arith));
        grows = omega (arith, o.grows);
        room = omega (arith, o.room, mark_left);
        list_long = omega (arith, length-set list1 k s, o.list_long);
      }
        where
          pushed : take k list1 ++ (s ∷ []) ≡ take (k + 1) (set list1 k s)
          pushed = rw add-one (sym (take-suc-set list1 k s (omega (arith, list_room, o.list_long))))

          listed : (d : ℕ) → unmarked_states f marks ≤ d
              → visited_state f graph s d (trail marks list n) ≡ trail marks1 (set list1 k s) (k + 1)
          listed d h = state_same false g d h ∙ ap (λ l. record { marks = marks1; list = l }) pushed

first_outcome : (visit : ℕ → Trail → Trail) (t : ℕ) (ts : List ℕ) (w : Trail) (b : Bool) → eqb (get_or w.marks t 0) 0 ≡ b
    → visit_outcomes visit (t ∷ ts) w ≡ visit_outcomes visit ts (visit_on b visit t w)
unfolding visit_outcomes
first_outcome visit t ts w b e = ap (λ x. visit_outcomes visit ts (visit_on x visit t w)) e

-- The loop over the outcomes of a part, where `rest` is left of it: what is left completes the whole.
pub record Looping
    (f : List ℕ) (graph : ℕ → List ℕ) (part marks₀ list₀ : List ℕ) (n : ℕ)
    (marks list : List ℕ) (k : ℕ) (rest : List ℕ) : Type 0 where
  pub under : Under f marks list k
  pub ahead : OutcomesIn f rest
  pub completes : (d : ℕ) → unmarked_states f marks₀ ≤ d
      → visited_outcomes f graph part d (trail marks₀ list₀ n) ≡ visited_outcomes f graph rest d (trail marks list k)
  pub stretch : Stretch f graph (trail marks₀ list₀ n) (trail marks list k)
  pub grows : n ≤ k
  pub room : k + unmarked_states f marks ≤ n + unmarked_states f marks₀

-- the first outcome of what is left, where it leads, and what is left then
pub record OneOf (left x rest : List ℕ) (t : ℕ) : Type 0 where
  pub split : left ≡ x ++ rest
  pub one : length x ≡ 4
  pub leads_to : t ≡ u16_at x 0

pub one_of : {left x rest : List ℕ} {size t : ℕ} → (left ≡ x ++ rest) × (length x ≡ size) → size ≡ 4 → t ≡ u16_at x 0
    → OneOf left x rest t
one_of h e l = record { split = h.0; one = h.1 ∙ e; leads_to = l }

pub loop_start : {f : List ℕ} {graph : ℕ → List ℕ} {part marks list : List ℕ} {n : ℕ}
    → Under f marks list n → OutcomesIn f part → Looping f graph part marks list n marks list n part
loop_start {f} {graph} {part} {marks} {list} {n} u o =
    record {
      under = u;
      ahead = o;
      completes = λ d h. refl;
      stretch = step_none _ _ _ _ (trail marks list n) u.binary;
      grows = omega arith;
      room = omega arith;
    }

module _ {f : List ℕ} {graph : ℕ → List ℕ} {part marks₀ list₀ : List ℕ} {n : ℕ} {marks list : List ℕ} {k : ℕ} where
  -- after the last outcome
  pub loop_end : {rest : List ℕ} → Looping f graph part marks₀ list₀ n marks list k rest → length rest < 4
      → OverOutcomes f graph part marks₀ list₀ n marks list k
  unfolding visit_outcomes leads_from
  loop_end {rest} l h =
      let none : length rest / 4 ≡ 0 = omega arith in
      record {
        same = λ d g. l.completes d g ∙ rw none refl;
        stretch = l.stretch;
        grows = l.grows;
        room = l.room;
        list_long = l.under.list_long;
      }

  module _ {left x rest : List ℕ} {t : ℕ} (l : Looping f graph part marks₀ list₀ n marks list k left)
      (o : OneOf left x rest t) where
    ahead : OutcomesIn f (x ++ rest)
    ahead = rw o.split at l.ahead

    pub loop_state : t < (problem_of f).states
    loop_state = rw o.leads_to (outcome_state x rest ahead o.one)

    -- that outcome, and then the others
    one_outcome : (d : ℕ) (b : Bool) → eqb (get_or marks t 0) 0 ≡ b
        → visited_outcomes f graph left d (trail marks list k)
        ≡ visited_outcomes f graph rest d (visit_on b (visit_state (problem_of f).goal graph d) t (trail marks list k))
    one_outcome d b e =
        let visit = visit_state (problem_of f).goal graph d in
        ap (λ ts. visit_outcomes visit ts (trail marks list k)) (rw (o.split, o.leads_to) (leads_more x rest o.one))
        ∙ first_outcome visit t (leads_in rest) (trail marks list k) b e

    -- its state is marked, and passed over
    pub loop_pass : (get_or marks t 0 ≡ 0 → ⊥) → Looping f graph part marks₀ list₀ n marks list k rest
    loop_pass h =
        record {
          under = l.under;
          ahead = outcomes_more x rest ahead o.one;
          completes = λ d g. l.completes d g ∙ one_outcome d false (ne_eqb _ _ h);
          stretch = l.stretch;
          grows = l.grows;
          room = l.room;
        }

    -- it is not marked, and visited
    pub loop_visit : {marks' list' : List ℕ} {k' : ℕ} → get_or marks t 0 ≡ 0
        → OverState f graph t marks list k marks' list' k'
        → Looping f graph part marks₀ list₀ n marks' list' k' rest
    loop_visit {marks'} {list'} {k'} clear v =
        record {
          under =
              record {
                list_long = v.list_long;
                marks_long = omega (arith, l.under.marks_long, v.stretch.long);
                binary = v.stretch.binary;
                room = omega (arith, l.under.room, v.room);
              };
          ahead = outcomes_more x rest ahead o.one;
          completes =
              λ d g.
              let deep : unmarked_states f marks ≤ d = omega (arith, l.stretch.fewer each) in
              l.completes d g ∙ one_outcome d true (eq-eqb _ _ clear) ∙ ap (visited_outcomes f graph rest d) (v.same d deep);
          stretch = step_then _ _ _ (λ s. s < (problem_of f).states) _ _ _ l.stretch v.stretch;
          grows = omega (arith, l.grows, v.grows);
          room = omega (arith, l.room, v.room);
        }

-- a goal has no outcomes, and is marked and not listed
pub over_goal : {f marks list : List ℕ} {n : ℕ} (u : Under f marks list n) (s : ℕ)
    → s < (problem_of f).states → get_or marks s 0 ≡ 0 → {graph : ℕ → List ℕ} → AmongStates f graph → {part : List ℕ} → Told f graph s part → (problem_of f).goal s ≡ true
    → OverState f graph s marks list n (set marks s 1) list n
over_goal {f} {marks} {list} {n} u s state clear {graph} among {part} t g =
    over_unlisted u s state clear part none among t.led g
  where
    empty : (l : List ℕ) → (0 < length l → (problem_of f).goal s ≡ false) → length l < 4
    empty [] h = omega arith
    empty (x ∷ l) h = absurd (true≢false (sym g ∙ h (omega arith)))

    none : OverOutcomes f graph part (set marks s 1) list n (set marks s 1) list n
    none = loop_end (loop_start (mark_under u s state clear) t.outcomes) (empty part t.no_goal)
