-- Laws of the walk over any graph: what one visit marks and lists, by induction on the depth.
-- A weight on nodes only ever moves from the unmarked ones to the list, so depth, room and sums follow from one law.
use Rattle.std.specs.Prelude.{◌≡◌, Bool, ◌⊎◌, get_or, set, length, replicate}
use Rattle.std.proofs.Math.Path.{refl, ap}
use Rattle.std.proofs.Common.{sym, ◌∙◌, subst, arith, true≢false, inl, inr, ⊎_elim, length-set, get_or-set_same, get_or-set_other}
use Prim.Native.Nat.{ℕ, zero, suc, ◌+◌, ◌≤◌, ◌<◌}
use Rattle.std.proofs.Math.Decide.{ℕ_discrete}
use Rattle.std.proofs.Math.Bool.{true, false}
use mathlib.Core.List.{List, [], ◌∷◌, ◌++◌}
use Rattle.std.proofs.Math.Dec.{eqb}
use Rattle.std.proofs.lemmas.List.{length-replicate}
use borrow.Author.Tests.{eq-eqb, ne_eqb, eqb-true, eqb-false}
use Rattle.model.specs.Search.{sum_to}
use Rattle.model.specs.Walk.{In, here, there, Trail, mark, join, visit_on, visit_outcomes, visit_state}

-- the sum of g over a list
unfoldable pub sum_over : (ℕ → ℕ) → List ℕ → ℕ
sum_over g [] = 0
sum_over g (x ∷ xs) = g x + sum_over g xs

abbrev pub clear_on : Bool → ℕ → ℕ
clear_on true a = a
clear_on false a = 0

-- the sum of g over the unmarked of the first k nodes
unfoldable pub unmarked : (ℕ → ℕ) → List ℕ → ℕ → ℕ
unmarked g marks zero = 0
unmarked g marks (suc k) = unmarked g marks k + clear_on (eqb (get_or marks k 0) 0) (g k)

-- the weight that counts nodes
abbrev pub each : ℕ → ℕ
each s = 1

-- no node stands twice
pub data NoDup : List ℕ → Type 0 where
  none : NoDup []
  one : {a : ℕ} {l : List ℕ} → (In a l → ⊥) → NoDup l → NoDup (a ∷ l)

-- Being one of a list.

pub in_cons {ℓ} : {A : Type ℓ} {a b : A} {l : List A} → In a (b ∷ l) → (a ≡ b) ⊎ In a l
in_cons here = inl refl
in_cons (there i) = inr i

pub in_nil {ℓ} : {A : Type ℓ} {a : A} → In a [] → ⊥
in_nil i = elim i [ ]

pub in_left {ℓ} : {A : Type ℓ} {a : A} (l r : List A) → In a l → In a (l ++ r)
in_left [] r i = elim i [ ]
in_left (b ∷ l) r here = here
in_left (b ∷ l) r (there i) = there (in_left l r i)

pub in_last {ℓ} : {A : Type ℓ} (a : A) (l : List A) → In a (l ++ (a ∷ []))
in_last a [] = here
in_last a (b ∷ l) = there (in_last a l)

pub in_snoc {ℓ} : {A : Type ℓ} (a b : A) (l : List A) → In a (l ++ (b ∷ [])) → In a l ⊎ (a ≡ b)
in_snoc a b [] i = ⊎_elim inr (λ j. inl j) (in_cons i)
in_snoc a b (c ∷ l) i =
    ⊎_elim
    (λ e. inl (subst (λ x. In x (c ∷ l)) (sym e) here))
    (λ j. ⊎_elim (λ k. inl (there k)) inr (in_snoc a b l j))
    (in_cons i)

-- Sums over a list and over the unmarked.

pub sum_over-snoc : (g : ℕ → ℕ) (l : List ℕ) (s : ℕ) → sum_over g (l ++ (s ∷ [])) ≡ sum_over g l + g s
unfolding sum_over
sum_over-snoc g [] s = omega arith
sum_over-snoc g (x ∷ l) s = omega (arith, sum_over-snoc g l s)

pub sum_over-nil : (g : ℕ → ℕ) → sum_over g [] ≡ 0
unfolding sum_over
sum_over-nil g = refl

pub sum_over-each : (l : List ℕ) → sum_over each l ≡ length l
unfolding sum_over
sum_over-each [] = refl
sum_over-each (x ∷ l) = omega (arith, sum_over-each l)

pub in_sum_over : (g : ℕ → ℕ) (l : List ℕ) {s : ℕ} → In s l → g s ≤ sum_over g l
unfolding sum_over
in_sum_over g [] i = elim i [ ]
in_sum_over g (x ∷ l) here = omega arith
in_sum_over g (x ∷ l) (there i) = omega (arith, in_sum_over g l i)

-- what holds of all entries but the i-th, and of v, holds of all after v is stored at i
pub set_entry : (P : ℕ → ℕ → Type 0) (l : List ℕ) (i v : ℕ) → i < length l → ((j : ℕ) → (j ≡ i → ⊥) → P j (get_or l j 0)) → P i v
    → (j : ℕ) → P j (get_or (set l i v) j 0)
set_entry P l i v h others own j = go (ℕ_discrete j i)
  where
    go : Dec (j ≡ i) → P j (get_or (set l i v) j 0)
    go (yes e) = rw e (rw (get_or-set_same l i v 0 h) own)
    go (no ne) = rw (get_or-set_other l i j v 0 ne) (others j ne)

pub unmarked_same : (g : ℕ → ℕ) (m m' : List ℕ) (k : ℕ) → ((x : ℕ) → x < k → get_or m x 0 ≡ get_or m' x 0) → unmarked g m k ≡ unmarked g m' k
unfolding unmarked
unmarked_same g m m' zero h = refl
unmarked_same g m m' (suc k) h = rw (unmarked_same g m m' k (λ x l. h x (omega arith)), h k (omega arith))

pub unmarked_mark : (g : ℕ → ℕ) (m : List ℕ) (s k : ℕ) → s < length m → s < k → get_or m s 0 ≡ 0
    → unmarked g (set m s 1) k + g s ≡ unmarked g m k
unfolding unmarked
unmarked_mark g m s zero h l e = absurd (omega arith)
unmarked_mark g m s (suc k) h l e = go (λ b. unmarked_mark g m s k h b e) (ℕ_discrete k s)
  where
    go : (s < k → unmarked g (set m s 1) k + g s ≡ unmarked g m k) → Dec (k ≡ s)
        → unmarked g (set m s 1) k + clear_on (eqb (get_or (set m s 1) k 0) 0) (g k) + g s
        ≡ unmarked g m k + clear_on (eqb (get_or m k 0) 0) (g k)
    go ih (yes q) =
        let below : unmarked g (set m s 1) k ≡ unmarked g m k = unmarked_same g _ _ k (λ x b. get_or-set_other m s x 1 0 (omega arith)) in
        let new : clear_on (eqb (get_or (set m s 1) k 0) 0) (g k) ≡ 0 = rw (q, get_or-set_same m s 1 0 h) in
        let old : clear_on (eqb (get_or m k 0) 0) (g k) ≡ g s = rw (q, e) in
        omega arith
    go ih (no ne) = rw (get_or-set_other m s k 1 0 ne) (omega (arith, ih (omega arith)))

-- a node that is not marked weighs in
pub unmarked_holds : (g : ℕ → ℕ) (m : List ℕ) (s k : ℕ) → s < length m → s < k → get_or m s 0 ≡ 0 → g s ≤ unmarked g m k
unmarked_holds g m s k h l e = omega (arith, unmarked_mark g m s k h l e)

pub clear_entry : (n x : ℕ) → ◌≡◌ {A = ℕ} (get_or (replicate n 0) x 0) 0
clear_entry zero x = refl
clear_entry (suc n) zero = refl
clear_entry (suc n) (suc x) = clear_entry n x

pub unmarked_start : (g : ℕ → ℕ) (n k : ℕ) → unmarked g (replicate n 0) k ≡ sum_to g k
unfolding unmarked sum_to
unmarked_start g n zero = refl
unmarked_start g n (suc k) = rw (clear_entry n k, unmarked_start g n k)

pub sum_to_each : (k : ℕ) → sum_to each k ≡ k
unfolding sum_to
sum_to_each zero = refl
sum_to_each (suc k) = omega (arith, sum_to_each k)

-- A graph: goals, where each node leads, and a set of nodes below n that holds where its nodes lead.
module _ (goal : ℕ → Bool) (next : ℕ → List ℕ) (n : ℕ) (set_of : ℕ → Type 0) where
  -- what a stretch of the walk from w to w' does
  pub record Step (w w' : Trail) : Type 0 where
    pub long : length w'.marks ≡ length w.marks
    pub binary : (x : ℕ) → get_or w'.marks x 0 ≤ 1
    pub stays : (x : ℕ) → get_or w.marks x 0 ≡ 1 → get_or w'.marks x 0 ≡ 1
    pub within : ((x : ℕ) → get_or w.marks x 0 ≡ 1 → set_of x) → (x : ℕ) → get_or w'.marks x 0 ≡ 1 → set_of x
    pub closed : (x : ℕ) → get_or w.marks x 0 ≡ 0 → get_or w'.marks x 0 ≡ 1 → (t : ℕ) → In t (next x) → get_or w'.marks t 0 ≡ 1
    pub keeps : (x : ℕ) → In x w.list → In x w'.list
    pub lists : (x : ℕ) → get_or w.marks x 0 ≡ 0 → get_or w'.marks x 0 ≡ 1 → goal x ≡ false → In x w'.list
    pub marked : ((x : ℕ) → In x w.list → get_or w.marks x 0 ≡ 1) → (x : ℕ) → In x w'.list → get_or w'.marks x 0 ≡ 1
    pub opens : ((x : ℕ) → In x w.list → goal x ≡ false) → (x : ℕ) → In x w'.list → goal x ≡ false
    pub fewer : (g : ℕ → ℕ) → unmarked g w'.marks n ≤ unmarked g w.marks n
    pub moves : (g : ℕ → ℕ) → sum_over g w'.list + unmarked g w'.marks n ≤ sum_over g w.list + unmarked g w.marks n

  -- a walk from a node of the set, with m marks, all clear
  pub record Whole (m s : ℕ) (w : Trail) : Type 0 where
    pub long : length w.marks ≡ m
    pub binary : (x : ℕ) → get_or w.marks x 0 ≤ 1
    pub started : get_or w.marks s 0 ≡ 1
    pub closed : (x : ℕ) → get_or w.marks x 0 ≡ 1 → (t : ℕ) → In t (next x) → get_or w.marks t 0 ≡ 1
    pub within : (x : ℕ) → get_or w.marks x 0 ≡ 1 → set_of x
    pub lists : (x : ℕ) → get_or w.marks x 0 ≡ 1 → goal x ≡ false → In x w.list
    pub marked : (x : ℕ) → In x w.list → get_or w.marks x 0 ≡ 1
    pub opens : (x : ℕ) → In x w.list → goal x ≡ false
    pub weighs : (g : ℕ → ℕ) → sum_over g w.list ≤ sum_to g n

  -- a trail to visit from: a depth of at least the number of unmarked nodes is enough
  pub record VisitReady (depth : ℕ) (w : Trail) : Type 0 where
    pub room : n ≤ length w.marks
    pub binary : (x : ℕ) → get_or w.marks x 0 ≤ 1
    pub deep : unmarked each w.marks n ≤ depth

  pub step_none : (w : Trail) → ((x : ℕ) → get_or w.marks x 0 ≤ 1) → Step w w
  step_none w b =
      record {
        long = refl;
        binary = b;
        stays = λ x e. e;
        within = λ h. h;
        closed = λ x e q. absurd (omega arith);
        keeps = λ x i. i;
        lists = λ x e q. absurd (omega arith);
        marked = λ h. h;
        opens = λ h. h;
        fewer = λ g. omega arith;
        moves = λ g. omega arith;
      }

  -- a mark of 0 or 1 is one of the two
  either : (x : ℕ) → x ≤ 1 → (x ≡ 0) ⊎ (x ≡ 1)
  either zero h = inl refl
  either (suc x) h = inr (omega arith)

  pub step_then : (w w' w'' : Trail) → Step w w' → Step w' w'' → Step w w''
  step_then w w' w'' a b =
      record {
        long = b.long ∙ a.long;
        binary = b.binary;
        stays = λ x e. b.stays x (a.stays x e);
        within = λ h. b.within (a.within h);
        closed = λ x e q t i. ⊎_elim (λ z. b.closed x z q t i) (λ m. b.stays t (a.closed x e m t i)) (either _ (a.binary x));
        keeps = λ x i. b.keeps x (a.keeps x i);
        lists = λ x e q o. ⊎_elim (λ z. b.lists x z q o) (λ m. b.keeps x (a.lists x e m o)) (either _ (a.binary x));
        marked = λ h. b.marked (a.marked h);
        opens = λ h. b.opens (a.opens h);
        fewer = λ g. omega (arith, a.fewer g, b.fewer g);
        moves = λ g. omega (arith, a.moves g, b.moves g);
      }

  -- after a stretch a depth that was enough still is
  pub ready_then : (d : ℕ) (w w' : Trail) → VisitReady d w → Step w w' → VisitReady d w'
  ready_then d w w' r a =
      record { room = omega (arith, r.room, a.long); binary = a.binary; deep = omega (arith, r.deep, a.fewer each) }

  -- what visiting one node, or some, is to do
  abbrev pub Visits : ℕ → (ℕ → Trail → Trail) → Type 0
  Visits d visit =
      (t : ℕ) (w : Trail) → set_of t → get_or w.marks t 0 ≡ 0 → VisitReady d w
      → Step w (visit t w) × (get_or (visit t w).marks t 0 ≡ 1)

  module _ (set_below : (s : ℕ) → set_of s → s < n) (along : (s t : ℕ) → set_of s → In t (next s) → set_of t) where
    pub outcomes_visited : (d : ℕ) (visit : ℕ → Trail → Trail) → Visits d visit → (ts : List ℕ) (w : Trail)
        → ((t : ℕ) → In t ts → set_of t) → VisitReady d w
        → Step w (visit_outcomes visit ts w) × ((t : ℕ) → In t ts → get_or (visit_outcomes visit ts w).marks t 0 ≡ 1)
    unfolding visit_outcomes
    outcomes_visited d visit v [] w h r = (step_none w r.binary, λ t i. absurd (in_nil i))
    outcomes_visited d visit v (t ∷ ts) w h r =
        let first = outcome (eqb (get_or w.marks t 0) 0) refl in
        rest _ first (outcomes_visited d visit v ts _ (λ x i. h x (there i)) (ready_then d w _ r first.0))
      where
        outcome : (b : Bool) → eqb (get_or w.marks t 0) 0 ≡ b → Step w (visit_on b visit t w) × (get_or (visit_on b visit t w).marks t 0 ≡ 1)
        outcome true e = v t w (h t here) (eqb-true _ _ e) r
        outcome false e = (step_none w r.binary, omega (arith, r.binary t, eqb-false (get_or w.marks t 0) 0 e))

        rest : (w' : Trail) → Step w w' × (get_or w'.marks t 0 ≡ 1)
            → Step w' (visit_outcomes visit ts w') × ((x : ℕ) → In x ts → get_or (visit_outcomes visit ts w').marks x 0 ≡ 1)
            → Step w (visit_outcomes visit ts w') × ((x : ℕ) → In x (t ∷ ts) → get_or (visit_outcomes visit ts w').marks x 0 ≡ 1)
        rest w' a b = (step_then _ _ _ a.0 b.0, λ x i. ⊎_elim (λ e. rw e (b.0.stays t a.1)) (b.1 x) (in_cons i))

    -- "Visiting marks the state", then its outcomes are visited, and then it joins the list: a stretch from w0 to w1, and what is around it
    module _ (s : ℕ) (w w1 : Trail) (mine : set_of s) (clear : get_or w.marks s 0 ≡ 0) (room : n ≤ length w.marks)
        (a : Step (mark s w) w1) (outs : (t : ℕ) → In t (next s) → get_or w1.marks t 0 ≡ 1) where
      inside : s < length w.marks
      inside = omega (arith, set_below s mine)

      mark_stays : (x : ℕ) → get_or w.marks x 0 ≡ 1 → get_or (mark s w).marks x 0 ≡ 1
      mark_stays = set_entry (λ j m. get_or w.marks j 0 ≡ 1 → m ≡ 1) w.marks s 1 inside (λ j ne e. e) (λ e. refl)

      now_marked : get_or w1.marks s 0 ≡ 1
      now_marked = a.stays s (get_or-set_same w.marks s 1 0 inside)

      around_closed : (x : ℕ) → Dec (x ≡ s) → get_or w.marks x 0 ≡ 0 → get_or w1.marks x 0 ≡ 1
          → (t : ℕ) → In t (next x) → get_or w1.marks t 0 ≡ 1
      around_closed x (yes e) z q t i = outs t (subst (λ y. In t (next y)) e i)
      around_closed x (no ne) z q t i = a.closed x (get_or-set_other w.marks s x 1 0 ne ∙ z) q t i

      around_lists : (x : ℕ) → Dec (x ≡ s) → get_or w.marks x 0 ≡ 0 → get_or w1.marks x 0 ≡ 1 → goal x ≡ false → In x w1.list ⊎ (x ≡ s)
      around_lists x (yes e) z q o = inr e
      around_lists x (no ne) z q o = inl (a.lists x (get_or-set_other w.marks s x 1 0 ne ∙ z) q o)

      around_moves : (g : ℕ → ℕ) → sum_over g w1.list + g s + unmarked g w1.marks n ≤ sum_over g w.list + unmarked g w.marks n
      around_moves g = omega (arith, a.moves g, unmarked_mark g w.marks s n inside (set_below s mine) clear)

      around_marked : ((x : ℕ) → In x w.list → get_or w.marks x 0 ≡ 1) → (x : ℕ) → In x w1.list → get_or w1.marks x 0 ≡ 1
      around_marked h = a.marked (λ x i. mark_stays x (h x i))

      -- with a list of which as much is known as the visited outcomes say, and that has s where s is no goal
      around : (list : List ℕ) → ((x : ℕ) → In x w1.list → In x list) → (goal s ≡ false → In s list)
          → ((x : ℕ) → In x list → In x w1.list ⊎ ((x ≡ s) × (goal s ≡ false)))
          → ((g : ℕ → ℕ) → sum_over g list ≤ sum_over g w1.list + g s)
          → Step w (record { marks = w1.marks; list = list })
      around list more own back sum =
          record {
            long = a.long ∙ length-set w.marks s 1;
            binary = a.binary;
            stays = λ x e. a.stays x (mark_stays x e);
            within = λ h. a.within (set_entry (λ j m. m ≡ 1 → set_of j) w.marks s 1 inside (λ j ne. h j) (λ e. mine));
            closed = λ x. around_closed x (ℕ_discrete x s);
            keeps = λ x i. more x (a.keeps x i);
            lists =
                λ x z q o.
                ⊎_elim
                (more x)
                (λ e. subst (λ y. In y list) (sym e) (own (subst (λ y. goal y ≡ false) e o)))
                (around_lists x (ℕ_discrete x s) z q o);
            marked = λ h x i. ⊎_elim (around_marked h x) (λ e. rw e.0 now_marked) (back x i);
            opens = λ h x i. ⊎_elim (a.opens h x) (λ e. rw e.0 e.1) (back x i);
            fewer = λ g. omega (arith, a.fewer g, unmarked_mark g w.marks s n inside (set_below s mine) clear);
            moves = λ g. omega (arith, sum g, around_moves g);
          }

      joined : (b : Bool) → goal s ≡ b → Step w (join b s w1) × (get_or (join b s w1).marks s 0 ≡ 1)
      joined true g =
          (around w1.list (λ x i. i) (λ e. absurd (true≢false (sym g ∙ e))) (λ x i. inl i) (λ g. omega arith), now_marked)
      joined false g = (
        around
            (w1.list ++ (s ∷ []))
            (λ x. in_left w1.list (s ∷ []))
            (λ e. in_last s w1.list)
            (λ x i. ⊎_elim inl (λ e. inr (e, g)) (in_snoc x s w1.list i))
            (λ g. omega (arith, sum_over-snoc g w1.list s)),
        now_marked,
      )

    -- marking an unmarked node uses up one of the depth
    pub ready_mark : {d : ℕ} (s : ℕ) {w : Trail} → set_of s → get_or w.marks s 0 ≡ 0 → VisitReady (suc d) w → VisitReady d (mark s w)
    ready_mark s {w} mine clear r =
        let inside : s < length w.marks = omega (arith, set_below s mine, r.room) in
        record {
          room = omega (arith, r.room, length-set w.marks s 1);
          binary = set_entry (λ j m. m ≤ 1) w.marks s 1 inside (λ j ne. r.binary j) (omega arith);
          deep = omega (arith, r.deep, unmarked_mark each w.marks s n inside (set_below s mine) clear);
        }

    -- where a node is unmarked, a depth that is enough is at least 1
    pub ready_deep : {d : ℕ} (s : ℕ) {w : Trail} → set_of s → get_or w.marks s 0 ≡ 0 → VisitReady d w → 1 ≤ d
    ready_deep s {w} mine clear r =
        omega (arith, r.deep, unmarked_holds each w.marks s n (omega (arith, set_below s mine, r.room)) (set_below s mine) clear)

    pub state_visited : (d : ℕ) → Visits d (visit_state goal next d)
    unfolding visit_state
    state_visited zero s w mine clear r = absurd (omega (arith, ready_deep s mine clear r))
    state_visited (suc d) s w mine clear r =
        let ready = ready_mark s mine clear r in
        let outs = outcomes_visited d (visit_state goal next d) (state_visited d) (next s) (mark s w) (λ t i. along s t mine i) ready in
        joined s w _ mine clear r.room outs.0 outs.1 (goal s) refl

    pub ready_clear : (m : ℕ) → n ≤ m → VisitReady m (record { marks = replicate m 0; list = [] })
    ready_clear m h =
        record {
          room = omega (arith, length-replicate {A = ℕ} m 0);
          binary = λ x. omega (arith, clear_entry m x);
          deep = omega (arith, unmarked_start each m n, sum_to_each n);
        }

    pub whole_walk : (m s : ℕ) → n ≤ m → set_of s → Whole m s (visit_state goal next m s (record { marks = replicate m 0; list = [] }))
    whole_walk m s h mine =
        let done = state_visited m s _ mine (clear_entry m s) (ready_clear m h) in
        record {
          long = done.0.long ∙ length-replicate {A = ℕ} m 0;
          binary = done.0.binary;
          started = done.1;
          closed = λ x. done.0.closed x (clear_entry m x);
          within = done.0.within (λ x e. absurd (omega (arith, clear_entry m x)));
          lists = λ x. done.0.lists x (clear_entry m x);
          marked = done.0.marked (λ x i. absurd (in_nil i));
          opens = done.0.opens (λ x i. absurd (in_nil i));
          weighs = λ g. omega (arith, done.0.moves g, unmarked_start g m n, sum_over-nil g);
        }

-- A list in which each node counts at most once has no node twice.

-- the weight that counts the node a
abbrev pub only : ℕ → ℕ → ℕ
only a x = clear_on (eqb x a) 1

only_below : (a k : ℕ) → k ≤ a → sum_to (only a) k ≡ 0
unfolding sum_to
only_below a zero h = refl
only_below a (suc k) h = rw (ne_eqb k a (omega arith)) (omega (arith, only_below a k (omega arith)))

pub only_once : (a k : ℕ) → sum_to (only a) k ≤ 1
unfolding sum_to
only_once a zero = omega arith
only_once a (suc k) = go (ℕ_discrete k a) (only_once a k)
  where
    go : Dec (k ≡ a) → sum_to (only a) k ≤ 1 → sum_to (only a) k + clear_on (eqb k a) 1 ≤ 1
    go (yes e) ih = rw (eq-eqb k a e) (omega (arith, only_below a k (omega arith)))
    go (no ne) ih = rw (ne_eqb k a ne) (omega arith)

pub no_dup : (l : List ℕ) → ((a : ℕ) → sum_over (only a) l ≤ 1) → NoDup l
unfolding sum_over
no_dup [] h = none
no_dup (x ∷ l) h =
    let self : only x x ≡ 1 = rw (eq-eqb x x refl) in
    one {a = x} {l = l} (λ i. omega (arith, h x, in_sum_over (only x) l i)) (no_dup l (λ a. omega (arith, h a)))

-- so two places of such a list that hold the same node are one place

pub in_place : (l : List ℕ) (i : ℕ) → i < length l → In (get_or l i 0) l
in_place [] i h = absurd (omega arith)
in_place (x ∷ l) zero h = here
in_place (x ∷ l) (suc i) h = there (in_place l i (omega arith))

pub one_place : {l : List ℕ} → NoDup l → (i j : ℕ) → i < length l → j < length l → get_or l i 0 ≡ get_or l j 0 → i ≡ j
one_place none i j h k e = absurd (omega arith)
one_place (one out rest) zero zero h k e = refl
one_place (one {l = l} out rest) zero (suc j) h k e = absurd (out (subst (λ x. In x l) (sym e) (in_place l j (omega arith))))
one_place (one {l = l} out rest) (suc i) zero h k e = absurd (out (subst (λ x. In x l) e (in_place l i (omega arith))))
one_place (one out rest) (suc i) (suc j) h k e = ap suc (one_place rest i j (omega arith) (omega arith) e)

-- Two graphs that lead the same way from the nodes below n have the same walk.

module _ (goal : ℕ → Bool) (next next' : ℕ → List ℕ) (n : ℕ) (below : (s t : ℕ) → s < n → In t (next s) → t < n)
    (agree : (s : ℕ) → s < n → next s ≡ next' s) where
  outcomes_same : (visit visit' : ℕ → Trail → Trail) → ((t : ℕ) (w : Trail) → t < n → visit t w ≡ visit' t w)
      → (ts : List ℕ) (w : Trail) → ((t : ℕ) → In t ts → t < n) → visit_outcomes visit ts w ≡ visit_outcomes visit' ts w
  unfolding visit_outcomes
  outcomes_same visit visit' v [] w h = refl
  outcomes_same visit visit' v (t ∷ ts) w h =
      ap (visit_outcomes visit ts) (outcome (eqb (get_or w.marks t 0) 0)) ∙ outcomes_same visit visit' v ts _ (λ x i. h x (there i))
    where
      outcome : (b : Bool) → visit_on b visit t w ≡ visit_on b visit' t w
      outcome true = v t w (h t here)
      outcome false = refl

  pub visit_same : (d s : ℕ) (w : Trail) → s < n → visit_state goal next d s w ≡ visit_state goal next' d s w
  unfolding visit_state
  visit_same zero s w h = refl
  visit_same (suc d) s w h =
      rw (← agree s h) (ap (join (goal s) s) (outcomes_same _ _ (λ t w' l. visit_same d t w' l) (next s) (mark s w) (λ t i. below s t h i)))
