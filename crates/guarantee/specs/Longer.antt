-- Request E9: within two limits a file has the same verdict, solution and audit under both; limits matter only to files above them.
-- Two walks with marks and depths of at least the number of states list and mark the same states; the rest follows from that.
use Rattle.std.specs.Prelude.{◌≡◌, Bool, ◌||◌, not, get_or, set, length, replicate}
use Rattle.std.proofs.Math.Path.{refl, sym, ap}
use Rattle.std.proofs.Common.{◌∙◌, arith, get_or-set_same, get_or-set_other}
use Prim.Native.Nat.{ℕ, zero, suc, ◌+◌, ◌-◌, ◌≤◌, ◌<◌}
use Rattle.std.proofs.Math.Decide.{ℕ_discrete}
use Rattle.std.proofs.Math.Bool.{true, false}
use mathlib.Core.List.{List, [], ◌∷◌, ◌++◌}
use Rattle.std.proofs.Math.Dec.{eqb, leb}
use borrow.Author.Tests.{eq-eqb, eqb-true, le-leb}
use Rattle.model.specs.Bytes.{u16_at}
use Rattle.model.specs.Limits.{Limits, old_limits, in_force, min_settings, max_settings, max_states, plan_rounds, plan_holds}
use Rattle.model.specs.Lines.{plan_text}
use Rattle.model.specs.Problem.{Problem}
use Rattle.model.specs.Search.{first}
use Rattle.model.specs.Sections.{problem_of, section_end, states_at, rows_at, outcomes_at, file_end}
use Rattle.model.specs.Value.{by_state}
use Rattle.model.specs.Questions.{Verdict, passes, fails, ◌then◌, ask, section_questions, end_question}
use Rattle.model.specs.Questions.{layout_questions, layout_questions_within, file_questions, file_questions_within}
use Rattle.model.specs.Walk.{In, here, there, Trail, mark, join, visit_on, visit_outcomes, visit_state}
use Rattle.model.specs.Walk.{next, walk_with, least_to, least_cost_with}
use Rattle.model.specs.Rounds.{Machine, Ending, machine_start, round_with, run_from_with, goes_on_with, run_of_with}
use Rattle.model.specs.Solution.{Tables, solution_of_with, solve_questions, solution_on_with, solution, solution_within}
use Rattle.model.specs.Audit.{open_state, own_pick, pick_value, stray_state, slack_state, table_questions_with, problem_audit_with}
use Rattle.model.specs.Audit.{audit_on_with, audit, audit_within}
use Rattle.model.specs.Promises.{plan_tables, held_on, plan_solution}
use Rattle.model.specs.SetForm.{exchange, exchange_within, exchange_questions_within}
use Rattle.model.specs.Following.{opening, opening_within, report, report_within}
use Rattle.model.specs.Lookup.{rows_of, rows_within}
use Rattle.model.specs.declared.Follower.{Follower}
use Rattle.model.specs.declared.Kind.{Kind}
use Rattle.model.specs.declared.Kind.TheVariants.{Plain, Finishing}
use Rattle.guarantee.specs.Searches.{first_same, then_next}
use Rattle.guarantee.specs.WellFormed.{WellFormed, laid, well_formed}
use Rattle.guarantee.specs.Graphs.{VisitReady, ready_then, ready_mark, ready_deep, ready_clear, state_visited, clear_entry}
use Rattle.guarantee.specs.Walks.{next_state}
use Rattle.guarantee.specs.Solutions.{plan_lent}
use Rattle.guarantee.specs.Lent.{cut, lent_alike, text_alike}
use Rattle.guarantee.specs.Passing.{section_passes}

-- lists alike, and marks alike at the nodes below n
pub record TrailsAlike (n : ℕ) (w w' : Trail) : Type 0 where
  pub list : w.list ≡ w'.list
  pub marks : (s : ℕ) → s < n → get_or w.marks s 0 ≡ get_or w'.marks s 0

-- Visits of two depths on trails that are alike, each depth enough.
module _ (goal : ℕ → Bool) (next : ℕ → List ℕ) (n : ℕ) (along : (s t : ℕ) → s < n → In t (next s) → t < n) where
  abbrev Ready : ℕ → Trail → Type 0
  Ready = VisitReady goal next n (λ s. s < n)

  record Twins (d d' : ℕ) (w w' : Trail) : Type 0 where
    ready : Ready d w
    ready' : Ready d' w'
    alike : TrailsAlike n w w'

  outcomes_twin
      : {d d' : ℕ} {visit visit' : ℕ → Trail → Trail}
      → ((t : ℕ) (w w' : Trail) → t < n → get_or w.marks t 0 ≡ 0 → Twins d d' w w' → Twins d d' (visit t w) (visit' t w'))
      → (ts : List ℕ) (w w' : Trail) → ((t : ℕ) → In t ts → t < n) → Twins d d' w w'
      → Twins d d' (visit_outcomes visit ts w) (visit_outcomes visit' ts w')
  unfolding visit_outcomes
  outcomes_twin v [] w w' h a = a
  outcomes_twin {d} {d'} {visit} {visit'} v (t ∷ ts) w w' h a =
      rw (← a.alike.marks t (h t here))
      (outcomes_twin v ts _ _ (λ x i. h x (there i)) (outcome (eqb (get_or w.marks t 0) 0) refl))
    where
      outcome : (b : Bool) → eqb (get_or w.marks t 0) 0 ≡ b → Twins d d' (visit_on b visit t w) (visit_on b visit' t w')
      outcome true e = v t w w' (h t here) (eqb-true _ _ e) a
      outcome false e = a

  mark_alike
      : (s : ℕ) {w w' : Trail} → n ≤ length w.marks → n ≤ length w'.marks → TrailsAlike n w w'
      → TrailsAlike n (mark s w) (mark s w')
  mark_alike s {w} {w'} room room' a = record { list = a.list; marks = λ x l. at x l (ℕ_discrete x s) }
    where
      at : (x : ℕ) → x < n → Dec (x ≡ s) → get_or (set w.marks s 1) x 0 ≡ get_or (set w'.marks s 1) x 0
      at x l (yes e) = rw (e, get_or-set_same w.marks s 1 0 (omega arith), get_or-set_same w'.marks s 1 0 (omega arith))
      at x l (no ne) = rw (get_or-set_other w.marks s x 1 0 ne, get_or-set_other w'.marks s x 1 0 ne) (a.marks x l)

  join_alike : (b : Bool) (s : ℕ) {w w' : Trail} → TrailsAlike n w w' → TrailsAlike n (join b s w) (join b s w')
  join_alike true s a = a
  join_alike false s a = record { list = ap (λ l. l ++ (s ∷ [])) a.list; marks = a.marks }

  -- what a depth that is enough gives of a visit to an unmarked node
  module _ {d : ℕ} (s : ℕ) {w : Trail} (l : s < n) (clear : get_or w.marks s 0 ≡ 0) (r : Ready d w) where
    some_depth : 1 ≤ d
    some_depth = ready_deep goal next n (λ s. s < n) (λ s l. l) along s l clear r

    stays_ready : Ready d (visit_state goal next d s w)
    stays_ready =
        ready_then goal next n (λ s. s < n) d w _ r (state_visited goal next n (λ s. s < n) (λ s l. l) along d s w l clear r).0

  state_twin
      : (d d' s : ℕ) (w w' : Trail) → s < n → get_or w.marks s 0 ≡ 0 → Twins d d' w w'
      → Twins d d' (visit_state goal next d s w) (visit_state goal next d' s w')
  unfolding visit_state
  state_twin zero d' s w w' l clear a = absurd (omega (arith, some_depth s l clear a.ready))
  state_twin (suc d) zero s w w' l clear a = absurd (omega (arith, some_depth s l (sym (a.alike.marks s l) ∙ clear) a.ready'))
  state_twin (suc d) (suc d') s w w' l clear a =
      let clear' = sym (a.alike.marks s l) ∙ clear in
      let marked : Twins d d' (mark s w) (mark s w') = record {
        ready = ready_mark goal next n (λ s. s < n) (λ s l. l) along s l clear a.ready;
        ready' = ready_mark goal next n (λ s. s < n) (λ s l. l) along s l clear' a.ready';
        alike = mark_alike s a.ready.room a.ready'.room a.alike;
      } in
      let outs = outcomes_twin (state_twin d d') (next s) _ _ (λ t. along s t l) marked in
      record {
        ready = stays_ready s l clear a.ready;
        ready' = stays_ready s l clear' a.ready';
        alike = join_alike (goal s) s outs.alike;
      }

  visits_alike
      : (m m' s : ℕ) → n ≤ m → n ≤ m' → s < n
      → TrailsAlike n (visit_state goal next m s (record { marks = replicate m 0; list = [] }))
      (visit_state goal next m' s (record { marks = replicate m' 0; list = [] }))
  visits_alike m m' s h h' l =
      (state_twin m m' s _ _ l (clear_entry m s)
      record {
        ready = ready_clear goal next n (λ s. s < n) (λ s l. l) along m h;
        ready' = ready_clear goal next n (λ s. s < n) (λ s l. l) along m' h';
        alike = record { list = refl; marks = λ x l. clear_entry m x ∙ sym (clear_entry m' x) };
      }
      ).alike

-- a least cost looks at the marks of states alone
least_by_marks
    : (p : Problem) (picks : ℕ → ℕ) (marks marks' : List ℕ) (k : ℕ) → ((s : ℕ) → s < k → get_or marks s 0 ≡ get_or marks' s 0)
    → least_to p picks marks k ≡ least_to p picks marks' k
unfolding least_to
least_by_marks p picks marks marks' zero h = refl
least_by_marks p picks marks marks' (suc k) h =
    rw (h k (omega arith), least_by_marks p picks marks marks' k (λ s l. h s (omega arith)))

-- A problem under two numbers of marks.
module _ (p : Problem) (formed : WellFormed p) {m m' : ℕ} (h : p.states ≤ m) (h' : p.states ≤ m') where
  pub walks_alike : (picks : ℕ → ℕ) → TrailsAlike p.states (walk_with m p picks) (walk_with m' p picks)
  unfolding walk_with
  walks_alike picks =
      visits_alike p.goal (next p picks) p.states (next_state p formed picks) m m' p.start h h' formed.start_state

  pub leasts_alike : (picks : ℕ → ℕ) → least_cost_with m p picks ≡ least_cost_with m' p picks
  unfolding least_cost_with
  leasts_alike picks = least_by_marks p picks _ _ p.states (walks_alike picks).marks

  rounds_alike : (e : ℕ) (x : Machine) → round_with m p e x ≡ round_with m' p e x
  unfolding round_with
  rounds_alike e x = rw (walks_alike (by_state x.picks)).list

  runs_alike
      : (e budget : ℕ) (going : Bool) (n : ℕ) (x : Machine)
      → run_from_with m p e budget going n x ≡ run_from_with m' p e budget going n x
  unfolding run_from_with
  runs_alike e zero true n x = refl
  runs_alike e zero false n x = refl
  runs_alike e (suc budget) false n x = refl
  runs_alike e (suc budget) true n x =
      rw (rounds_alike e x) (runs_alike e budget (round_with m' p e x).moved (suc n) (round_with m' p e x))

  goes_on_alike : (kind : Kind) (budget : ℕ) (end : Ending) → goes_on_with m kind p budget end ≡ goes_on_with m' kind p budget end
  unfolding goes_on_with
  goes_on_alike Plain budget end = refl
  goes_on_alike Finishing budget (Ending.spent n x) = refl
  goes_on_alike Finishing budget (Ending.solved n x) = runs_alike 1 (budget - n) true n x

  solutions_of_alike : (lent : List ℕ) (end : Ending) → solution_of_with m p lent end ≡ solution_of_with m' p lent end
  unfolding solution_of_with
  solutions_of_alike lent (Ending.solved n x) = rw (leasts_alike (by_state x.picks))
  solutions_of_alike lent (Ending.spent n x) = refl

  whole_runs_alike
      : (kind : Kind) (budget : ℕ) (values picks remembered : List ℕ)
      → run_of_with m kind p budget values picks remembered ≡ run_of_with m' kind p budget values picks remembered
  whole_runs_alike kind budget values picks remembered =
      rw (runs_alike p.tolerance budget true 0 (machine_start p values picks remembered)) (goes_on_alike kind budget _)

  pub solutions_alike
      : (v : Verdict) (kind : Kind) (budget : ℕ) (t : Tables)
      → solution_on_with m v kind p budget t ≡ solution_on_with m' v kind p budget t
  unfolding solution_on_with
  solutions_alike passes kind budget t =
      ap (solution_of_with m p t.walk_list) (whole_runs_alike kind budget t.values t.picks t.remembered)
      ∙ solutions_of_alike t.walk_list (run_of_with m' kind p budget t.values t.picks t.remembered)
  solutions_alike (fails q i) kind budget t = refl

  -- a search among the open states
  open_alike
      : (picks : ℕ → ℕ) (ok : ℕ → Bool)
      → first (λ s. not (open_state p (walk_with m p picks).marks s) || ok s) 0 p.states
      ≡ first (λ s. not (open_state p (walk_with m' p picks).marks s) || ok s) 0 p.states
  open_alike picks ok = first_same _ _ 0 p.states (λ s low high. rw ((walks_alike picks).marks s (omega arith)))

  pub table_questions_alike : (v picks : ℕ → ℕ) → table_questions_with m p v picks ≡ table_questions_with m' p v picks
  unfolding table_questions_with stray_state slack_state
  table_questions_alike v picks =
      rw (
        open_alike picks (λ s. own_pick p s (picks s)),
        open_alike picks (λ s. leb (pick_value p v picks s) (v s + p.tolerance - 1)),
        leasts_alike picks,
      )

  pub audits_alike : (values picks : List ℕ) → problem_audit_with m p values picks ≡ problem_audit_with m' p values picks
  unfolding problem_audit_with
  audits_alike values picks = rw (table_questions_alike (by_state values) (by_state picks))

-- the three counts of a file lie within limits
pub record CountsWithin (L : Limits) (f : List ℕ) : Type 0 where
  pub states : (problem_of f).states ≤ L.states
  pub rows : (problem_of f).rows ≤ L.rows
  pub outcomes : u16_at f (outcomes_at f) ≤ L.outcomes

section_alike
    : (place i size low high high' : ℕ) (f : List ℕ) → u16_at f i ≤ high → u16_at f i ≤ high'
    → section_questions place i size low high f ≡ section_questions place i size low high' f
unfolding section_questions
section_alike place i size low high high' f l l' = rw (le-leb (u16_at f i) high l, le-leb (u16_at f i) high' l')

pub verdict_alike
    : (L L' : Limits) (f : List ℕ) → CountsWithin L f → CountsWithin L' f → file_questions_within L f ≡ file_questions_within L' f
unfolding file_questions_within layout_questions_within problem_of
verdict_alike L L' f w w' =
    rw (
      section_alike 1 (states_at f) 6 1 L.states L'.states f w.states w'.states,
      section_alike 2 (rows_at f) 4 0 L.rows L'.rows f w.rows w'.rows,
      section_alike 3 (outcomes_at f) 4 0 L.outcomes L'.outcomes f w.outcomes w'.outcomes,
    )

-- "every stored file within the old counts, and its plan, gives the same answer"
module _ (f : List ℕ) (within : CountsWithin old_limits f) where
  pub old_verdict : file_questions_within old_limits f ≡ file_questions f
  old_verdict =
      verdict_alike old_limits in_force f within
      record { states = omega arith; rows = omega arith; outcomes = omega arith }

  pub old_solution
      : (kind : Kind) (budget : ℕ) (t : Tables) → solution_within old_limits kind f budget t ≡ solution kind f budget t
  unfolding solution_within solution_on_with
  old_solution kind budget t = rw old_verdict (go (file_questions f) refl)
    where
      p : Problem
      p = problem_of f

      go : (v : Verdict) → file_questions f ≡ v
          → solution_on_with old_limits.states (v then solve_questions p budget t) kind p budget t
          ≡ solution_on_with in_force.states (v then solve_questions p budget t) kind p budget t
      go passes e =
          let formed = well_formed f e in
          solutions_alike p formed within.states formed.states_high (solve_questions p budget t) kind budget t
      go (fails q i) e = refl

  pub old_audit : (values picks : List ℕ) → audit_within old_limits f values picks ≡ audit f values picks
  unfolding audit_within
  old_audit values picks = rw old_verdict (go (file_questions f) refl)
    where
      go : (v : Verdict) → file_questions f ≡ v
          → audit_on_with old_limits.states v (problem_of f) values picks ≡ audit_on_with in_force.states v (problem_of f) values picks
      go passes e = audits_alike (problem_of f) (well_formed f e) within.states (well_formed f e).states_high values picks
      go (fails q i) e = refl

  pub old_exchange : (out : List ℕ) → exchange_within old_limits f out ≡ exchange f out
  unfolding exchange_within exchange_questions_within
  old_exchange out = rw old_verdict

  pub old_opening
      : (values picks : List ℕ) (w : Follower) → opening_within old_limits f values picks w ≡ opening f values picks w
  unfolding opening_within
  old_opening values picks w = rw (old_audit values picks)

  pub old_report
      : (values picks : List ℕ) (w : Follower) (o : ℕ) → report_within old_limits f values picks w o ≡ report f values picks w o
  unfolding report_within
  old_report values picks w o = rw (old_audit values picks)

  pub old_rows : (s : ℕ) → rows_within old_limits f s ≡ rows_of f s
  unfolding rows_within
  old_rows s = rw old_verdict

  -- what `plan` printed and left with tables of the old lengths: its text, and its tables at states and rows, are those of today
  module _ (kind : Kind) (values picks values' picks' : List ℕ) (v : old_limits.states ≤ length values)
      (p : old_limits.states ≤ length picks) (v' : max_states ≤ length values') (p' : max_states ≤ length picks')
      (short : length f ≤ plan_holds) where
    lent_old : solve_questions (problem_of f) plan_rounds (plan_tables old_limits values picks) ≡ passes
    lent_old = plan_lent old_limits (problem_of f) values picks within.states within.rows v p

    lent_new : solve_questions (problem_of f) plan_rounds (plan_tables in_force values' picks') ≡ passes
    lent_new = plan_lent in_force (problem_of f) values' picks' (omega (arith, within.states)) (omega (arith, within.rows)) v' p'

    held : plan_solution kind f values' picks' ≡ solution kind f plan_rounds (plan_tables in_force values' picks')
    unfolding held_on
    held = rw (le-leb (length f) plan_holds short) refl

    pub old_text
        : plan_text (problem_of f) (solution_within old_limits kind f plan_rounds (plan_tables old_limits values picks))
        ≡ plan_text (problem_of f) (plan_solution kind f values' picks')
    old_text =
        rw (old_solution kind plan_rounds (plan_tables old_limits values picks), held)
        (text_alike kind f plan_rounds _ _ (λ file. lent_old ∙ sym lent_new))

    pub old_tables
        : file_questions f ≡ passes
        → cut (problem_of f) (solution_within old_limits kind f plan_rounds (plan_tables old_limits values picks))
        ≡ cut (problem_of f) (plan_solution kind f values' picks')
    old_tables file =
        rw (old_solution kind plan_rounds (plan_tables old_limits values picks), held)
        (lent_alike kind f plan_rounds _ _ file lent_old lent_new)

-- "An older reader meets a larger file with question 2": of a file that passes now, limits L ask the three counts alone

then_passes : (v : Verdict) → (v then passes) ≡ v
then_passes passes = refl
then_passes (fails q i) = refl

section_asks
    : (place i size low high : ℕ) (f : List ℕ) → i + 2 ≤ length f → low ≤ u16_at f i → section_end size f i ≤ length f
    → section_questions place i size low high f ≡ ask 2 place (leb (u16_at f i) high)
unfolding section_questions
section_asks place i size low high f room l items =
    rw (le-leb (i + 2) (length f) room, le-leb low (u16_at f i) l, le-leb (section_end size f i) (length f) items)
    (then_passes (ask 2 place (leb (u16_at f i) high)))

module _ (L : Limits) (f : List ℕ) (h : file_questions f ≡ passes) where
  pub larger_met
      : file_questions_within L f
      ≡ (ask 2 1 (leb (problem_of f).states L.states)
      then ask 2 2 (leb (problem_of f).rows L.rows)
      then ask 2 3 (leb (u16_at f (outcomes_at f)) L.outcomes))
  unfolding file_questions_within layout_questions_within end_question problem_of
  larger_met =
      let s = (laid f h).sections in
      rw (
        section_passes 0 0 4 min_settings max_settings f (omega arith) (omega arith) (omega arith) (omega arith),
        section_asks 1 (states_at f) 6 1 L.states f (omega arith) (omega arith) (omega arith),
        section_asks 2 (rows_at f) 4 0 L.rows f (omega arith) (omega arith) (omega arith),
        section_asks 3 (outcomes_at f) 4 0 L.outcomes f (omega arith) (omega arith) (omega arith),
        eq-eqb (file_end f) (length f) s.file_end_lem,
        then_next (layout_questions f) _ h,
      )
      (simp then_passes)
