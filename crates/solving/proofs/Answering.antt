-- From the questions to the answer: what questions 1 to 13 give, how the tables begin, and that a run's end is the solution.
-- The run in the tables as they begin is the model's, since these are the machine as it starts.
use mathlib.Core.Path.{◌≡◌, refl, sym, ◌∙◌, ap, subst}
use Prim.Native.Nat.{ℕ, ◌+◌, ◌*◌, ◌≤◌, ◌<◌}
use native.Mathlib.Omega.{arith}
use mathlib.Core.Bool.{Bool, true, false, true≢false}
use mathlib.Core.List.{List, []}
use lib.IntN.{pos}
use lib.ListN.{get_or, length, take, replicate, length-replicate}
use Rattle.std.specs.Prelude.{Ok}
use Rattle.model.specs.Answers.{solve_carries}
use Rattle.model.specs.Carried.{Carried, refusal}
use Rattle.model.specs.Limits.{no_pick, value_bound}
use Rattle.model.specs.Problem.{Problem, own_row}
use Rattle.model.specs.Promises.{Leaves}
use Rattle.model.specs.Questions.{passes, fails, file_questions}
use Rattle.model.specs.Sections.{problem_of}
use Rattle.model.specs.Value.{row_value, by_state}
use Rattle.model.specs.Rounds.{Machine, run_from, goes_on, fill_to, machine_start, list_table}
use Rattle.model.specs.declared.Kind.{Kind}
use Rattle.model.specs.Solution.{Tables, tables, solution_of, solution_of_with, solve_questions, solution}
use Rattle.guarantee.specs.Values.{row_value-same_states}
use Rattle.guarantee.specs.Tables.{fill_entry}
use Rattle.guarantee.specs.Sound.{Sound, start_sound}
use Rattle.guarantee.proofs.RowsFit.{evaluation_fits}
use Rattle.guarantee.specs.Graphs.{clear_entry}
use Rattle.guarantee.specs.Rests.{rest_none}
use Rattle.guarantee.specs.Rows.{row_no_mark}
use Rattle.guarantee.specs.Solutions.{Lent, questions, lent_long, lent_sound, solution_run, solution_refused}
use Rattle.reading.specs.Entries.{code_on}
use Rattle.reading.specs.RowParts.{own_at_lem}
use Rattle.reading.specs.Tests.{own_at}
use Rattle.backing.specs.Backable.{machine, Kept}
use Rattle.model.specs.declared.Ended.{Ended}
use Rattle.model.specs.declared.Ended.TheVariants.{Solved, Spent}
use Rattle.solving.specs.declared.run.RunDone.{RunDone}
use Rattle.backing.specs.Scanned.{problem_in}
use Rattle.reading.specs.declared.problem.Problem as Given
use Rattle.solving.specs.Lent.{Long}
use Rattle.solving.specs.Runs.{machine_with, ended_as, counts_of, LeastOf, at_first, Runnable, Ran}
use Rattle.solving.specs.Solvable.{Solvable, Unentered}
use Rattle.solving.proofs.Filling.{fill_same}

-- the machine as it starts in lent tables
abbrev start : Problem → Tables → Machine
start p t = machine_start p t.values t.picks t.remembered

module _ (q : Given.Problem) where
  abbrev p : Problem
  p = problem_in q

  -- "At first V = H, no state has a pick, and each row remembers its value under H." in tables that are long enough
  module _ {values picks remembered : List ℕ} (long : Long p values picks remembered) where
    module _ {states : ℕ} {values' : List ℕ} (count : states ≡ p.states) (filled : values' ≡ fill_to p.estimate values states) where
      -- each row value fits
      pub start_fits : (r : ℕ) → r < p.rows → row_value p (by_state values') r < value_bound
      unfolding machine_start
      start_fits =
          let same = filled ∙ rw count refl in
          let sound = start_sound p q.formed values picks remembered long.values_long long.picks_long long.remembered_long in
          rw same (evaluation_fits p q.formed (machine_start p values picks remembered) sound)

      pub begun
          : {rows : ℕ} {picks' remembered' : List ℕ} → rows ≡ p.rows → picks' ≡ fill_to (λ s. no_pick) picks states
          → remembered' ≡ fill_to (row_value p (by_state values')) remembered rows
          → machine values' picks' remembered' [] 0 true ≡ machine_start p values picks remembered
      unfolding machine_start
      begun {remembered' = remembered'} rows cleared kept =
          let same : remembered' ≡ fill_to (row_value p p.estimate) remembered p.rows =
          kept ∙ rw rows (fill_same _ _ remembered p.rows under_estimates) in
          rw (same, filled, cleared, count) refl
        where
          -- each row remembers its value under H
          under_estimates : (r : ℕ) → r < p.rows → row_value p (by_state values') r ≡ row_value p p.estimate r
          under_estimates =
              row_value-same_states p q.formed (by_state values') p.estimate
              (λ s b. rw (filled, count) (fill_entry p.estimate values p.states s long.values_long b))

  module _ {budget : ℕ} {t : Tables} (h : Solvable q.file.now budget t) where
    pub room : Lent p budget t
    room = lent_long p budget t h.tables_pass

    sound : Sound p (start p t)
    sound = lent_sound q.file.now budget t h.file_passes h.tables_pass

    -- no state has a pick, so that entries of 0 fit
    none_picked : (s : ℕ) → s < p.states → get_or (start p t).picks s 0 ≡ no_pick
    unfolding machine_start
    none_picked s l = fill_entry (λ s. no_pick) t.picks p.states s room.picks_long l

    none_own : (s : ℕ) → s < p.states → own_at q.index.now s (get_or (start p t).picks s 0) ≡ false
    none_own s l =
        own_at_lem q.file.now q.index.now q.ready s l (get_or (start p t).picks s 0)
        ∙ go (own_row p s (get_or (start p t).picks s 0)) refl
      where
        go : (b : Bool) → own_row p s (get_or (start p t).picks s 0) ≡ b → b ≡ false
        go true own = absurd (omega (arith, none_picked s l, row_no_mark p q.formed s (get_or (start p t).picks s 0) l own))
        go false own = refl

    start_kept : {entries : List ℕ} → Unentered q.file.now entries
        → Kept q.file.now q.index.now (start p t).picks (start p t).remembered entries
    start_kept none =
        record {
          entered =
              record {
                long = none.long;
                codes = λ s l. none.clear (2 * s) ∙ sym (ap (λ b. code_on b q.index.now (get_or (start p t).picks s 0)) (none_own s l));
              };
          rests = λ s l. rw (none.clear (2 * s + 1)) (rest_none q.formed);
        }

    module _ {values' picks' remembered' list : List ℕ} (begins : machine values' picks' remembered' [] 0 true ≡ start p t) where
      pub start_runnable
          : {entries : List ℕ} → p.states ≤ length list → Unentered q.file.now entries
          → Runnable q (tables values' picks' remembered' list) entries at_first
      start_runnable {entries} list_long none =
          subst (λ (m : Machine). Runnable q (tables m.values m.picks m.remembered list) entries at_first) (sym begins)
          (record {
            sound = sound;
            kept = start_kept none;
            list_long = list_long;
            fresh = λ e. absurd (true≢false e);
          })

      -- the run's end, once the lent walk list has what the run listed
      module _ {kind : Kind} {e : ℕ} {t' : Tables} {d : RunDone} (tolerance : e ≡ p.tolerance)
          (ran : Ran kind p e budget (tables values' picks' remembered' list) t' d) where
        abbrev last : Ended → Machine
        last end = machine_with t' (take d.listed t'.walk_list) (counts_of end).evaluations ran.moved

        solution_is : solution kind q.file.now budget t ≡ solution_of p t.walk_list (ended_as d.ended (last d.ended))
        solution_is =
            solution_run q.file.now budget t h.file_passes h.tables_pass kind
            ∙ ap (λ m. solution_of p t.walk_list (goes_on kind p budget (run_from p p.tolerance budget true 0 m))) (sym begins)
            ∙ ap (λ x. solution_of p t.walk_list (goes_on kind p budget (run_from p x budget true 0 (machine values' picks' remembered' [] 0 true))))
            (sym tolerance)
            ∙ ap (solution_of p t.walk_list) ran.ends

        pub run_leaves
            : {carried : Carried} {list' : List ℕ} {states : ℕ} → states ≡ p.states
            → list' ≡ list_table states (take d.listed t'.walk_list) t.walk_list → carried ≡ solve_carries (Ok d.ended)
            → Leaves carried (tables t'.values t'.picks t'.remembered list') (solution kind q.file.now budget t)
        unfolding solution_of_with
        run_leaves {carried} {list'} count put carries = rw solution_is (go d.ended ran.least carries)
          where
            same_list : list' ≡ list_table p.states (take d.listed t'.walk_list) t.walk_list
            same_list = put ∙ rw count refl

            go : (end : Ended) → LeastOf p t'.picks end → carried ≡ solve_carries (Ok end)
                → Leaves carried (tables t'.values t'.picks t'.remembered list') (solution_of p t.walk_list (ended_as end (last end)))
            go (Solved counts) least c = record { answer = c ∙ rw (← least) refl; left = rw same_list refl }
            go (Spent counts) least c = record { answer = c ∙ rw least refl; left = rw same_list refl }

-- entries that were made so, two for each of n states
pub made_clear : {f : List ℕ} (n : ℕ) → (problem_of f).states ≤ n → Unentered f (replicate (2 * n) 0)
made_clear {f} n few = record { long = omega (arith, length-replicate {A = ℕ} (2 * n) 0); clear = clear_entry (2 * n) }

-- a no to questions 1 to 13: "no table has changed"
refusal_leaves
    : (kind : Kind) (f : List ℕ) (budget : ℕ) (t : Tables) (q i : ℕ) → questions f budget t ≡ fails q i
    → Leaves (refusal q i (pos 0)) t (solution kind f budget t)
refusal_leaves kind f budget t q i h = rw (solution_refused kind f budget t q i h) (record { answer = refl; left = refl })

module _ (kind : Kind) (f : List ℕ) (budget : ℕ) (t : Tables) {q i : ℕ} where
  pub file_refused : fails q i ≡ file_questions f → Leaves (refusal q i (pos 0)) t (solution kind f budget t)
  file_refused h = refusal_leaves kind f budget t q i (rw (← h) refl)

  pub tables_refused : passes ≡ file_questions f → fails q i ≡ solve_questions (problem_of f) budget t
      → Leaves (refusal q i (pos 0)) t (solution kind f budget t)
  tables_refused h k = refusal_leaves kind f budget t q i (rw (← h) (sym k))
