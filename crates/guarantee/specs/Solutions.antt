-- Solving a file, told by its answer and the tables that are left: refusals leave the tables as lent, solved is accepted.
-- With questions 1 to 13 answered yes the machine is sound from the start, and what is handed back is that of its run.
use Rattle.std.specs.Prelude.{◌≡◌, ℕ, ◌*◌, ◌≤◌, ◌<◌, true, false, List, leb, length}
use Rattle.std.proofs.Math.Path.{refl, sym, ap}
use Rattle.std.proofs.Common.{◌∙◌, le_trans, arith, true≢false, leb-true, le-leb}
use Rattle.std.proofs.lemmas.List.{length-replicate}
use Rattle.model.specs.Limits.{Limits, max_rows, max_budget, plan_rounds, value_bound, give_up, list_end}
use Rattle.model.specs.Problem.{Problem, give_up_cost, own_row}
use Rattle.model.specs.Value.{row_value, by_state}
use Rattle.model.specs.Sections.{problem_of}
use Rattle.model.specs.Questions.{Verdict, passes, fails, ◌then◌, ask}
use Rattle.model.specs.Questions.{file_questions}
use Rattle.model.specs.Walk.{Reached, least_cost}
use Rattle.model.specs.Rounds.{Machine, Ending, machine_start, goes_on, goes_on_with, run_of}
use Rattle.model.specs.Carried.{counts}
use Rattle.model.specs.declared.Counts.{Counts}
use Rattle.model.specs.declared.Kind.{Kind}
use Rattle.model.specs.declared.Kind.TheVariants.{Plain, Finishing}
use Rattle.model.specs.Solution.{Tables, Answer, solved, spent, refused, tables_of, solution_of, solution_of_with}
use Rattle.model.specs.Solution.{solve_questions, solution_on_with, solution, solution_within}
use Rattle.model.specs.Answers.{answer_carries}
use Rattle.model.specs.Audit.{accepted, audit}
use Rattle.model.specs.Promises.{plan_tables}
use Rattle.guarantee.specs.Searches.{then_first, then_next, ask_yes}
use Rattle.guarantee.specs.WellFormed.{well_formed}
use Rattle.guarantee.specs.Sound.{Sound, start_sound}
use Rattle.guarantee.specs.Backups.{rounds_of, machine_of, whole_run_keeps, whole_run_rounds, whole_run_spent}
use Rattle.guarantee.specs.Evaluations.{round_count}
use Rattle.guarantee.specs.Solved.{Final, last_tolerance, last_narrow, run_final, final_passes_audit, final_gives_up}

-- what questions 12 and 13 give
pub record Lent (p : Problem) (budget : ℕ) (t : Tables) : Type 0 where
  pub values_long : p.states ≤ length t.values
  pub picks_long : p.states ≤ length t.picks
  pub remembered_long : p.rows ≤ length t.remembered
  pub list_long : p.states ≤ length t.walk_list
  pub budget_high : budget ≤ max_budget

-- an answer is solved, after at most `bound` rounds
pub record SolvedWithin (bound : ℕ) (a : Answer) : Type 0 where
  pub counts : Counts
  pub ends : a ≡ solved counts
  pub within : counts.rounds ≤ bound

-- the run of a file with a budget from lent tables, of either kind
abbrev pub run_with : Kind → List ℕ → ℕ → Tables → Ending
run_with kind f budget t = run_of kind (problem_of f) budget t.values t.picks t.remembered

-- questions 1 to 13
abbrev pub questions : List ℕ → ℕ → Tables → Verdict
questions f budget t = file_questions f then solve_questions (problem_of f) budget t

-- what an answer "solved" comes from
pub record SolvedBy (kind : Kind) (f : List ℕ) (budget : ℕ) (t : Tables) (c : Counts) : Type 0 where
  pub file : file_questions f ≡ passes
  pub lent : solve_questions (problem_of f) budget t ≡ passes
  pub machine : Machine
  pub run : run_with kind f budget t ≡ Ending.solved c.rounds machine
  pub evaluations : machine.evaluations ≡ c.evaluations
  pub least : least_cost (problem_of f) (by_state machine.picks) ≡ c.least
  pub left : (solution kind f budget t).tables ≡ tables_of (problem_of f) t.walk_list machine

-- what a refusal comes from
pub record RefusedBy (kind : Kind) (f : List ℕ) (budget : ℕ) (t : Tables) (q i : ℕ) : Type 0 where
  pub failed : questions f budget t ≡ fails q i
  pub left : (solution kind f budget t).tables ≡ t

-- the two ways of solving a file: a question fails, or the rounds are run
pub data Told (kind : Kind) (f : List ℕ) (budget : ℕ) (t : Tables) : Type 0 where
  TurnedDown
      : (q i : ℕ) → questions f budget t ≡ fails q i → solution kind f budget t ≡ record { answer = refused q i; tables = t }
      → Told kind f budget t
  ran
      : file_questions f ≡ passes → solve_questions (problem_of f) budget t ≡ passes
      → solution kind f budget t ≡ solution_of (problem_of f) t.walk_list (run_with kind f budget t) → Told kind f budget t

pub lent_long : (p : Problem) (budget : ℕ) (t : Tables) → solve_questions p budget t ≡ passes → Lent p budget t
unfolding solve_questions
lent_long p budget t h =
    let q₀ = ask 12 0 (leb p.states (length t.values)) in
    let q₁ = ask 12 1 (leb p.states (length t.picks)) in
    let q₂ = ask 12 2 (leb p.rows (length t.remembered)) in
    let q₃ = ask 12 3 (leb p.states (length t.walk_list)) in
    let q₄ = ask 13 0 (leb budget max_budget) in
    let h₁ = then_next q₀ (q₁ then q₂ then q₃ then q₄) h in
    let h₂ = then_next q₁ (q₂ then q₃ then q₄) h₁ in
    let h₃ = then_next q₂ (q₃ then q₄) h₂ in
    record {
      values_long = leb-true _ _ (ask_yes 12 0 _ (then_first q₀ (q₁ then q₂ then q₃ then q₄) h));
      picks_long = leb-true _ _ (ask_yes 12 1 _ (then_first q₁ (q₂ then q₃ then q₄) h₁));
      remembered_long = leb-true _ _ (ask_yes 12 2 _ (then_first q₂ (q₃ then q₄) h₂));
      list_long = leb-true _ _ (ask_yes 12 3 _ (then_first q₃ q₄ h₃));
      budget_high = leb-true _ _ (ask_yes 13 0 _ (then_next q₃ q₄ h₃));
    }

-- and nothing else is asked
pub lent_passes : (p : Problem) (budget : ℕ) (t : Tables) → Lent p budget t → solve_questions p budget t ≡ passes
unfolding solve_questions
lent_passes p budget t h =
    rw (
      le-leb _ _ h.values_long,
      le-leb _ _ h.picks_long,
      le-leb _ _ h.remembered_long,
      le-leb _ _ h.list_long,
      le-leb _ _ h.budget_high,
    )
    refl

-- the tables that `plan` lends have room for every problem within the limits that they are made for, and so many rounds may be asked for
pub plan_lent
    : (L : Limits) (p : Problem) (values picks : List ℕ) → p.states ≤ L.states → p.rows ≤ L.rows → L.states ≤ length values
    → L.states ≤ length picks → solve_questions p plan_rounds (plan_tables L values picks) ≡ passes
plan_lent L p values picks states rows v k =
    lent_passes p plan_rounds _
    record {
      values_long = le_trans states v;
      picks_long = le_trans states k;
      remembered_long = omega (arith, length-replicate {A = ℕ} L.rows 0);
      list_long = omega (arith, length-replicate {A = ℕ} L.states list_end);
      budget_high = omega arith;
    }

-- With questions 1 to 13 answered yes.
module _ (f : List ℕ) (budget : ℕ) (t : Tables) (file : file_questions f ≡ passes)
    (lent : solve_questions (problem_of f) budget t ≡ passes) where
  pub lent_sound : Sound (problem_of f) (machine_start (problem_of f) t.values t.picks t.remembered)
  lent_sound =
      let long = lent_long (problem_of f) budget t lent in
      start_sound (problem_of f) (well_formed f file) t.values t.picks t.remembered long.values_long long.picks_long
      long.remembered_long

  -- the solution is that of the run
  pub solution_run : (kind : Kind) → solution kind f budget t ≡ solution_of (problem_of f) t.walk_list (run_with kind f budget t)
  unfolding solution_within solution_on_with
  solution_run kind = rw (file, lent) refl

-- "A no ends the call with the number and a place; no table has changed"
pub solution_refused
    : (kind : Kind) (f : List ℕ) (budget : ℕ) (t : Tables) (q i : ℕ) → questions f budget t ≡ fails q i
    → solution kind f budget t ≡ record { answer = refused q i; tables = t }
unfolding solution_within solution_on_with
solution_refused kind f budget t q i failed = rw failed refl

module _ (kind : Kind) (f : List ℕ) (budget : ℕ) (t : Tables) where
  pub told : Told kind f budget t
  told = go (questions f budget t) refl
    where
      go : (v : Verdict) → questions f budget t ≡ v → Told kind f budget t
      go passes e =
          let file = then_first (file_questions f) _ e in
          let lent = then_next (file_questions f) _ e in
          ran file lent (solution_run f budget t file lent kind)
      go (fails q i) e = TurnedDown q i e (solution_refused kind f budget t q i e)

  -- a refusal is that of the first of questions 1 to 13 that fails, and leaves every table as lent
  pub refused_by : (q i : ℕ) → (solution kind f budget t).answer ≡ refused q i → RefusedBy kind f budget t q i
  unfolding solution_of_with
  refused_by q i h = go told
    where
      on : (run : Ending) → run_with kind f budget t ≡ run → (solution_of (problem_of f) t.walk_list run).answer ≡ refused q i
          → RefusedBy kind f budget t q i
      on (Ending.solved n m) e h = absurd (true≢false (cc))
      on (Ending.spent n m) e h = absurd (true≢false (cc))

      go : Told kind f budget t → RefusedBy kind f budget t q i
      go (TurnedDown q' i' e is) =
          let same : refused q' i' ≡ refused q i = sym (ap (λ x. x.answer) is) ∙ h in
          record { failed = e ∙ cc; left = ap (λ x. x.tables) is }
      go (ran file lent is) = on (run_with kind f budget t) refl (rw is at h)

  -- an answer "solved" comes from a run that ends solved
  pub solved_by : (c : Counts) → (solution kind f budget t).answer ≡ solved c → SolvedBy kind f budget t c
  unfolding solution_of_with
  solved_by c h = go told
    where
      on : file_questions f ≡ passes → solve_questions (problem_of f) budget t ≡ passes → (run : Ending) → run_with kind f budget t ≡ run
          → solution kind f budget t ≡ solution_of (problem_of f) t.walk_list run → SolvedBy kind f budget t c
      on file lent (Ending.solved k m) run is =
          let these = counts k m.evaluations (least_cost (problem_of f) (by_state m.picks)) in
          let said : solved these ≡ solved c = sym (ap (λ x. x.answer) is) ∙ h in
          let same : these ≡ c = cc in
          record {
            file = file;
            lent = lent;
            machine = m;
            run = run ∙ ap (λ (d : Counts). Ending.solved d.rounds m) same;
            evaluations = ap (λ (d : Counts). d.evaluations) same;
            least = ap (λ (d : Counts). d.least) same;
            left = ap (λ x. x.tables) is;
          }
      on file lent (Ending.spent k m) run is =
          let never : spent (counts k m.evaluations 0) ≡ solved c = sym (ap (λ x. x.answer) is) ∙ h in
          absurd (true≢false (cc))

      go : Told kind f budget t → SolvedBy kind f budget t c
      go (TurnedDown q i failed is) =
          let never : refused q i ≡ solved c = sym (ap (λ x. x.answer) is) ∙ h in
          absurd (true≢false (cc))
      go (ran file lent is) = on file lent (run_with kind f budget t) refl is

  -- an answer "spent" comes from a run that has done every round of its budget
  pub spent_budget : (c : Counts) → (solution kind f budget t).answer ≡ spent c → c.rounds ≡ budget
  unfolding solution_of_with
  spent_budget c h = go told
    where
      on : (run : Ending) → run_with kind f budget t ≡ run → (solution_of (problem_of f) t.walk_list run).answer ≡ spent c
          → c.rounds ≡ budget
      on (Ending.solved k m) run h = absurd (true≢false (cc))
      on (Ending.spent k m) run h =
          let these : counts k m.evaluations 0 ≡ c = cc in
          let same : k ≡ c.rounds = ap (λ (d : Counts). d.rounds) these in
          sym same ∙ whole_run_spent kind (problem_of f) budget t.values t.picks t.remembered k m run

      go : Told kind f budget t → c.rounds ≡ budget
      go (TurnedDown q i failed is) =
          let never : refused q i ≡ spent c = sym (ap (λ x. x.answer) is) ∙ h in
          absurd (true≢false (cc))
      go (ran file lent is) = on (run_with kind f budget t) refl (rw is at h)

  -- a round counts at most the file's rows, so evaluations fit in 64 bits
  pub evaluations_few : (answer_carries (solution kind f budget t).answer).counts.evaluations < value_bound * value_bound
  unfolding solution_of_with machine_start
  evaluations_few = go told
    where
      p : Problem
      p = problem_of f

      Few : ℕ → Machine → Type 0
      Few n m = m.evaluations ≤ max_rows * n

      on : (run : Ending) → Few (rounds_of run) (machine_of run) → rounds_of run ≤ max_budget
          → (answer_carries (solution_of p t.walk_list run).answer).counts.evaluations < value_bound * value_bound
      on (Ending.solved n m) few h = omega arith
      on (Ending.spent n m) few h = omega arith

      go : Told kind f budget t → (answer_carries (solution kind f budget t).answer).counts.evaluations < value_bound * value_bound
      go (TurnedDown q i failed is) = rw is (omega arith)
      go (ran file lent is) =
          let formed = well_formed f file in
          let few =
          whole_run_keeps p Few (λ e n m h. omega (arith, h, (round_count p e formed m).no_more, formed.rows_high)) kind budget
          t.values t.picks t.remembered (omega arith) in
          rw is
          (on (run_with kind f budget t) few
          (le_trans (whole_run_rounds kind p budget t.values t.picks t.remembered)
          (lent_long p budget t lent).budget_high))

  -- and its machine is final
  pub solved_ends : {c : Counts} (by : SolvedBy kind f budget t c) → Final (problem_of f) (last_tolerance kind (problem_of f)) by.machine
  solved_ends {c} by =
      run_final kind (problem_of f) (well_formed f by.file) budget t.values t.picks t.remembered c.rounds by.machine
      (lent_sound f budget t by.file by.lent) by.run

  -- whatever the budget: the audit accepts what a solved run left, and gives the run's C
  pub answer_accepted
      : (c : Counts) → (solution kind f budget t).answer ≡ solved c
      → audit f (solution kind f budget t).tables.values (solution kind f budget t).tables.picks ≡ accepted c.least
  answer_accepted c h =
      let by = solved_by c h in
      let narrow = last_narrow kind (problem_of f) (well_formed f by.file) in
      rw by.left (final_passes_audit f by.file by.machine narrow (solved_ends by) ∙ ap accepted by.least)

  -- E1: and where its plan gives up no row costs as little
  pub answer_gives_up
      : (c : Counts) → (solution kind f budget t).answer ≡ solved c
      → (s : ℕ) → Reached (problem_of f) (by_state (solution kind f budget t).tables.picks) s → (problem_of f).goal s ≡ false
      → by_state (solution kind f budget t).tables.picks s ≡ give_up → (r : ℕ) → own_row (problem_of f) s r ≡ true
      → give_up_cost (problem_of f) < row_value (problem_of f) (by_state (solution kind f budget t).tables.values) r
  answer_gives_up c h =
      let by = solved_by c h in
      rw by.left (final_gives_up (problem_of f) (well_formed f by.file) _ by.machine (solved_ends by))

-- E8: where the plain run is spent the finishing run is the same, since it goes on only after a quiet round
pub spent_the_same
    : (f : List ℕ) (budget : ℕ) (t : Tables) (c : Counts) → (solution Plain f budget t).answer ≡ spent c
    → solution Finishing f budget t ≡ solution Plain f budget t
unfolding solution_of_with goes_on_with
spent_the_same f budget t c h = go (told Plain f budget t)
  where
    on : (run : Ending) → (solution_of (problem_of f) t.walk_list run).answer ≡ spent c
        → solution_of (problem_of f) t.walk_list (goes_on Finishing (problem_of f) budget run)
        ≡ solution_of (problem_of f) t.walk_list run
    on (Ending.solved k m) h = absurd (true≢false (cc))
    on (Ending.spent k m) h = refl

    go : Told Plain f budget t → solution Finishing f budget t ≡ solution Plain f budget t
    go (TurnedDown q i failed is) = solution_refused Finishing f budget t q i failed ∙ sym is
    go (ran file lent is) =
        solution_run f budget t file lent Finishing ∙ on (run_with Plain f budget t) (ap (λ x. x.answer) (sym is) ∙ h) ∙ sym is
