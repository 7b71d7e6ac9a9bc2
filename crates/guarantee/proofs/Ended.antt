-- The run ends: with a budget of (A + 1) × (n + 1) rounds it is solved, whatever the lent tables hold, and a finishing one with
-- (B + 1) × (n + 1) + 1.
use Rattle.std.specs.Prelude.{◌≡◌, true, List, length}
use Rattle.std.proofs.Math.Path.{refl}
use Prim.Native.Nat.{ℕ, ◌≤◌, ◌<◌}
use Rattle.std.proofs.Common.{arith}
use Rattle.model.specs.Problem.{Problem}
use Rattle.model.specs.Value.{by_state}
use Rattle.model.specs.Rounds.{Machine, solved, run_from, machine_start, goes_on_with, run_of}
use Rattle.model.specs.Promises.{round_bound, rounds_enough}
use Rattle.model.specs.declared.Kind.{Kind}
use Rattle.model.specs.declared.Kind.TheVariants.{Plain, Finishing}
use Rattle.model.specs.Sections.{problem_of}
use Rattle.model.specs.Questions.{passes, file_questions}
use Rattle.model.specs.Walk.{least_cost}
use Rattle.model.specs.Carried.{counts}
use Rattle.model.specs.Solution.{Tables, solution, solution_of_with, solve_questions}
use Rattle.guarantee.specs.WellFormed.{WellFormed, well_formed}
use Rattle.guarantee.specs.Solutions.{SolvedWithin, lent_long, solution_run}
use Rattle.guarantee.specs.Sound.{start_sound}
use Rattle.guarantee.specs.Potential.{potential}
use Rattle.guarantee.specs.Ending.{Solves, run_ends, within_more, start_potential, finish_ends}

-- ending, by the potential with any d of at least 1 that no tolerance lies below
module _ (p : Problem) (formed : WellFormed p) (values picks remembered : List ℕ)
    (long_values : p.states ≤ length values) (long_picks : p.states ≤ length picks) (long_remembered : p.rows ≤ length remembered) where
  abbrev start : Machine
  start = machine_start p values picks remembered

  start_ends
      : (d e budget : ℕ) → 1 ≤ d → d ≤ e → round_bound p d ≤ budget → Solves p d (round_bound p d) (run_from p e budget true 0 start)
  start_ends d e budget unit steps room =
      let less : potential p d start < round_bound p d = start_potential p d values picks remembered long_values in
      let sound = start_sound p formed values picks remembered long_values long_picks long_remembered in
      within_more (omega arith) (run_ends p formed d e unit steps budget 0 start sound (omega arith))

  -- "the rise allowance A" is that of the file's own tolerance, and B that of 1, which serves both parts
  pub solve_ends
      : (kind : Kind) (budget : ℕ) → rounds_enough kind p ≤ budget
      → (n : ℕ) × (m : Machine) × (run_of kind p budget values picks remembered ≡ solved n m) × (n ≤ rounds_enough kind p)
  unfolding goes_on_with
  solve_ends Plain budget room =
      let run = start_ends p.tolerance p.tolerance budget formed.tolerance_low (omega arith) room in
      (run.rounds, run.machine, run.ends, omega (arith, run.within))
  solve_ends Finishing budget room =
      let first = start_ends 1 p.tolerance budget (omega arith) formed.tolerance_low (omega arith) in
      let run = finish_ends p formed budget _ room first in
      (run.rounds, run.machine, run.ends, omega (arith, run.within))

-- With questions 1 to 13 answered yes.
module _ (f : List ℕ) (budget : ℕ) (t : Tables) (file : file_questions f ≡ passes)
    (lent : solve_questions (problem_of f) budget t ≡ passes) where
  -- "given at least (A + 1) × (n + 1) rounds ends solved", or as many as a finishing run has
  pub solution_ends
      : (kind : Kind) → rounds_enough kind (problem_of f) ≤ budget
      → SolvedWithin (rounds_enough kind (problem_of f)) (solution kind f budget t).answer
  unfolding solution_of_with
  solution_ends kind room =
      let p = problem_of f in
      let long = lent_long p budget t lent in
      let run = solve_ends p (well_formed f file) t.values t.picks t.remembered long.values_long long.picks_long
      long.remembered_long kind budget room in
      record {
        counts = counts run.0 run.1.evaluations (least_cost p (by_state run.1.picks));
        ends = rw (solution_run f budget t file lent kind, run.2) refl;
        within = run.3;
      }
