-- What a plan under audit is in the model's terms: its problem, its values and its picks.
use Rattle.std.specs.Prelude.{ℕ}
use Rattle.model.specs.Problem.{Problem}
use Rattle.model.specs.Sections.{problem_of}
use Rattle.model.specs.Value.{by_state}
use Rattle.auditing.specs.declared.plan.Plan.{Plan}

abbrev pub problem_in : Plan → Problem
problem_in plan = problem_of plan.problem.file.now

abbrev pub values_in : Plan → ℕ → ℕ
values_in plan = by_state plan.values.now

abbrev pub picks_in : Plan → ℕ → ℕ
picks_in plan = by_state plan.picks.now
