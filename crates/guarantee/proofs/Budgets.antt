-- The rounds that are enough for a run of either kind are never more than a budget may be.
use Prim.Native.Nat.{◌≤◌}
use native.Mathlib.Omega.{arith}
use Rattle.model.specs.Limits.{max_budget}
use Rattle.model.specs.Problem.{Problem}
use Rattle.model.specs.Promises.{rounds_enough}
use Rattle.model.specs.declared.Kind.{Kind}
use Rattle.model.specs.declared.Kind.TheVariants.{Plain, Finishing}
use Rattle.guarantee.specs.WellFormed.{WellFormed}
use Rattle.guarantee.specs.Allowances.{bound_fits}

module _ (p : Problem) (formed : WellFormed p) where
  pub rounds_enough_fit : (kind : Kind) → rounds_enough kind p ≤ max_budget
  rounds_enough_fit Plain = omega (arith, bound_fits p formed p.tolerance)
  rounds_enough_fit Finishing = omega (arith, bound_fits p formed 1)
