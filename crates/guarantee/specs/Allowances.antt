-- How large the rise allowance A, with any tolerance, and the number n of open states can get, by the limits of a file: so (A + 1) × (n + 1)
-- rounds, and one more, are never more than a budget may be. Each state adds at most the largest penalty in ticks to A and at most 1 to n.
use Prim.Native.Nat.{ℕ, zero, suc, ◌+◌, ◌-◌, ◌*◌, ◌/◌, ◌≤◌, ◌<◌}
use Rattle.std.proofs.Math.Nat.{div-le_self, mul-le-mul}
use native.Mathlib.Omega.{arith}
use Rattle.std.specs.Prelude.{Bool, true, false}
use Rattle.model.specs.Limits.{max_states, max_penalty, ticks_per_second, max_budget}
use Rattle.model.specs.Problem.{Problem, give_up_cost}
use Rattle.model.specs.Cover.{allowance_on, allowance_to, allowance, open_to}
use Rattle.model.specs.Promises.{round_bound}
use Rattle.guarantee.specs.WellFormed.{WellFormed}

allowance_on_lem : (b : Bool) (a limit : ℕ) → a ≤ limit → allowance_on b a ≤ limit
allowance_on_lem true a limit h = omega arith
allowance_on_lem false a limit h = h

module _ (p : Problem) where
  allowance_to_lem : (e k : ℕ) → allowance_to p e k ≤ k * give_up_cost p
  unfolding allowance_to
  allowance_to_lem e zero = omega arith
  allowance_to_lem e (suc k) =
      let room = give_up_cost p - p.estimate k in
      omega (arith, allowance_to_lem e k, allowance_on_lem (p.goal k) (room / e) (give_up_cost p) (omega (arith, div-le_self room e)))

  open_to_lem : (k : ℕ) → open_to p k ≤ k
  unfolding open_to
  open_to_lem zero = omega arith
  open_to_lem (suc k) = omega (arith, open_to_lem k, allowance_on_lem (p.goal k) 1 1 (omega arith))

module _ (p : Problem) (formed : WellFormed p) where
  pub allowance_high : (e : ℕ) → allowance p e ≤ max_states * (ticks_per_second * max_penalty)
  unfolding allowance
  allowance_high e =
      omega (
        arith,
        allowance_to_lem p e p.states,
        mul-le-mul {n₁ = p.states} {m₁ = p.penalty} formed.states_high formed.penalty_high,
      )

  pub open_high : open_to p p.states ≤ max_states
  open_high = omega (arith, open_to_lem p p.states, formed.states_high)

  -- "Is the budget at most 2,000,000,000,000,000? 13": with room for one round more
  pub bound_fits : (e : ℕ) → round_bound p e < max_budget
  unfolding round_bound
  bound_fits e =
      let a : allowance p e + 1 ≤ max_states * (ticks_per_second * max_penalty) + 1 = omega (arith, allowance_high e) in
      let n : open_to p p.states + 1 ≤ max_states + 1 = omega (arith, open_high) in
      omega (arith, mul-le-mul a n)
