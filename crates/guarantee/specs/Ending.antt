-- The run ends: with a budget of (A + 1) × (n + 1) rounds it is solved, whatever the lent tables hold, and a finishing one with
-- (B + 1) × (n + 1) + 1. Each round that is not quiet lowers the potential, which starts at A × (n + 1) + n or less, and a quiet one does
-- not lift it, so that a second part goes on with what the first has left of it; induction on the budget.
use Rattle.std.specs.Prelude.{◌≡◌, Bool, true, false, List, length}
use Rattle.std.proofs.Math.Path.{refl}
use Prim.Native.Nat.{ℕ, zero, suc, ◌+◌, ◌-◌, ◌≤◌, ◌<◌}
use Rattle.std.proofs.Math.Nat.{mul-le-mul_right}
use Rattle.std.proofs.Common.{arith}
use Rattle.model.specs.Problem.{Problem}
use Rattle.model.specs.Value.{by_state}
use Rattle.model.specs.Cover.{allowance, open_to}
use Rattle.model.specs.Rounds.{Machine, round, Ending, solved, run_from, run_from_with, fill_to, machine_start, goes_on, goes_on_with}
use Rattle.model.specs.Promises.{round_bound}
use Rattle.model.specs.declared.Kind.TheVariants.{Finishing}
use Rattle.guarantee.specs.WellFormed.{WellFormed}
use Rattle.guarantee.specs.Tables.{fill_entry}
use Rattle.guarantee.specs.Sums.{sum_below}
use Rattle.guarantee.specs.Sound.{Sound}
use Rattle.guarantee.specs.Backups.{run_stops}
use Rattle.guarantee.specs.Potential.{left_at, left, potential, allowance_left, unsettled_high}
use Rattle.guarantee.specs.Potential.{PotentialWithin, round_lowers}

-- a run is solved, after at most `bound` rounds, those that the potential left would allow included; and its machine is sound
pub record Solves (p : Problem) (d bound : ℕ) (run : Ending) : Type 0 where
  pub rounds : ℕ
  pub machine : Machine
  pub ends : run ≡ solved rounds machine
  pub within : rounds + potential p d machine ≤ bound
  pub sound : Sound p machine

pub within_more : {p : Problem} {d a b : ℕ} {run : Ending} → a ≤ b → Solves p d a run → Solves p d b run
within_more l s =
    record { rounds = s.rounds; machine = s.machine; ends = s.ends; within = omega (arith, s.within); sound = s.sound }

module _ (p : Problem) (formed : WellFormed p) (d e : ℕ) (unit : 1 ≤ d) (steps : d ≤ e) where
  -- from any sound machine: one round more than its potential is enough
  pub run_ends
      : (budget n : ℕ) (m : Machine) → Sound p m → potential p d m < budget
      → Solves p d (n + potential p d m + 1) (run_from p e budget true n m)
  unfolding run_from_with
  run_ends zero n m sound room = absurd (omega arith)
  run_ends (suc budget) n m sound room =
      go (round p e m).moved refl (run_ends budget (suc n) (round p e m) after.sound)
    where
      after : PotentialWithin p d (potential p d m) (round p e m)
      after = round_lowers p formed d e unit steps m sound

      go
          : (b : Bool) → (round p e m).moved ≡ b
          → (potential p d (round p e m) < budget
          → Solves p d (suc n + potential p d (round p e m) + 1) (run_from p e budget true (suc n) (round p e m)))
          → Solves p d (n + potential p d m + 1) (run_from p e budget b (suc n) (round p e m))
      go true moved ih = let rest = ih (omega (arith, after.below moved)) in within_more (omega (arith, after.below moved)) rest
      go false still ih =
          record {
            rounds = suc n;
            machine = round p e m;
            ends = run_stops p e budget (suc n) (round p e m);
            within = omega (arith, after.at_most);
            sound = after.sound;
          }

left_at_same : (p : Problem) (d : ℕ) (v w : ℕ → ℕ) (s : ℕ) → v s ≡ w s → left_at p d v s ≤ left_at p d w s
unfolding left_at
left_at_same p d v w s same = rw same (omega arith)

module _ (p : Problem) (d : ℕ) (values picks remembered : List ℕ) (long : p.states ≤ length values) where
  start_left : left p d (by_state (fill_to p.estimate values p.states)) ≤ allowance p d
  unfolding left allowance
  start_left =
      rw (allowance_left p d p.states)
      (sum_below _ _ p.states
      (λ s l. left_at_same p d _ p.estimate s (fill_entry p.estimate values p.states s long l)))

  pub start_potential : potential p d (machine_start p values picks remembered) < round_bound p d
  unfolding potential machine_start round_bound
  start_potential =
      let m = machine_start p values picks remembered in
      omega (arith, mul-le-mul_right (open_to p p.states + 1) start_left, unsettled_high p (by_state m.values) (by_state m.picks))

module _ (p : Problem) (formed : WellFormed p) where
  -- the second part goes on where the first ended
  pub finish_ends
      : (budget : ℕ) (end : Ending) → round_bound p 1 + 1 ≤ budget → Solves p 1 (round_bound p 1) end
      → Solves p 1 (round_bound p 1 + 1) (goes_on Finishing p budget end)
  unfolding goes_on_with
  finish_ends budget end room s =
      let n = s.rounds in
      let m = s.machine in
      let more = run_ends p formed 1 1 (omega arith) (omega arith) (budget - n) n m s.sound (omega (arith, s.within)) in
      rw s.ends (within_more (omega (arith, s.within)) more)
