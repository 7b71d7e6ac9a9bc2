-- What a solved finishing run leaves (E8) is exact: its last quiet round is one with tolerance 1, so that it is accepted under 1. A pick's
-- value is then at most V(s), and no value lies above its pick's. The audit under 1 is that of the file with 1 in its tolerance's bytes.
use Rattle.std.specs.Prelude.{◌≡◌, ℕ, ◌≤◌, ◌<◌, Bool, List, eqb}
use Rattle.std.proofs.Common.{arith, inl, inr, eq-eqb}
use Rattle.std.proofs.Math.Bool.{true, false}
use Rattle.model.specs.Limits.{give_up}
use Rattle.model.specs.Problem.{Problem}
use Rattle.model.specs.Sections.{problem_of}
use Rattle.model.specs.Value.{by_state}
use Rattle.model.specs.Walk.{Reached}
use Rattle.model.specs.Audit.{pick_value_on, pick_value}
use Rattle.model.specs.Solution.{Tables, solved, solution}
use Rattle.model.specs.Promises.{Exact}
use Rattle.model.specs.declared.Counts.{Counts}
use Rattle.model.specs.declared.Kind.TheVariants.{Finishing}
use Rattle.guarantee.specs.WellFormed.{WellFormed, well_formed}
use Rattle.guarantee.specs.Rows.{own_low, own_high}
use Rattle.guarantee.specs.Choosing.{OwnPick}
use Rattle.guarantee.specs.Walks.{reached_state, reached_marked}
use Rattle.guarantee.specs.Accepted.{AcceptsWithin, Marked}
use Rattle.guarantee.proofs.Closeness.{accepted_close}
use Rattle.guarantee.specs.Retuned.{retuned_passes, retuned_accepts}
use Rattle.guarantee.specs.Solutions.{solved_by, solved_ends}

module _ (p : Problem) (formed : WellFormed p) (v picks : ℕ → ℕ) (C : ℕ) (facts : AcceptsWithin p 1 v picks C) where
  -- no value lies above its pick's
  pick_above : (s : ℕ) → s < p.states → p.goal s ≡ false → OwnPick p s (picks s) → v s ≤ pick_value p v picks s
  unfolding pick_value
  pick_above s l other (inl gives) = rw (eq-eqb (picks s) give_up gives) (facts.value_high s l other)
  pick_above s l other (inr own) = step (eqb (picks s) give_up)
    where
      step : (b : Bool) → v s ≤ pick_value_on b p v (picks s)
      step true = facts.value_high s l other
      step false = facts.no_undercut s (picks s) l (own_low p s (picks s) own) (own_high p s (picks s) own)

  -- "the value at every walked state is exactly the pick's row value, or 1000 × D"
  pub accepted_exact : (s : ℕ) → Reached p picks s → p.goal s ≡ false → v s ≡ pick_value p v picks s
  accepted_exact s reached other =
      let l = reached_state p formed picks s reached in
      let marked : Marked p picks s = rw (reached_marked p formed picks s reached) in
      omega (arith, facts.pick_close s l other marked, pick_above s l other (facts.pick_fits s l other marked))

pub finished_exact
    : (f : List ℕ) (budget : ℕ) (t : Tables) (c : Counts) → (solution Finishing f budget t).answer ≡ solved c
    → Exact f (solution Finishing f budget t).tables.values (solution Finishing f budget t).tables.picks c.least
finished_exact f budget t c h =
    let by = solved_by Finishing f budget t c h in
    let p = problem_of f in
    let formed = well_formed f by.file in
    let final = solved_ends Finishing f budget t by in
    let v = by_state by.machine.values in
    let picks = by_state by.machine.picks in
    let facts : AcceptsWithin p 1 v picks c.least = rw by.least at final.accepts in
    rw by.left
    (record {
      exact = accepted_exact p formed v picks c.least facts;
      tick_passes = retuned_passes f 1 (omega arith) (omega arith) by.file;
      tick_accepted =
          retuned_accepts f 1 (omega arith) (omega arith) by.file by.machine.values by.machine.picks c.least
          final.sound.values_length final.sound.picks_length facts;
      close = accepted_close p formed v picks c.least 1 (omega arith) (omega arith) facts;
    })
