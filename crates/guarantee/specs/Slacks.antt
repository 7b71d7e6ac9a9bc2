-- Where K × V lies above a cover in K-ths, it is furthest above at a successor with a smaller U too: so it lies nowhere above.
use Rattle.std.specs.Prelude.{◌≡◌, ℕ, zero, suc, ◌+◌, ◌*◌, ◌≤◌, ◌<◌, Bool}
use Rattle.std.proofs.Math.Path.{refl}
use Rattle.std.proofs.Common.{mul-le-mul_left, arith}
use Rattle.std.proofs.Math.Decide.{dec_le}
use Rattle.std.proofs.Math.Bool.{true, false}
use Rattle.model.specs.Problem.{Problem, give_up_cost}
use Rattle.model.specs.Value.{row_ticks, row_value, weighted_sum}
use Rattle.model.specs.Cover.{Choice, picks_row, gives_up, picks_nothing, CoversAt, Cover}
use Rattle.guarantee.specs.Totals.{total_low}
use Rattle.guarantee.specs.WellFormed.{WellFormed}
use Rattle.guarantee.specs.Rows.{own_low, own_high}
use Rattle.guarantee.specs.Undercuts.{NoUndercut}
use Rattle.guarantee.specs.Values.{row_value-low}
use Rattle.guarantee.specs.Walks.{own_row_lem}
use Rattle.guarantee.specs.Arithmetic.{sum_full, some_small, row_full, row_small}

-- The lower half, of any table that is 0 at goals, at most 1000 × D and undercut by no row.
module _ (p : Problem) (formed : WellFormed p) (v : ℕ → ℕ) (zeros : (s : ℕ) → s < p.states → p.goal s ≡ true → v s ≡ 0)
    (high : (s : ℕ) → s < p.states → v s ≤ give_up_cost p) (under : NoUndercut p v) (K : ℕ) (some : 1 ≤ K) (plan : ℕ → Choice)
    (u : ℕ → ℕ) (set : ℕ → Type 0) (cover : Cover p K plan u set) where
  -- where the slack is M + 1 at most, it is M at most: a state where it is M + 1 has a successor where it is, with a smaller U
  never_full : (M : ℕ) → ((s : ℕ) → set s → K * v s ≤ u s + suc M) → (fuel s : ℕ) → u s < fuel → set s → u s + suc M ≤ K * v s → ⊥
  never_full M slack zero s l i full = omega arith
  never_full M slack (suc fuel) s l i full = at_goal (p.goal s) refl (never_full M slack fuel)
    where
      inner : s < p.states
      inner = cover.states s i

      at_choice : (c : Choice) → CoversAt p K u u set s c → ((t : ℕ) → u t < fuel → set t → u t + suc M ≤ K * v t → ⊥) → ⊥
      at_choice (picks_row r) covers down =
          let os = p.outcomes r in
          let row : r < p.rows = own_row_lem p formed s r inner covers.0 in
          let value : v s ≤ row_value p v r = under s r inner (own_low p s r covers.0) (own_high p s r covers.0) in
          let low : p.total * v s ≤ p.total * row_ticks p r + weighted_sum os v =
          omega (arith, row_value-low p r v, mul-le-mul_left p.total value) in
          let sums = row_full p.total K (suc M) (row_ticks p r) (v s) (u s) (weighted_sum os v) (weighted_sum os u) low covers.2 full in
          let below =
          row_small p.total K (suc M) (row_ticks p r) (v s) (u s) (weighted_sum os v) (weighted_sum os u)
          low covers.2 some (total_low formed)
          (omega (arith, formed.cost_low r row)) in
          let small = some_small os u (u s) (rw (formed.weights r row) below) in
          let t = small.outcome.successor in
          down t (omega (arith, small.small)) (covers.1 small.outcome small.one)
          (sum_full small.one v u K (suc M) (λ o j. slack o.successor (covers.1 o j)) (formed.weight_low r row)
          (rw (formed.weights r row) sums))
      at_choice gives_up covers down = omega (arith, mul-le-mul_left K (high s inner))
      at_choice picks_nothing covers down = covers

      at_goal : (b : Bool) → p.goal s ≡ b → ((t : ℕ) → u t < fuel → set t → u t + suc M ≤ K * v t → ⊥) → ⊥
      at_goal true e down = let z : K * v s ≡ 0 = rw (zeros s inner e) (omega arith) in omega arith
      at_goal false e down = at_choice (plan s) (cover.covers s i e) down

  pub slack_falls : (M : ℕ) → ((s : ℕ) → set s → K * v s ≤ u s + M) → (s : ℕ) → set s → K * v s ≤ u s
  slack_falls zero slack = λ s i. omega (arith, slack s i)
  slack_falls (suc M) slack = slack_falls M (λ s i. step s i (dec_le (K * v s) (u s + M)))
    where
      step : (s : ℕ) → set s → Dec (K * v s ≤ u s + M) → K * v s ≤ u s + M
      step s i (yes l) = l
      step s i (no l) = absurd (never_full M slack (suc (u s)) s (omega arith) i (omega arith))
