-- An accepted table is close: K × V is at most every cover in K-ths, and C × V covers the accepted plan in (C - e)-ths.
-- Where K × V is furthest above U, it is so at a successor with a smaller U; a pick's value is within e of V, and its cost C at least.
use Rattle.std.specs.Prelude.{◌≡◌, ℕ, ◌+◌, ◌-◌, ◌*◌, ◌≤◌, ◌<◌, Bool, List, map, ◌⊎◌, eqb}
use Rattle.std.proofs.Math.Path.{refl}
use Rattle.std.proofs.Common.{sym, ◌∙◌, mul-le-mul_left, arith, true≢false, inl, inr, eq-eqb}
use Rattle.std.proofs.Math.Bool.{true, false}
use Rattle.model.specs.Limits.{max_tolerance, ticks_per_second, give_up}
use Rattle.model.specs.Problem.{Problem, Outcome, give_up_cost, own_row}
use Rattle.model.specs.Value.{row_ticks, row_value, weighted_sum, by_state}
use Rattle.model.specs.Sections.{problem_of}
use Rattle.model.specs.Walk.{In, here, there, next, Reached, at_start_lem, along, pick_cost_on, pick_cost}
use Rattle.model.specs.Audit.{accepted, pick_value_on, pick_value, audit}
use Rattle.model.specs.Cover.{Choice, picks_row, CoversAt, Cover, choice_on, plan_of}
use Rattle.model.specs.Promises.{Close}
use Rattle.guarantee.specs.Totals.{total_low}
use Rattle.guarantee.specs.WellFormed.{WellFormed}
use Rattle.guarantee.specs.Undercuts.{NoUndercut}
use Rattle.guarantee.specs.Values.{row_value-high}
use Rattle.guarantee.specs.Walks.{own_row_lem, reached_state, reached_marked, least_low, least_cheapest}
use Rattle.guarantee.specs.Accepted.{Marked, AcceptsWithin, accepted_high, audit_formed, audit_accepts}
use Rattle.guarantee.specs.Arithmetic.{weighted_sum-scale, row_close, give_close}
use Rattle.guarantee.specs.Slacks.{slack_falls}

-- The lower half, of any table that is 0 at goals, at most 1000 × D and undercut by no row.
module _ (p : Problem) (formed : WellFormed p) (v : ℕ → ℕ) (zeros : (s : ℕ) → s < p.states → p.goal s ≡ true → v s ≡ 0)
    (high : (s : ℕ) → s < p.states → v s ≤ give_up_cost p) (under : NoUndercut p v) (K : ℕ) (some : 1 ≤ K) (plan : ℕ → Choice)
    (u : ℕ → ℕ) (set : ℕ → Type 0) (cover : Cover p K plan u set) where
  pub cover_high : (s : ℕ) → set s → K * v s ≤ u s
  cover_high =
      slack_falls p formed v zeros high under K some plan u set cover (K * give_up_cost p)
      (λ s i. omega (arith, mul-le-mul_left K (high s (cover.states s i))))

-- The upper half, of an accepted table and its picks.

in_mapped : {os : List Outcome} {o : Outcome} → In o os → In o.successor (map (λ (o : Outcome). o.successor) os)
in_mapped here = here
in_mapped (there i) = there (in_mapped i)

module _ (p : Problem) (formed : WellFormed p) (v picks : ℕ → ℕ) (C e : ℕ) (some : 1 ≤ e) (few : e ≤ max_tolerance)
    (facts : AcceptsWithin p e v picks C) where
  marked : (s : ℕ) → Reached p picks s → Marked p picks s
  marked s reached = rw (reached_marked p formed picks s reached)

  -- a pick that fits costs a second at least
  pick_cost_low
      : (s : ℕ) → s < p.states → (picks s ≡ give_up) ⊎ (own_row p s (picks s) ≡ true) → ticks_per_second ≤ pick_cost p picks s
  unfolding pick_cost
  pick_cost_low s inner (inl e) = rw (eq-eqb (picks s) give_up e) (omega (arith, formed.penalty_low))
  pick_cost_low s inner (inr own) = step (eqb (picks s) give_up)
    where
      step : (b : Bool) → ticks_per_second ≤ pick_cost_on b p (picks s)
      step true = omega (arith, formed.penalty_low)
      step false = omega (arith, formed.cost_low (picks s) (own_row_lem p formed s (picks s) inner own))

  least_a_second : ticks_per_second ≤ C
  least_a_second =
      let one = least_cheapest p formed picks in
      let inner = reached_state p formed picks one.state one.reached in
      let fits = facts.pick_fits one.state inner one.state_open (marked one.state one.reached) in
      omega (arith, pick_cost_low one.state inner fits, facts.least, one.cost)

  above_tolerance : 1 ≤ C - e
  above_tolerance = omega (arith, least_a_second)

  tolerance_back : C - e + e ≡ C
  tolerance_back = omega (arith, above_tolerance)

  -- the cover's demand at a reached state that is no goal
  module _ (s : ℕ) (reached : Reached p picks s) (other : p.goal s ≡ false) where
    inner : s < p.states
    inner = reached_state p formed picks s reached

    -- under its picked row every successor is reached
    leads : (own : own_row p s (picks s) ≡ true) (o : Outcome) → In o (p.outcomes (picks s)) → Reached p picks o.successor
    unfolding next
    leads own o i = along {t = o.successor} reached (rw (other, own) (in_mapped i))

    row_covers : own_row p s (picks s) ≡ true → row_value p v (picks s) ≤ v s + e - 1 → C ≤ row_ticks p (picks s)
        → CoversAt p (C - e) (λ t. C * v t) (λ t. C * v t) (Reached p picks) s (picks_row (picks s))
    row_covers own near cheap =
        let r = picks s in
        let sum = weighted_sum (p.outcomes r) v in
        let bound =
        row_close p.total (C - e) e (row_ticks p r) (v s) (row_value p v r) sum (row_value-high p r (total_low formed) v)
        (omega arith) (omega (arith, tolerance_back)) in
        (own, leads own, rw (weighted_sum-scale (p.outcomes r) v C) (rw tolerance_back at bound))

    give_covers : give_up_cost p ≤ v s + e - 1 → C ≤ give_up_cost p → (C - e) * give_up_cost p ≤ C * v s
    give_covers near cheap =
        rw tolerance_back at
        (give_close (C - e) e (give_up_cost p) (v s) (omega arith) (omega (arith, tolerance_back)))

    choice_covers
        : (b own : Bool) → eqb (picks s) give_up ≡ b → own_row p s (picks s) ≡ own → pick_value_on b p v (picks s) ≤ v s + e - 1
        → C ≤ pick_cost_on b p (picks s) → (picks s ≡ give_up) ⊎ (own_row p s (picks s) ≡ true)
        → CoversAt p (C - e) (λ t. C * v t) (λ t. C * v t) (Reached p picks) s (choice_on b own (picks s))
    choice_covers true own q o near cheap fits = give_covers near cheap
    choice_covers false true q o near cheap fits = row_covers o near cheap
    choice_covers false false q o near cheap (inl give) = true≢false (sym (eq-eqb (picks s) give_up give) ∙ q)
    choice_covers false false q o near cheap (inr own) = true≢false (sym own ∙ o)

    state_covers : CoversAt p (C - e) (λ t. C * v t) (λ t. C * v t) (Reached p picks) s (plan_of p picks s)
    unfolding plan_of pick_value pick_cost
    state_covers =
        choice_covers (eqb (picks s) give_up) (own_row p s (picks s)) refl refl (facts.pick_close s inner other (marked s reached))
        (rw facts.least (least_low p formed picks s reached other)) (facts.pick_fits s inner other (marked s reached))

  accepted_cover : Cover p (C - e) (plan_of p picks) (λ s. C * v s) (Reached p picks)
  accepted_cover = record { states = reached_state p formed picks; start = at_start_lem; covers = state_covers }

  -- Demand 3 of tables that questions 16 to 19 accept under e
  accepted_lower : (K : ℕ) → 1 ≤ K → (plan : ℕ → Choice) (u : ℕ → ℕ) (set : ℕ → Type 0) → Cover p K plan u set
      → K * v p.start ≤ u p.start
  accepted_lower K unit plan u set cover =
      cover_high p formed v facts.goal_zero (accepted_high p v picks C facts) facts.no_undercut K unit plan u set cover p.start
      cover.start

  pub accepted_close : Close p e v picks C
  accepted_close =
      record {
        lower = λ K unit plan u inside. accepted_lower K unit plan u (λ s. inside s ≡ true);
        upper = accepted_cover;
        positive = above_tolerance;
      }

-- and of the audit, under the file's own
module _ (f values picks : List ℕ) (C : ℕ) (said : audit f values picks ≡ accepted C) where
  formed : WellFormed (problem_of f)
  formed = audit_formed f values picks C said

  pub audit_lower : (K : ℕ) → 1 ≤ K → (plan : ℕ → Choice) (u : ℕ → ℕ) (set : ℕ → Type 0) → Cover (problem_of f) K plan u set
      → K * by_state values (problem_of f).start ≤ u (problem_of f).start
  audit_lower =
      accepted_lower (problem_of f) formed (by_state values) (by_state picks) C (problem_of f).tolerance formed.tolerance_low
      formed.tolerance_high (audit_accepts f values picks C said)

  pub audit_close : Close (problem_of f) (problem_of f).tolerance (by_state values) (by_state picks) C
  audit_close =
      accepted_close (problem_of f) formed (by_state values) (by_state picks) C (problem_of f).tolerance formed.tolerance_low
      formed.tolerance_high (audit_accepts f values picks C said)
