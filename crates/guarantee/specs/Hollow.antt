-- A plan that gives up at the start is refused by the audit under 17 or 19 where one of the start's rows is cheaper by e or more.
-- Giving up leads nowhere, so the start alone is reached; where 17 passes, V(start) is at most that row's value, so 19 fails.
use Rattle.std.specs.Prelude.{◌≡◌, ℕ, ◌+◌, ◌≤◌, ◌<◌, Bool, false, [], ◌⊎◌, ℤ}
use Rattle.std.proofs.Math.Path.{refl}
use Rattle.std.proofs.Common.{arith, inl, inr, eq-eqb}
use Rattle.std.proofs.Math.Bool.{true}
use Rattle.std.proofs.Math.Dec.{leb}
use Rattle.std.proofs.Math.IntN.{sub_ℕ}
use Rattle.std.proofs.lemmas.Bool.{eqb-false}
use Rattle.model.specs.Limits.{give_up}
use Rattle.model.specs.Problem.{Problem, give_up_cost, own_row}
use Rattle.model.specs.Value.{row_value}
use Rattle.model.specs.Questions.{undercut_row, undercut_state}
use Rattle.model.specs.Walk.{In, next, walk, Reached, at_start_lem, along}
use Rattle.model.specs.Audit.{Audited, refused, pick_value, unbounded_state, stray_state, slack_state, table_questions, table_questions_with}
use Rattle.guarantee.specs.WellFormed.{WellFormed}
use Rattle.guarantee.specs.Graphs.{in_nil}
use Rattle.guarantee.specs.Rows.{own_low, own_high, give_up-not_own}
use Rattle.guarantee.specs.Walks.{marked_reached, reached_marked}
use Rattle.guarantee.specs.Undercuts.{undercut_none}
use Rattle.guarantee.specs.Accepted.{Marked, bounded_table, fitting_picks, close_picks}

-- refused under 17 or under 19
pub record TooDear (said : Audited) : Type 0 where
  pub question : ℕ
  pub place : ℕ
  pub excess : ℤ
  pub refusal : said ≡ refused question place excess
  pub number : (question ≡ 17) ⊎ (question ≡ 19)

module _ (p : Problem) (formed : WellFormed p) (v picks : ℕ → ℕ) (gives : picks p.start ≡ give_up) where
  next_none : next p picks p.start ≡ []
  unfolding next
  next_none = rw (gives, formed.start_open, give_up-not_own p formed p.start formed.start_state) refl

  -- the start alone is reached
  only_start : (s : ℕ) → Reached p picks s → s ≡ p.start
  only_start _ at_start_lem = refl
  only_start _ (along {s = s} {t = t} r i) = absurd (nowhere s (only_start s r) i)
    where
      nowhere : (s : ℕ) → s ≡ p.start → In t (next p picks s) → ⊥
      nowhere s e i = in_nil (rw (e, next_none) at i)

  start_value : pick_value p v picks p.start ≡ give_up_cost p
  unfolding pick_value
  start_value = rw (eq-eqb (picks p.start) give_up gives) refl

  module _ (zeros : (s : ℕ) → s < p.states → p.goal s ≡ true → v s ≡ 0)
      (high : (s : ℕ) → s < p.states → p.goal s ≡ false → v s ≤ give_up_cost p)
      (r : ℕ) (own : own_row p p.start r ≡ true) (cheaper : row_value p v r + p.tolerance ≤ give_up_cost p) where
    stray_none : leb p.states (stray_state p picks (walk p picks).marks) ≡ true
    stray_none =
        fitting_picks p v picks
        λ s l goal marked. inl (rw (only_start s (marked_reached p formed picks s (eqb-false _ _ marked))) gives)

    pub table_too_dear : TooDear (table_questions p v picks)
    unfolding table_questions_with
    table_too_dear = on (leb p.states (undercut_state p v)) refl (leb p.states slack) refl
      where
        bounded : leb p.states (unbounded_state p v) ≡ true
        bounded = bounded_table p v picks zeros high

        undercut : ℕ
        undercut = undercut_state p v

        slack : ℕ
        slack = slack_state p v picks (walk p picks).marks

        on : (b : Bool) → leb p.states undercut ≡ b → (c : Bool) → leb p.states slack ≡ c → TooDear (table_questions p v picks)
        on false e c e' =
            record {
              question = 17;
              place = undercut_row p v undercut;
              excess = sub_ℕ (v undercut) (row_value p v (undercut_row p v undercut));
              refusal = rw (bounded, e) refl;
              number = inl refl;
            }
        on true e false e' =
            record {
              question = 19;
              place = slack;
              excess = sub_ℕ (v slack) (pick_value p v picks slack);
              refusal = rw (bounded, e, stray_none, e') refl;
              number = inr refl;
            }
        on true e true e' =
            let start = p.start in
            let under = undercut_none p v e start r formed.start_state (own_low p start r own) (own_high p start r own) in
            let marked : Marked p picks start = rw (reached_marked p formed picks start at_start_lem) refl in
            let near = close_picks p v picks e' start formed.start_state formed.start_open marked in
            absurd (omega (arith, under, near, start_value, cheaper, formed.tolerance_low))
