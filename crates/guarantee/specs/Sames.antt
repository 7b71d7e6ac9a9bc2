-- Two problems with the same data (request E6) have the same row values and remainders, and the same audit of any tables.
-- A sum over a row's outcomes is one over the states, of chance × value, and a row leads exactly to the states with a chance.
use Rattle.std.specs.Prelude.{◌≡◌, ℕ, zero, suc, ◌*◌, ◌≤◌, ◌<◌, Bool, true, false, ◌&&◌, not, List, leb, pos, get_or, length}
use Rattle.std.proofs.Math.Path.{refl, ap₂}
use Rattle.std.proofs.Common.{sym, ◌∙◌, ap, arith}
use Rattle.model.specs.Problem.{Problem, own_row}
use Rattle.model.specs.Value.{weighted_sum, row_value, row_remainder, by_state}
use Rattle.model.specs.Walk.{In, next_on, next, walk, Reached, at_start_lem, along}
use Rattle.model.specs.Audit.{refused, or_else, problem_audit, problem_audit_with}
use Rattle.model.specs.SetForm.{Same, chance}
use Rattle.guarantee.specs.WellFormed.{WellFormed}
use Rattle.guarantee.specs.Graphs.{in_nil}
use Rattle.guarantee.specs.Searches.{and_right}
use Rattle.guarantee.specs.Walks.{own_row_lem, next_state, reached_state, reached_marked, marked_reached, marks_binary}
use Rattle.guarantee.specs.Chances.{weighted_by_chance, leads_with_chance, chance_leads}
use Rattle.guarantee.specs.Sums.{sum_same}
use Rattle.guarantee.specs.Agreeing.{Alike, tables_alike}

-- Having the same data, back and on, where the numbers of rows are equal too.

pub same_sym : (p q : Problem) → p.rows ≡ q.rows → Same p q → Same q p
same_sym p q rows h =
    record {
      start = sym h.start;
      tolerance = sym h.tolerance;
      penalty = sym h.penalty;
      total = sym h.total;
      states = sym h.states;
      estimates = λ s l. sym (h.estimates s (omega (arith, h.states)));
      goals = λ s l. sym (h.goals s (omega (arith, h.states)));
      row_counts = λ s l. sym (h.row_counts s (omega (arith, h.states)));
      costs = λ r l. sym (h.costs r (omega (arith, rows)));
      chances = λ r t l m. sym (h.chances r t (omega (arith, rows)) (omega (arith, h.states)));
    }

pub same_trans : (p q o : Problem) → p.rows ≡ q.rows → Same p q → Same q o → Same p o
same_trans p q o rows h k =
    record {
      start = h.start ∙ k.start;
      tolerance = h.tolerance ∙ k.tolerance;
      penalty = h.penalty ∙ k.penalty;
      total = h.total ∙ k.total;
      states = h.states ∙ k.states;
      estimates = λ s l. h.estimates s l ∙ k.estimates s (omega (arith, h.states));
      goals = λ s l. h.goals s l ∙ k.goals s (omega (arith, h.states));
      row_counts = λ s l. h.row_counts s l ∙ k.row_counts s (omega (arith, h.states));
      costs = λ r l. h.costs r l ∙ k.costs r (omega (arith, rows));
      chances = λ r t l m. h.chances r t l m ∙ k.chances r t (omega (arith, rows)) (omega (arith, h.states));
    }

-- Rows.

module _ (p q : Problem) (formed : WellFormed p) (formed' : WellFormed q) (same : Same p q) where
  same_first_rows : (s : ℕ) → s ≤ p.states → p.first_row s ≡ q.first_row s
  same_first_rows zero h = formed.rows_start ∙ sym formed'.rows_start
  same_first_rows (suc s) h =
      omega (
        arith,
        same_first_rows s (omega arith),
        same.row_counts s (omega arith),
        formed.rows_follow s,
        formed'.rows_follow s,
      )

  -- both are the sum of the row numbers
  pub same_rows : p.rows ≡ q.rows
  same_rows =
      sym formed.rows_end
      ∙ same_first_rows p.states (omega arith)
      ∙ ap q.first_row same.states ∙ formed'.rows_end

  row_there : (r : ℕ) → r < p.rows → r < q.rows
  row_there r l = omega (arith, same_rows)

  pub same_sums : (v : ℕ → ℕ) (r : ℕ) → r < p.rows → weighted_sum (p.outcomes r) v ≡ weighted_sum (q.outcomes r) v
  same_sums v r l =
      weighted_by_chance (p.outcomes r) v p.states (formed.successor_state r l)
      ∙ sum_same (λ t. chance p r t * v t) (λ t. chance q r t * v t) p.states
      (λ t h. ap (λ c. c * v t) (same.chances r t l h))
      ∙ sym
      (weighted_by_chance (q.outcomes r) v p.states
      (λ o i. omega (arith, same.states, formed'.successor_state r (row_there r l) o i)))

  pub same_values : (v : ℕ → ℕ) (r : ℕ) → r < p.rows → row_value p v r ≡ row_value q v r
  unfolding row_value
  same_values v r l = rw (same.costs r l, same_sums v r l, same.total) refl

  pub same_remainders : (v : ℕ → ℕ) (r : ℕ) → r < p.rows → row_remainder p v r ≡ row_remainder q v r
  unfolding row_remainder
  same_remainders v r l = rw (same_sums v r l, same.total) refl

  -- What the walks reach.
  module _ (picks : ℕ → ℕ) where
    leads_on_lem : (b : Bool) (r t : ℕ) → (b ≡ true → r < p.rows) → In t (next_on b p r) → t < p.states → In t (next_on b q r)
    leads_on_lem true r t row i l =
        let own = leads_with_chance (p.outcomes r) t (formed.weight_low r (row refl)) i in
        chance_leads (q.outcomes r) t (omega (arith, same.chances r t (row refl) l))
    leads_on_lem false r t row i l = absurd (in_nil i)

    next_over : (s t : ℕ) → s < p.states → In t (next p picks s) → In t (next q picks s)
    unfolding next
    next_over s t l i =
        rw (← same.goals s l, ← same_first_rows s (omega arith), ← same.row_counts s l)
        (leads_on_lem (not (p.goal s) && own_row p s (picks s)) (picks s) t
        (λ e. own_row_lem p formed s (picks s) l (and_right (not (p.goal s)) _ e)) i (next_state p formed picks s t l i))

    reached_over : (s : ℕ) → Reached p picks s → Reached q picks s
    reached_over _ at_start_lem = rw same.start at_start_lem
    reached_over _ (along {s = s} {t = t} r i) =
        along (reached_over s r) (next_over s t (reached_state p formed picks s r) i)

-- Marks and the audit.

two_marks : (a b : ℕ) → a ≤ 1 → b ≤ 1 → ((a ≡ 0 → ⊥) → b ≡ 1) → ((b ≡ 0 → ⊥) → a ≡ 1) → a ≡ b
two_marks zero zero h k on back = refl
two_marks zero (suc b) h k on back = absurd (omega (arith, back (λ e. omega arith)))
two_marks (suc a) b h k on back = omega (arith, on (λ e. omega arith))

module _ (p q : Problem) (formed : WellFormed p) (formed' : WellFormed q) (same : Same p q) where
  same_marks : (picks : ℕ → ℕ) (s : ℕ) → get_or (walk p picks).marks s 0 ≡ get_or (walk q picks).marks s 0
  same_marks picks s =
      let back = same_sym p q (same_rows p q formed formed' same) same in
      two_marks _ _ (marks_binary p formed picks s) (marks_binary q formed' picks s)
      (λ m. reached_marked q formed' picks s
      (reached_over p q formed formed' same picks s (marked_reached p formed picks s m)))
      (λ m. reached_marked p formed picks s
      (reached_over q p formed' formed back picks s (marked_reached q formed' picks s m)))

  same_alike : (v picks : ℕ → ℕ) → Alike p q v v picks picks
  same_alike v picks =
      record {
        start = same.start;
        tolerance = same.tolerance;
        penalty = same.penalty;
        states = same.states;
        goals = same.goals;
        first_rows = λ s l. same_first_rows p q formed formed' same s (omega arith);
        row_counts = same.row_counts;
        costs = same.costs;
        row_values = same_values p q formed formed' same v;
        values = λ s l. refl;
        picked = λ s l. refl;
        marked = λ s l. same_marks picks s;
      }

  pub same_audits : (values picks : List ℕ) → problem_audit p values picks ≡ problem_audit q values picks
  unfolding problem_audit_with
  same_audits values picks =
      ap₂
      (λ n said. or_else (leb n (length values)) (refused 15 0 (pos 0))
      (or_else (leb n (length picks)) (refused 15 1 (pos 0)) said))
      same.states
      (tables_alike p q formed (by_state values) (by_state values) (by_state picks) (by_state picks)
      (same_alike (by_state values) (by_state picks)))
