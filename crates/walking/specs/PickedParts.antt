-- The part of the file that a pick's outcomes take: its successors are where the model's graph leads from the state.
-- Byte by byte along the outcomes, and through the index to the row's part.
use Rattle.std.specs.Prelude.{◌≡◌, refl, Bool, true, false, not, List, [], ◌∷◌, map, length, drop}
use Rattle.std.proofs.Common.{sym, ◌∙◌, ap, ap₂, arith, true≢false}
use Prim.Native.Nat.{ℕ, zero, suc, ◌+◌, ◌-◌, ◌*◌, ◌/◌, ◌≤◌, ◌<◌}
use Rattle.std.proofs.Math.Bool.{and-false}
use Rattle.std.proofs.Math.ListN.{get_or}
use Rattle.model.specs.Problem.{Outcome, end_row, own_row}
use Rattle.model.specs.Sections.{problem_of, outcome_at, outcome_count_of, outcomes_from}
use Rattle.model.specs.Value.{by_state}
use Rattle.model.specs.Bytes.{u16_at}
use Rattle.model.specs.Walk.{here, there, next, successors}
use Rattle.guarantee.specs.Walks.{own_row_lem, next_state}
use Rattle.guarantee.specs.Rows.{own_low, own_high}
use Rattle.reading.specs.RowParts.{part_from, part_to, part_begins, part_ends, part_spans, rows_end, own_at_lem, outcomes_read}
use Rattle.reading.specs.Tests.{rows_base, bytes_between, part_bytes, own_at}
use Rattle.walking.specs.Walkable.{Walkable}
use Rattle.walking.specs.Parts.{u16_drop, told}
use Rattle.walking.specs.Trails.{Picked, leads_from, leads, Outcomes, Told, Along, picked_by}

-- the successors of outcomes that are read from a part of the file
leads_part : (f : List ℕ) (at i k : ℕ) → map (λ (o : Outcome). o.successor) (outcomes_from (drop at f) i k) ≡ leads_from f (at + 4 * i) k
unfolding outcomes_from leads_from
leads_part f at i zero = refl
leads_part f at i (suc k) = ap₂ ◌∷◌ (u16_drop f at (4 * i)) (leads_part f at (suc i) k ∙ ap (λ j. leads_from f j k) (omega arith))

-- one outcome more, by the ends of a part: the first of a part that is not empty, and the rest of it
module _ {f : List ℕ} {i to : ℕ} (o : Outcomes f i to) (more : i < to) where
  pub leads_more : leads f i to ≡ u16_at f i ∷ leads f (i + 4) to
  unfolding leads_from
  leads_more = let e : (to - i) / 4 ≡ suc ((to - (i + 4)) / 4) = omega (arith, o.whole) in rw e

  pub outcome_there : i + 2 ≤ length f
  outcome_there = omega (arith, o.whole, o.inside)

  pub outcome_state : u16_at f i < (problem_of f).states
  outcome_state = o.lead _ (rw leads_more here)

  pub outcomes_more : Outcomes f (i + 4) to
  outcomes_more = record { whole = omega (arith, o.whole); inside = o.inside; lead = λ t m. o.lead t (rw leads_more (there m)) }

-- the successors of row r stand from where its outcomes begin
row_leads : (f : List ℕ) (r : ℕ) → successors (problem_of f) r ≡ leads_from f (outcome_at f r) (outcome_count_of f r)
row_leads f r =
    ap (map (λ (o : Outcome). o.successor)) (outcomes_read f r)
    ∙ leads_part f (outcome_at f r) 0 (outcome_count_of f r)
    ∙ ap (λ j. leads_from f j (outcome_count_of f r)) (omega arith)

pub picked_along : {f index : List ℕ} → Walkable f index → (picks : List ℕ) → Along f (picked_by f picks)
picked_along {f} w picks =
    record {
      whole = w.ready.indexed.whole;
      formed = w.formed;
      among = next_state (problem_of f) w.formed (by_state picks);
    }

module _ {f index : List ℕ} (w : Walkable f index) (s : ℕ) (state : s < (problem_of f).states) where
  end_row_lem : get_or index (s + 1) 0 ≡ end_row (problem_of f) s
  end_row_lem = rows_end f index w.ready s state

  -- what looking a pick up in the index asks
  pub index_there : (s + 1 < length index) × (rows_base + 2 * get_or index (s + 1) 0 < length index)
  index_there =
      let size = w.ready.indexed.size in
      (omega (arith, w.formed.states_high), omega (arith, end_row_lem, w.ready.indexed.within.rows_within_lem s state))

  module _ (picks : List ℕ) {from to : ℕ} (at : Picked index s (get_or picks s 0) from to) where
    -- the part is whole outcomes of the file, and leads where the model's graph does
    record Ends : Type 0 where
      whole : to ≡ from + 4 * ((to - from) / 4)
      inside : to ≤ length f
      leads_next : leads f from to ≡ next (problem_of f) (by_state picks) s

    none : own_row (problem_of f) s (get_or picks s 0) ≡ false → Ends
    unfolding next leads_from
    none o =
        let empty = at.stray (own_at_lem f index w.ready s state (get_or picks s 0) ∙ o) in
        record {
          whole = omega (arith, empty.0, empty.1);
          inside = omega (arith, empty.1);
          leads_next = rw (empty.0, empty.1, o, and-false (not ((problem_of f).goal s)));
        }

    own : (problem_of f).goal s ≡ false → own_row (problem_of f) s (get_or picks s 0) ≡ true → Ends
    unfolding next
    own e o =
        let row : get_or picks s 0 < (problem_of f).rows = own_row_lem (problem_of f) w.formed s (get_or picks s 0) state o in
        let ends = at.own (own_at_lem f index w.ready s state (get_or picks s 0) ∙ o) in
        let start : from ≡ outcome_at f (get_or picks s 0) =
        ends.0 ∙ part_begins w.ready.indexed (get_or picks s 0) row in
        let finish : to ≡ outcome_at f (get_or picks s 0) + 4 * outcome_count_of f (get_or picks s 0) =
        ends.1 ∙ part_ends w.ready.indexed (get_or picks s 0) row in
        let count : (to - from) / 4 ≡ outcome_count_of f (get_or picks s 0) = omega (arith, start, finish) in
        record {
          whole = omega (arith, start, finish, count);
          inside = omega (arith, finish, w.ready.indexed.within.outcomes_within (get_or picks s 0) row);
          leads_next = rw (count, start, e, o) (sym (row_leads f (get_or picks s 0)));
        }

    -- a goal has no rows
    goal_stray : (problem_of f).goal s ≡ true → own_row (problem_of f) s (get_or picks s 0) ≡ false
    goal_stray e = go (own_row (problem_of f) s (get_or picks s 0)) refl
      where
        go : (o : Bool) → own_row (problem_of f) s (get_or picks s 0) ≡ o → o ≡ false
        go true o =
            let p = problem_of f in
            absurd (omega (arith, own_low p s (get_or picks s 0) o, own_high p s (get_or picks s 0) o, w.formed.goal_rows s state e))
        go false o = refl

    ends_on : (g o : Bool) → (problem_of f).goal s ≡ g → own_row (problem_of f) s (get_or picks s 0) ≡ o → Ends
    ends_on g false e q = none q
    ends_on false true e q = own e q
    ends_on true true e q = absurd (true≢false (sym q ∙ goal_stray e))

    ends : Ends
    ends = ends_on _ _ refl refl

    -- where there are outcomes, the state has rows and is no goal
    pub picked_open : from < to → (problem_of f).goal s ≡ false
    picked_open some = open_on ((problem_of f).goal s) refl
      where
        open_on : (g : Bool) → (problem_of f).goal s ≡ g → (problem_of f).goal s ≡ false
        open_on false e = e
        open_on true e =
            let empty = at.stray (own_at_lem f index w.ready s state (get_or picks s 0) ∙ goal_stray e) in
            absurd (omega (arith, empty.0, empty.1))

    pub picked_leads : leads f from to ≡ next (problem_of f) (by_state picks) s
    picked_leads = ends.leads_next

    pub picked_outcomes : Outcomes f from to
    picked_outcomes =
        record {
          whole = ends.whole;
          inside = ends.inside;
          lead = λ t i. next_state (problem_of f) w.formed (by_state picks) s t state (rw picked_leads at i);
        }

  -- what the index tells of a pick is where the graph of the picks leads: where the row is not the state's own, none
  module _ (picks : List ℕ) where
    picked_told : {from to : ℕ} → Picked index s (get_or picks s 0) from to
        → Told f (picked_by f picks) s (bytes_between f from to)
    picked_told at = told (picked_outcomes picks at) (picked_leads picks at) (picked_open picks at)

    pub stray_told : own_at index s (get_or picks s 0) ≡ false → Told f (picked_by f picks) s []
    stray_told e =
        let at : Picked index s (get_or picks s 0) 0 0 =
        record { own = λ o. absurd (true≢false (sym o ∙ e)); stray = λ o. (refl, refl) } in
        picked_told at

    module _ (e : own_at index s (get_or picks s 0) ≡ true) where
      pub own_there : get_or picks s 0 < (problem_of f).rows
      own_there = own_row_lem (problem_of f) w.formed s _ state (sym (own_at_lem f index w.ready s state _) ∙ e)

      pub own_told : Told f (picked_by f picks) s (part_bytes f (get_or picks s 0))
      own_told =
          let r = get_or picks s 0 in
          let begin = part_begins w.ready.indexed r own_there in
          let spans = part_spans w.ready.indexed r own_there in
          let span : part_to index r - part_from index r ≡ 4 * outcome_count_of f r = omega (arith, spans) in
          let at : Picked index s r (part_from index r) (part_to index r) =
          record { own = λ o. (refl, refl); stray = λ o. absurd (true≢false (sym e ∙ o)) } in
          rw (span, begin) at (picked_told at)
