-- Laws of the index: what its entries are once states and rows are filled in, and what they give before question 10 and after
-- it. The entries are read off the two fillings; the rest is the layout of the sections.
use mathlib.Core.Path.{◌≡◌, refl, ◌∙◌}
use Prim.Native.Nat.{ℕ, zero, suc, ◌+◌, ◌*◌, ◌≤◌, ◌<◌}
use native.Mathlib.Decide.{ℕ_discrete}
use native.Mathlib.Nat.{eq-or-lt_of_le}
use native.Mathlib.Omega.{arith}
use mathlib.Core.Bool.{true}
use mathlib.Core.List.{List}
use mathlib.Core.Logic.{◌⊎◌, inl, inr}
use lib.ListN.{length, get_or, set, drop, length-set}
use lib.Seq.{get_or-set_same, get_or-set_other}
use Rattle.model.specs.Limits.{weight_totals}
use Rattle.model.specs.Questions.{passes, layout_questions, row_number_question, outcome_number_question}
use Rattle.model.specs.Questions.{outcomes_obey, row_sound, outcome_question}
use Rattle.model.specs.Search.{first, one_of}
use Rattle.model.specs.Sections.{problem_of, rows_at, outcome_at, outcome_count_of}
use Rattle.model.specs.Value.{row_ticks}
use Rattle.guarantee.specs.Parts.{obey_successor}
use Rattle.guarantee.specs.Searches.{and_left, ask_each_yes, first_same}
use Rattle.guarantee.specs.Tables.{fill_length, fill_entry, pair_first, pair_second, pair_other}
use Rattle.reading.specs.RowParts.{part_spans, part_ordered, part_inside, part_holds, outcomes_read}
use Rattle.checking.specs.IndexLeft.{states_filled, rows_filled}
use Rattle.reading.specs.Fields.{within}
use Rattle.reading.specs.Ready.{Indexed, Ready}
use Rattle.reading.specs.Bounds.{byte_bound}
use Rattle.reading.specs.Tests.{rows_base, index_for, row_entries, all_entries}
use Rattle.reading.specs.Tests.{part_of, outcomes_in}
use Rattle.checking.specs.ItemTests.{PartThere}

-- the entries of the rows

module _ (starts costs : ℕ → ℕ) (l : List ℕ) where
  entries_length : (k : ℕ) → length (row_entries starts costs l k) ≡ length l
  unfolding row_entries
  entries_length zero = refl
  entries_length (suc k) = simp length-set (entries_length k)

  -- the entries of the states stay
  entries_before : (k j : ℕ) → j < rows_base → get_or (row_entries starts costs l k) j 0 ≡ get_or l j 0
  unfolding row_entries
  entries_before zero j h = refl
  entries_before (suc k) j h =
      pair_other (row_entries starts costs l k) (rows_base + 2 * k) (starts k) (costs k) j (omega arith) (omega arith)
      ∙ entries_before k j h

  entries_start
      : (k r : ℕ) → rows_base + 2 * k ≤ length l → r < k → get_or (row_entries starts costs l k) (rows_base + 2 * r) 0 ≡ starts r
  unfolding row_entries
  entries_start zero r long h = absurd (omega arith)
  entries_start (suc k) r long h = go (ℕ_discrete r k) (entries_start k r (omega arith))
    where
      e : List ℕ
      e = row_entries starts costs l k

      go : Dec (r ≡ k) → (r < k → get_or e (rows_base + 2 * r) 0 ≡ starts r)
          → get_or (set (set e (rows_base + 2 * k) (starts k)) (rows_base + 2 * k + 1) (costs k)) (rows_base + 2 * r) 0 ≡ starts r
      go (yes s) next = rw s (pair_first e (rows_base + 2 * k) (starts k) (costs k) (omega (arith, entries_length k)))
      go (no ne) next =
          pair_other e (rows_base + 2 * k) (starts k) (costs k) (rows_base + 2 * r) (omega arith) (omega arith)
          ∙ next (omega arith)

  entries_cost
      : (k r : ℕ) → rows_base + 2 * k ≤ length l → r < k → get_or (row_entries starts costs l k) (rows_base + 2 * r + 1) 0 ≡ costs r
  unfolding row_entries
  entries_cost zero r long h = absurd (omega arith)
  entries_cost (suc k) r long h = go (ℕ_discrete r k) (entries_cost k r (omega arith))
    where
      e : List ℕ
      e = row_entries starts costs l k

      go : Dec (r ≡ k) → (r < k → get_or e (rows_base + 2 * r + 1) 0 ≡ costs r)
          → get_or (set (set e (rows_base + 2 * k) (starts k)) (rows_base + 2 * k + 1) (costs k)) (rows_base + 2 * r + 1) 0 ≡ costs r
      go (yes s) next = rw s (pair_second e (rows_base + 2 * k) (starts k) (costs k) (omega (arith, entries_length k)))
      go (no ne) next =
          pair_other e (rows_base + 2 * k) (starts k) (costs k) (rows_base + 2 * r + 1) (omega arith) (omega arith)
          ∙ next (omega arith)

-- and after all n rows

module _ (starts costs : ℕ → ℕ) (l : List ℕ) (n : ℕ) where
  all_length : length (all_entries starts costs l n) ≡ length l
  all_length = length-set (row_entries starts costs l n) (rows_base + 2 * n) (starts n) ∙ entries_length starts costs l n

  all_before : (j : ℕ) → j < rows_base → get_or (all_entries starts costs l n) j 0 ≡ get_or l j 0
  all_before j h =
      get_or-set_other (row_entries starts costs l n) (rows_base + 2 * n) j (starts n) 0 (omega arith)
      ∙ entries_before starts costs l n j h

  module _ (long : rows_base + 2 * n < length l) where
    all_start : (r : ℕ) → r ≤ n → get_or (all_entries starts costs l n) (rows_base + 2 * r) 0 ≡ starts r
    all_start r h = go (eq-or-lt_of_le h)
      where
        e : List ℕ
        e = row_entries starts costs l n

        go : (r ≡ n) ⊎ (r < n) → get_or (set e (rows_base + 2 * n) (starts n)) (rows_base + 2 * r) 0 ≡ starts r
        go (inl s) = rw s (get_or-set_same e (rows_base + 2 * n) (starts n) 0 (omega (arith, entries_length starts costs l n)))
        go (inr b) =
            get_or-set_other e (rows_base + 2 * n) (rows_base + 2 * r) (starts n) 0 (omega arith)
            ∙ entries_start starts costs l n r (omega arith) b

    all_cost : (r : ℕ) → r < n → get_or (all_entries starts costs l n) (rows_base + 2 * r + 1) 0 ≡ costs r
    all_cost r h =
        get_or-set_other (row_entries starts costs l n) (rows_base + 2 * n) (rows_base + 2 * r + 1) (starts n) 0 (omega arith)
        ∙ entries_cost starts costs l n r (omega arith) h

-- the index once the states and the rows are filled in: what questions 1 to 3, 7 and 9 say, and that the bytes are bytes
module _ (f before : List ℕ) (whole : layout_questions f ≡ passes) (bytes : (i : ℕ) → get_or f i 0 < byte_bound)
    (size : index_for (problem_of f).rows ≤ length before) where
  pub index_holds
      : row_number_question (problem_of f) ≡ passes → outcome_number_question f (problem_of f) ≡ passes
      → Indexed f (rows_filled f (states_filled f before))
  index_holds seventh ninth =
      let inside = within f whole seventh ninth in
      let firsts = (problem_of f).first_row in
      let costs = row_ticks (problem_of f) in
      let n = (problem_of f).states in
      let m = (problem_of f).rows in
      let states = states_filled f before in
      let states_size : length states ≡ length before = fill_length firsts before (n + 1) in
      let few = inside.states_high in
      let long : rows_base + 2 * m < length states = omega arith in
      record {
        whole = whole;
        within = inside;
        size = omega (arith, all_length (outcome_at f) costs states m);
        first_row_lem = λ s l.
            all_before (outcome_at f) costs states m s (omega arith)
            ∙ fill_entry firsts before (n + 1) s (omega arith) (omega arith);
        outcomes_at_lem = all_start (outcome_at f) costs states m long;
        ticks = all_cost (outcome_at f) costs states m long;
        outcomes_few = λ r. omega (arith, bytes (rows_at f + 2 + 4 * r + 1));
      }

-- what the index gives of a row

module _ {f index : List ℕ} (h : Indexed f index) where
  -- what question 10 asks of the index
  pub parts_there : (r : ℕ) → r < (problem_of f).rows → PartThere f index r
  parts_there r l =
      record {
        ordered = part_ordered h r l;
        inside = part_inside h r l;
        few = omega (arith, part_spans h r l, h.outcomes_few r);
      }

  -- question 10 of the parts is question 10 of the problem
  pub same_search
      : first (λ k. row_sound (problem_of f).states (problem_of f).total (outcomes_in (part_of f index k))) 0 (problem_of f).rows
      ≡ first (λ k. row_sound (problem_of f).states (problem_of f).total ((problem_of f).outcomes k)) 0 (problem_of f).rows
  same_search = first_same _ _ 0 (problem_of f).rows (λ j low high. rw (part_holds h j (omega arith)))

  pub index_ready : one_of (problem_of f).total weight_totals ≡ true → outcome_question (problem_of f) ≡ passes → Ready f index
  unfolding outcome_question
  index_ready known passed =
      record {
        indexed = h;
        total_known = known;
        successor_there = λ r i l k.
            let p = problem_of f in
            let test = ask_each_yes 10 p.rows _ passed r l in
            let obey : outcomes_obey p.states p.total (p.outcomes r) ≡ true = and_left _ _ test in
            let read = rw (outcomes_read f r) at obey in
            obey_successor p.states p.total (drop (outcome_at f r) f) 0 (outcome_count_of f r) i read (omega arith) (omega arith);
      }
