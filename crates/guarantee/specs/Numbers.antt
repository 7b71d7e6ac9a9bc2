-- Questions 1 to 11 carry the numbers 1 to 11 and 24: no other number comes from them.
-- A chain of questions has no later number than its parts; each part says its number.
use Rattle.std.specs.Prelude.{◌≡◌, ℕ, ◌+◌, ◌≤◌, ◌<◌, Bool, true, false, not, List, leb, ltb, eqb, length}
use Rattle.std.proofs.Common.{arith}
use Rattle.model.specs.Bytes.{u16_at}
use Rattle.model.specs.Limits.{min_settings, max_settings, weight_totals, max_states, max_rows, max_outcomes, max_tolerance, max_penalty}
use Rattle.model.specs.Problem.{Problem, give_up_cost}
use Rattle.model.specs.Search.{first, sum_to, one_of}
use Rattle.model.specs.Sections.{section_end, states_at, rows_at, outcomes_at, file_end, goal_byte_of, kind_of, outcome_count_of}
use Rattle.model.specs.Sections.{cost_number_of, problem_of}
use Rattle.model.specs.Questions.{Verdict, passes, fails, ◌then◌, ask, ask_each, between, section_questions, end_question}
use Rattle.model.specs.Questions.{layout_questions, layout_questions_within}
use Rattle.model.specs.Questions.{setting_questions, state_obeys, state_question, start_question, row_number_question, row_obeys, row_question}
use Rattle.model.specs.Questions.{outcome_number_question, row_sound, outcome_question, undercut_state, estimate_question, item_questions}
use Rattle.model.specs.Questions.{file_questions, file_questions_within}

-- a verdict that passes, or fails under a number of at most 11 or under 24, which belongs to 4
pub data Early : Verdict → Type 0 where
  passed : Early passes
  failed : {q i : ℕ} → q ≤ 11 → Early (fails q i)
  no_total : {i : ℕ} → Early (fails 24 i)

-- a later number is 24
pub early_number : {v : Verdict} → Early v → (q i : ℕ) → v ≡ fails q i → 11 < q → q ≡ 24
early_number passed q i e late = let z : ◌≡◌ {A = ℕ} 0 1 = cc in absurd (omega arith)
early_number (failed {q = n} l) q i e late = let same : n ≡ q = cc in absurd (omega arith)
early_number no_total q i e late = cc

early_then : {v w : Verdict} → Early v → Early w → Early (v then w)
early_then passed b = b
early_then (failed l) b = failed l
early_then no_total b = no_total

early_ask : (q i : ℕ) (b : Bool) → q ≤ 11 → Early (ask q i b)
early_ask q i true l = passed
early_ask q i false l = failed l

early_each : (q n : ℕ) (ok : ℕ → Bool) → q ≤ 11 → Early (ask_each q n ok)
early_each q n ok = early_ask q (first ok 0 n) (leb n (first ok 0 n))

early_section : (place i size low high : ℕ) (f : List ℕ) → Early (section_questions place i size low high f)
unfolding section_questions
early_section place i size low high f =
    early_then (early_ask 1 place (leb (i + 2) (length f)) (omega arith))
    (early_then (early_ask 2 place (between low high (u16_at f i)) (omega arith))
    (early_ask 1 place (leb (section_end size f i) (length f)) (omega arith)))

early_layout : (f : List ℕ) → Early (layout_questions f)
unfolding layout_questions_within end_question
early_layout f =
    early_then (early_section 0 0 4 min_settings max_settings f)
    (early_then (early_section 1 (states_at f) 6 1 max_states f)
    (early_then (early_section 2 (rows_at f) 4 0 max_rows f)
    (early_then (early_section 3 (outcomes_at f) 4 0 max_outcomes f)
    (early_ask 3 3 (eqb (file_end f) (length f)) (omega arith)))))

early_total : (i : ℕ) (b : Bool) → Early (ask 24 i b)
early_total i true = passed
early_total i false = no_total

early_settings : (p : Problem) → Early (setting_questions p)
unfolding setting_questions
early_settings p =
    early_then (early_ask 4 0 (ltb p.start p.states) (omega arith))
    (early_then (early_ask 4 1 (between 1 max_tolerance p.tolerance) (omega arith))
    (early_then (early_ask 4 2 (between 1 max_penalty p.penalty) (omega arith))
    (early_total 3 (one_of p.total weight_totals))))

early_items : (f : List ℕ) (p : Problem) → Early (item_questions f p)
unfolding item_questions state_question start_question row_number_question row_question outcome_number_question outcome_question estimate_question
early_items f p =
    early_then (early_each 5 p.states (λ s. state_obeys (give_up_cost p) (p.estimate s) (p.row_count s) (goal_byte_of f s)) (omega arith))
    (early_then (early_ask 6 p.start (not (p.goal p.start)) (omega arith))
    (early_then (early_ask 7 0 (eqb (sum_to p.row_count p.states) p.rows) (omega arith))
    (early_then (early_each 8 p.rows (λ r. row_obeys (kind_of f r) (outcome_count_of f r) (cost_number_of f r)) (omega arith))
    (early_then (early_ask 9 0 (eqb (sum_to (outcome_count_of f) p.rows) (u16_at f (outcomes_at f))) (omega arith))
    (early_then
    (early_each 10 p.rows (λ r. row_sound p.states p.total (p.outcomes r)) (omega arith))
    (early_ask 11 _ (leb p.states (undercut_state p p.estimate)) (omega arith)))))))

-- questions 1 to 11 in order
pub early_file : (f : List ℕ) → Early (file_questions f)
unfolding file_questions_within
early_file f = early_then (early_layout f) (early_then (early_settings (problem_of f)) (early_items f (problem_of f)))
