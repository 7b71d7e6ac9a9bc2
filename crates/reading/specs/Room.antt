-- Room for a file's index: what questions 1 to 11 ask of the index that is lent to them. There is room in the large index for every
-- file, and in the small one for a file of few rows.
use Rattle.std.specs.Prelude.{◌≡◌, ℕ, ◌+◌, ◌≤◌, true, List, length, replicate}
use Rattle.std.proofs.Common.{arith, leb-true, le-ltb}
use Rattle.std.proofs.lemmas.List.{length-replicate}
use Rattle.model.specs.Bytes.{u16_at}
use Rattle.model.specs.Questions.{passes, layout_questions}
use Rattle.model.specs.Sections.{states_at, rows_at, problem_of}
use Rattle.guarantee.specs.WellFormed.{sectioned}
use Rattle.reading.specs.Tests.{index_for, index_size, small_rows, small_index, few_rows}

abbrev pub IndexRoom : List ℕ → List ℕ → Type 0
IndexRoom f index = layout_questions f ≡ passes → index_for (problem_of f).rows ≤ length index

pub large_room : (f : List ℕ) → IndexRoom f (replicate index_size 0)
unfolding problem_of
large_room f whole = let laid = sectioned f whole in omega (arith, length-replicate {A = ℕ} index_size 0)

pub small_room : (f : List ℕ) → few_rows f ≡ true → IndexRoom f (replicate small_index 0)
unfolding problem_of few_rows
small_room f few whole =
    let laid = sectioned f whole in
    let rows : u16_at f (rows_at f) ≤ small_rows =
    leb-true _ _
    (rw (
      le-ltb (length f) 2 (omega arith),
      le-ltb (length f) (states_at f + 2) (omega arith),
      le-ltb (length f) (rows_at f + 2) (omega arith),
    ) at few) in
    omega (arith, length-replicate {A = ℕ} small_index 0)
