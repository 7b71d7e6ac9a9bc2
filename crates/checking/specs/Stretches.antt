-- What the stretches of questions ask for and answer: the verdict, what the index holds, and what stands where they pass.
use Rattle.std.specs.Prelude.{◌≡◌, ℕ, true, List}
use Rattle.model.specs.Limits.{weight_totals}
use Rattle.model.specs.Questions.{Verdict, passes, ◌then◌, layout_questions, setting_questions, item_questions}
use Rattle.model.specs.Questions.{row_number_question, row_question, outcome_number_question, outcome_question}
use Rattle.model.specs.Questions.{estimate_question, file_questions}
use Rattle.model.specs.Search.{one_of}
use Rattle.model.specs.Sections.{problem_of}
use Rattle.reading.specs.declared.layout.Layout.{Layout}
use Rattle.checking.specs.IndexLeft.{rows_left, items_left, index_left}
use Rattle.reading.specs.Laid.{LaidOut}
use Rattle.reading.specs.Ready.{Indexed, Ready}

-- questions 1 to 3 have said yes, and this is the layout
pub record RowsAsked (f : List ℕ) (l : Layout) : Type 0 where
  pub whole : layout_questions f ≡ passes
  pub laid : LaidOut f l

-- questions 7 to 9
pub record RowsAnswered (f before after : List ℕ) (said : Verdict) : Type 0 where
  pub verdict : said ≡ (row_number_question (problem_of f) then row_question f (problem_of f) then outcome_number_question f (problem_of f))
  pub left : after ≡ rows_left f before
  pub indexed : said ≡ passes → Indexed f after

pub record ValuesAsked (f index : List ℕ) (l : Layout) : Type 0 where
  pub laid : LaidOut f l
  pub total_known : one_of (problem_of f).total weight_totals ≡ true
  pub indexed : Indexed f index

-- questions 10 and 11
pub record ValuesAnswered (f index : List ℕ) (said : Verdict) : Type 0 where
  pub verdict : said ≡ (outcome_question (problem_of f) then estimate_question (problem_of f))
  pub ready : said ≡ passes → Ready f index

-- questions 4 to 11
pub record ItemsAnswered (f before after : List ℕ) (said : Verdict) : Type 0 where
  pub verdict : said ≡ (setting_questions (problem_of f) then item_questions f (problem_of f))
  pub left : after ≡ items_left f before
  pub ready : said ≡ passes → Ready f after

-- questions 1 to 11
pub record FileAnswered (f before after : List ℕ) (said : Verdict) : Type 0 where
  pub verdict : said ≡ file_questions f
  pub left : after ≡ index_left f before
  pub ready : said ≡ passes → Ready f after
