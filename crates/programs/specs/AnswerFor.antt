-- An answer is that of a file: a run of some kind, with some budget and some lent tables, has it, so that a file with a run has passed its
-- questions.
use Rattle.std.specs.Prelude.{◌≡◌, ℕ, List}
use Rattle.model.specs.declared.Kind.{Kind}
use Rattle.model.specs.Solution.{Answer, Tables, solution}

pub record AnswerFor (f : List ℕ) (a : Answer) : Type 0 where
  pub kind : Kind
  pub budget : ℕ
  pub lent : Tables
  pub answer_is : a ≡ (solution kind f budget lent).answer
