-- `questions` puts questions 12 and 13 in order: the first that fails is the answer. Each test is found by its numbers, and not by its
-- name, so that questions in another order are refused for what they answer.
use Rattle.std.specs.Prelude.{length}
use Rattle.std.proofs.Common.{refl, le-leb, arith, rules}
use Rattle.std.proofs.lemmas.Bool.{lt-leb}
use Rattle.model.specs.Limits.{max_budget}
use Rattle.model.specs.Solution.{solve_questions}
use Rattle.solving.proofs.Tables.questions.Goals as goal

pub returns-then-self-l : goal.returns-then-self-l
unfolding solve_questions
returns-then-self-l c =
    let l = c.layout_of-l.ensures in
    let states = c.layout_of-l.result.states in
    rw (← l.states_are, ← l.rows_are, lt-leb states (length c.args.self.now.values.now) (omega arith)) (search rules)

pub returns-then-self-l-2 : goal.returns-then-self-l-2
unfolding solve_questions
returns-then-self-l-2 c =
    let l = c.layout_of-l.ensures in
    let states = c.layout_of-l.result.states in
    rw (
      ← l.states_are,
      ← l.rows_are,
      le-leb states (length c.args.self.now.values.now) (omega arith),
      lt-leb states (length c.args.self.now.picks.now) (omega arith),
    )
    (search rules)

pub returns-then-self-l-3 : goal.returns-then-self-l-3
unfolding solve_questions
returns-then-self-l-3 c =
    let l = c.layout_of-l.ensures in
    let states = c.layout_of-l.result.states in
    rw (
      ← l.states_are,
      ← l.rows_are,
      le-leb states (length c.args.self.now.values.now) (omega arith),
      le-leb states (length c.args.self.now.picks.now) (omega arith),
      lt-leb c.layout_of-l.result.rows (length c.args.self.now.remembered.now) (omega arith),
    )
    (search rules)

pub returns-then-self-l-4 : goal.returns-then-self-l-4
unfolding solve_questions
returns-then-self-l-4 c =
    let l = c.layout_of-l.ensures in
    let states = c.layout_of-l.result.states in
    rw (
      ← l.states_are,
      ← l.rows_are,
      le-leb states (length c.args.self.now.values.now) (omega arith),
      le-leb states (length c.args.self.now.picks.now) (omega arith),
      le-leb c.layout_of-l.result.rows (length c.args.self.now.remembered.now) (omega arith),
      lt-leb states (length c.args.self.now.walk.now) (omega arith),
    )
    (search rules)

pub returns-then-budget-gt-MAX_BUDGET : goal.returns-then-budget-gt-MAX_BUDGET
unfolding solve_questions
returns-then-budget-gt-MAX_BUDGET c =
    let l = c.layout_of-l.ensures in
    let states = c.layout_of-l.result.states in
    rw (
      ← l.states_are,
      ← l.rows_are,
      le-leb states (length c.args.self.now.values.now) (omega arith),
      le-leb states (length c.args.self.now.picks.now) (omega arith),
      le-leb c.layout_of-l.result.rows (length c.args.self.now.remembered.now) (omega arith),
      le-leb states (length c.args.self.now.walk.now) (omega arith),
      lt-leb c.args.budget max_budget (omega arith),
    )
    (search rules)

pub returns : goal.returns
unfolding solve_questions
returns c =
    let l = c.layout_of-l.ensures in
    let states = c.layout_of-l.result.states in
    rw (
      ← l.states_are,
      ← l.rows_are,
      le-leb states (length c.args.self.now.values.now) (omega arith),
      le-leb states (length c.args.self.now.picks.now) (omega arith),
      le-leb c.layout_of-l.result.rows (length c.args.self.now.remembered.now) (omega arith),
      le-leb states (length c.args.self.now.walk.now) (omega arith),
      le-leb c.args.budget max_budget (omega arith),
    )
    refl
