-- `setting_questions` answers questions 4 and 24: each return rewrites the chain with the tests that led there.
use Rattle.std.proofs.Common.{◌≡◌, ◌≤◌, ◌<◌, true, false, arith}
use borrow.Author.Tests.{lt-ltb, le-ltb}
use Rattle.model.specs.Limits.{max_tolerance, max_penalty, weight_totals}
use Rattle.model.specs.Questions.{between, setting_questions}
use Rattle.model.specs.Search.{one_of}
use Rattle.checking.proofs.items.setting_questions.Goals as goal

pub returns-then-states-set : goal.returns-then-states-set
unfolding setting_questions
returns-then-states-set c =
    record { says = λ p a b d e w. let h : p.states ≤ p.start = omega arith in rw (c.at.ensures, le-ltb _ _ h) }

pub returns-then-not-tolerance : goal.returns-then-not-tolerance
unfolding setting_questions
returns-then-not-tolerance c = record {
  says = λ p a b d e w.
      let s : p.start < p.states = omega arith in
      let t : between 1 max_tolerance p.tolerance ≡ false = cc in
      rw (c.at-then-not-tolerance.ensures, lt-ltb _ _ s, t);
}

pub returns-then-not-penalty : goal.returns-then-not-penalty
unfolding setting_questions
returns-then-not-penalty c = record {
  says = λ p a b d e w.
      let s : p.start < p.states = omega arith in
      let t : between 1 max_tolerance p.tolerance ≡ true = cc in
      let k : between 1 max_penalty p.penalty ≡ false = cc in
      rw (c.at-then-not-penalty.ensures, lt-ltb _ _ s, t, k);
}

pub returns-then-not-total : goal.returns-then-not-total
unfolding setting_questions
returns-then-not-total c = record {
  says = λ p a b d e w.
      let s : p.start < p.states = omega arith in
      let t : between 1 max_tolerance p.tolerance ≡ true = cc in
      let k : between 1 max_penalty p.penalty ≡ true = cc in
      let m : one_of p.total weight_totals ≡ false = cc in
      rw (c.at-then-not-total.ensures, lt-ltb _ _ s, t, k, m);
}

pub returns : goal.returns
unfolding setting_questions
returns c = record {
  says = λ p a b d e w.
      let s : p.start < p.states = omega arith in
      let t : between 1 max_tolerance p.tolerance ≡ true = cc in
      let k : between 1 max_penalty p.penalty ≡ true = cc in
      let m : one_of p.total weight_totals ≡ true = cc in
      rw (lt-ltb _ _ s, t, k, m);
}
