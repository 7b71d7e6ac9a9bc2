-- `ask_each` puts a question to one thing after the other: whatever test decides it, what is left gives the same answer as the whole.
use Rattle.std.proofs.Common.{◌≡◌, ℕ, Bool, ◌<◌, ◌-◌}
use Rattle.model.specs.Search.{first}
use Rattle.checking.proofs.items.ask_each.Given as goal

abbrev pub invariant-loop-k : goal.invariant-loop-k
invariant-loop-k g l =
    (test : ℕ → Bool) → ((k : ℕ) (b : Bool) → k < l.n → goal.F-post g l.obeys k b → b ≡ test k)
    → first test 0 l.n ≡ first test l.k (l.n - l.k)
