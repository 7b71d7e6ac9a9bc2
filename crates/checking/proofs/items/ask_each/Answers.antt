-- `ask_each` answers the question about the first thing that fails the test, or passes.
use Rattle.std.proofs.Common.{◌∙◌, sym}
use Rattle.guarantee.specs.Loops.{search_goes_on}
use Rattle.checking.proofs.Searching.{ask_stops, ask_ends}
use Rattle.checking.proofs.items.ask_each.Goals as goal

pub returns-then-not-obeys : goal.returns-then-not-obeys
returns-then-not-obeys g c = λ test decides.
    let bad = sym (decides _ _ c.loop-k-test.true c.obeys.ensures) ∙ c.if-not-obeys.true in
    rw c.at.ensures (ask_stops _ _ _ test (c.loop-k.invariant test decides) c.loop-k-test.true bad)

pub loop-k-preserved : goal.loop-k-preserved
loop-k-preserved g c = λ test decides.
    let good = sym (decides _ _ c.loop-k-test.true c.obeys.ensures) ∙ c.if-not-obeys.false in
    c.loop-k.invariant test decides ∙ search_goes_on _ _ _ c.loop-k-test.true good

pub returns : goal.returns
returns g c = λ test decides.
    ask_ends _ _ _ test (c.loop-k.invariant test decides) c.loop-k.auto.k-end c.loop-k-test.false
