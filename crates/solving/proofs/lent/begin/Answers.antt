-- `begin` makes the tables those of the machine as it starts: each row in turn remembers its value.
use Rattle.std.proofs.Common.{rules, arith, ◌≡◌}
use Rattle.guarantee.specs.Tables.{fill_next}
use Rattle.solving.proofs.Answering.{start_fits, begun}
use Rattle.solving.proofs.Filling.{fill_start, fill_with}
use Rattle.solving.proofs.lent.begin.Goals as goal

pub loop-r-init : goal.loop-r-init
loop-r-init c = search (rules, fill_start)

pub loop-r-preserved : goal.loop-r-preserved
loop-r-preserved c = search (rules, fill_next)

pub overflow_cast-remembered : goal.overflow_cast-remembered
overflow_cast-remembered c =
    let l = c.layout_of-l.ensures in
    let fits =
    start_fits c.args.problem c.requires l.states_are c.estimates.ensures c.loop-r.r (omega (arith, l.rows_are, c.loop-r-test.true)) in
    search (rules, fits, c.row_value.ensures.value_value)

pub returns : goal.returns
returns c =
    let l = c.layout_of-l.ensures in
    let all : c.loop-r.r ≡ c.layout_of-l.result.rows = omega (arith, c.loop-r.auto.r-end, c.loop-r-test.false) in
    begun c.args.problem c.requires l.states_are c.estimates.ensures l.rows_are
    (search (rules, fill_with)) (rw all at c.loop-r.invariant)
