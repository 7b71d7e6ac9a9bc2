-- `solve_entered` leaves the model's solution: the tables as the machine begins, its run, the list put, what the run carries.
use Rattle.std.proofs.Common.{refl, rules, arith}
use Rattle.solving.proofs.Answering.{room, start_runnable, run_leaves}
use Rattle.solving.proofs.solve.solve_entered.Goals as goal

pub begin-requires : goal.begin-requires
begin-requires c =
    let r = room c.args.problem c.requires.0 in
    record { values_long = r.values_long; picks_long = r.picks_long; remembered_long = r.remembered_long }

pub run-done-requires : goal.run-done-requires
run-done-requires c = (
  start_runnable c.args.problem c.requires.0 c.begin.ensures (omega (arith, c.args.problem.formed.states_high)) c.requires.1,
  (room c.args.problem c.requires.0).budget_high,
)

pub put_list-requires : goal.put_list-requires
put_list-requires c =
    let l = c.layout_of-l.ensures in
    let r = c.run-done.ensures.ran in (
      omega (arith, l.states_are, r.few),
      omega (arith, l.states_are, c.args.problem.formed.states_high),
      omega (arith, l.states_are, r.list_long),
      omega (arith, l.states_are, (room c.args.problem c.requires.0).list_long),
    )

pub returns : goal.returns
returns c =
    let h =
    run_leaves c.args.problem c.requires.0 c.begin.ensures c.settings-set.ensures.tolerance_is c.run-done.ensures.ran
    c.layout_of-l.ensures.states_are c.put_list.ensures refl in
    search (rules, h)
