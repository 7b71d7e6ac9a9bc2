-- `solve_file` puts questions 1 to 13 in order, and solves where they all say yes. A no leaves the tables as they were lent.
use Rattle.std.proofs.Common.{refl, sym}
use Rattle.std.proofs.lemmas.Result.{err_from_is_err_and}
use Rattle.guarantee.specs.WellFormed.{well_formed}
use Rattle.solving.proofs.Answering.{file_refused, tables_refused}
use Rattle.solving.proofs.solve.solve_file.Goals as goal

pub returns-in_err-questions-clause-solved : goal.returns-in_err-questions-clause-solved
returns-in_err-questions-clause-solved c =
    let p = err_from_is_err_and c.from_residual.result c.from_residual.ensures.1 in
    let about = c.in_err-questions.ensures in
    rw (p.1, p.2)
    (record { leaves = file_refused _ _ _ _ about.verdict; left = about.left; ready = λ ran. absurd (ran refl) })

pub invariant_of-problem : goal.invariant_of-problem
invariant_of-problem c =
    let about = c.in_ok-questions.ensures in
    record { ready = about.ready refl; formed = well_formed _ (sym about.verdict) }

pub returns-in_err-questions-2-clause-solved : goal.returns-in_err-questions-2-clause-solved
returns-in_err-questions-2-clause-solved c =
    let p = err_from_is_err_and c.from_residual-in_err-questions-2.result c.from_residual-in_err-questions-2.ensures.1 in
    let about = c.in_ok-questions.ensures in
    rw (p.1, p.2)
    (record {
      leaves = tables_refused _ _ _ _ about.verdict c.in_err-questions-2.ensures;
      left = about.left;
      ready = λ ran. absurd (ran refl);
    })

pub solve_ready-requires : goal.solve_ready-requires
solve_ready-requires c = record { file_passes = sym c.in_ok-questions.ensures.verdict; tables_pass = sym c.in_ok-questions-2.ensures }
