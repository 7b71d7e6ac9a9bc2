-- `audit` promises of the questions' answer what follows from the audit's answer.
use Rattle.std.proofs.Common.{rules}
use Rattle.auditing.proofs.Promised.{promised_close, promised_excess}
use Rattle.auditing.proofs.audit.Goals as goal

pub returns-clause-close : goal.returns-clause-close
returns-clause-close c = promised_close _ _ _ c.with_index.result (search rules)

pub returns-clause-excess : goal.returns-clause-excess
returns-clause-excess c =
    promised_excess c.args.file.now c.args.values.now c.args.picks.now c.with_index.result (search rules)
