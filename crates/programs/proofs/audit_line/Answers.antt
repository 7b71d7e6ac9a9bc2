-- `audit_line` audits what was read of the file and the tables, which has the audit of the whole, and puts its line.
use mathlib.Core.Path.{◌≡◌, refl, ◌∙◌}
use Prim.Native.Nat.{◌*◌, ◌≤◌, ◌<◌}
use lib.ListN.{length}
use Rattle.model.specs.Buffers.{line_most}
use Rattle.model.specs.Limits.{max_states}
use Rattle.guarantee.specs.Carries.{audited_known}
use Rattle.guarantee.specs.Prefixes.{longest_file}
use Rattle.printing.specs.Refusals.{audited_read}
use Rattle.programs.proofs.Planning.{read_front, audit_read, audits}
use native.Mathlib.Omega.{arith}
use Rattle.programs.proofs.audit_line.Goals as goal

pub returns-clause-audits : goal.returns-clause-audits
returns-clause-audits c =
    let file_long : longest_file < length c.args.file.now = omega (arith, c.front-problem.type_inv) in
    let values_long : length c.args.values.now ≡ 4 * max_states = omega (arith, c.front-value_bytes.type_inv) in
    let picks_long : length c.args.picks.now ≡ 2 * max_states = omega (arith, c.front-pick_bytes.type_inv) in
    let out-wide : line_most ≤ length c.args.out.now = omega (arith, c.audit_text.type_inv) in
    let line = rw (audited_read c.audit.result) at c.audit_text.ensures in
    λ f v p file values picks.
    audits
    (audited_known c.audit.result _ c.audit.ensures.result_value
    ∙ audit_read f v p (file_long) (read_front f c.args.file.now c.args.i refl file c.front-problem.ensures)
    (read_front v c.args.values.now c.args.j (values_long) values c.front-value_bytes.ensures)
    (read_front p c.args.picks.now c.args.k (picks_long) picks c.front-pick_bytes.ensures)
    c.table_of-n.auto.table c.table_of-m.auto.table c.table_of-n.ensures c.table_of-m.ensures)
    line.holds line.brief (out-wide)
