-- An answer that is the audit's: an accepted one is close, and a refusal's excess has its sign.
use mathlib.Core.Path.{◌≡◌, sym}
use Prim.Native.Nat.{ℕ}
use mathlib.Core.Bool.{true≢false}
use mathlib.Core.List.{List}
use Rattle.std.proofs.Common.{Result, Ok, Err}
use Rattle.model.specs.Answers.{audited_of, audit_carries}
use Rattle.model.specs.Audit.{audit}
use Rattle.model.specs.Carried.{Said}
use Rattle.model.specs.Promises.{Close, ExcessFits}
use Rattle.model.specs.Sections.{problem_of}
use Rattle.model.specs.Value.{by_state}
use Rattle.model.specs.declared.AuditRefusal.{AuditRefusal}
use Rattle.guarantee.proofs.Closeness.{audit_close}
use Rattle.guarantee.specs.Excess.{audit_excess}

module _ (f values picks : List ℕ) where
  pub promised_close : (r : Result ℕ AuditRefusal) → audited_of r ≡ audit f values picks
      → (audit_carries r).said ≡ Said.accepted
      → Close (problem_of f) (problem_of f).tolerance (by_state values) (by_state picks) (audit_carries r).counts.least
  promised_close (Ok least) e h = audit_close f values picks least (sym e)
  promised_close (Err r) e h = absurd (true≢false (cc))

  pub promised_excess : (r : Result ℕ AuditRefusal) → audited_of r ≡ audit f values picks
      → (audit_carries r).said ≡ Said.refused
      → ExcessFits (problem_of f).tolerance (audit_carries r).question (audit_carries r).excess
  promised_excess (Ok least) e h = absurd (true≢false (cc))
  promised_excess (Err r) e h = audit_excess f values picks _ _ _ (sym e)
