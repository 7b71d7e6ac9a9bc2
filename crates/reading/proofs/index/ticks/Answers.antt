-- `ticks` answers the cost in ticks: the seconds of 16 bits that the row has, or that the sheet has for its rate.
use borrow.Author.Tests.{eq-eqb, ne_eqb}
use Rattle.model.specs.Sections.{seconds_on}
use Rattle.reading.proofs.RowEntries.{seconds_fit, rate_fits}
use native.Mathlib.Omega.{arith}
use Rattle.reading.proofs.index.ticks.Goals as goal

pub overflow_mul-result : goal.overflow_mul-result
overflow_mul-result c = let h = seconds_fit _ _ c.requires c.if-kind-eq0.true in omega arith

pub rate_seconds-requires : goal.rate_seconds-requires
rate_seconds-requires c = let h = rate_fits _ _ c.requires c.if-kind-eq0.false in (h.0, h.1)

pub returns-then-kind-eq0 : goal.returns-then-kind-eq0
unfolding seconds_on
returns-then-kind-eq0 c = rw (eq-eqb _ _ c.if-kind-eq0.true)

pub returns-else-kind-eq0 : goal.returns-else-kind-eq0
unfolding seconds_on
returns-else-kind-eq0 c = rw (ne_eqb _ _ c.if-kind-eq0.false, c.from.ensures, c.rate_seconds.ensures)
