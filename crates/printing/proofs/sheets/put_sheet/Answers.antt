-- `put_sheet` puts a line for each rate: so many rates are done as turns.
use Rattle.std.proofs.Common.{◌≡◌, ◌+◌, ◌-◌, ◌≤◌, arith}
use Rattle.model.specs.Limits.{min_rate, rate_count}
use Rattle.model.specs.Sections.{length_seconds}
use Rattle.writing.specs.Pages.{puts_nothing, puts_more}
use Rattle.printing.proofs.Sheeting.{no_rates, rates_next}
use Rattle.printing.proofs.sheets.put_sheet.Goals as goal

pub loop-rate-init : goal.loop-rate-init
loop-rate-init c = puts_nothing _ (no_rates _)

pub loop-rate-preserved : goal.loop-rate-preserved
loop-rate-preserved c =
    let rate = c.loop-rate.rate in
    let low : min_rate ≤ rate = c.loop-rate.auto.rate in
    let done : rate + 1 - min_rate ≡ rate - min_rate + 1 = omega arith in
    let next = rates_next (length_seconds c.args.mm) (rate - min_rate) {rate = rate} (omega arith) in
    rw (done, next) (puts_more c.loop-rate.invariant c.put_rate.ensures)

pub returns : goal.returns
returns c = let all : c.loop-rate.rate - min_rate ≡ rate_count = omega (arith, c.loop-rate.auto.rate-end) in rw all at c.loop-rate.invariant
