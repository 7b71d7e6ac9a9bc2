-- `rate_sheet` hands out the table: the test over its 991 entries computes to yes, so that it is the sheet that is printed.
use Rattle.std.proofs.Common.{refl, rules}
use Rattle.model.specs.Sections.{length_seconds, rate_seconds}
use Rattle.rates.proofs.Tested.{sheet_tested, sheet_printed}
use Rattle.rates.proofs.rate_sheet.Goals as goal

pub invariant_of-result : goal.invariant_of-result
unfolding rate_seconds length_seconds
invariant_of-result c = record { rate_sheet = sheet_tested _ refl refl }

pub returns : goal.returns
returns c = search (rules, sheet_printed)
