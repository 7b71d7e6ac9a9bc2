-- `layout_of` reads the counts and where the sections begin off a file whose sections are whole.
use mathlib.Core.Path.{refl}
use Rattle.std.proofs.Common.{rules}
use Rattle.reading.proofs.Layouts.{settings_count, states_count, rows_count, outcomes_count, laid_out}
use Rattle.reading.proofs.layout.layout_of.Goals as goal

pub section_end-i1-requires : goal.section_end-i1-requires
section_end-i1-requires c = search (rules, settings_count)

pub section_end-i2-requires : goal.section_end-i2-requires
section_end-i2-requires c = search (rules, states_count)

pub section_end-i3-requires : goal.section_end-i3-requires
section_end-i3-requires c = search (rules, rows_count)

pub u16_at-requires : goal.u16_at-requires
u16_at-requires c = search (rules, states_count)

pub u16_at-requires-2 : goal.u16_at-requires-2
u16_at-requires-2 c = search (rules, rows_count)

pub overflow_add-result-3 : goal.overflow_add-result-3
overflow_add-result-3 c = search (rules, outcomes_count)

pub u16_at-requires-3 : goal.u16_at-requires-3
u16_at-requires-3 c = search (rules, outcomes_count)

pub returns : goal.returns
returns c =
    laid_out _ c.requires c.section_end-i1.ensures c.section_end-i2.ensures c.section_end-i3.ensures refl c.u16_at.ensures.0 refl
    c.u16_at-2.ensures.0 refl c.u16_at-3.ensures.0
