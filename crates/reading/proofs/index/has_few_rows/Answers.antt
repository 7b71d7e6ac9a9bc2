-- `has_few_rows` looks for the counts in turn, as the definition does.
use Rattle.reading.specs.Begins.{states_at-is, rows_at-is}
use Rattle.reading.proofs.FewRows.{no_counts_lem, no_states, no_rows, rows_there}
use Rattle.reading.proofs.index.has_few_rows.Goals as goal

pub returns-then-file-lt2 : goal.returns-then-file-lt2
returns-then-file-lt2 c = no_counts_lem _ c.if-file-lt2.true

pub returns-then-file-i1 : goal.returns-then-file-i1
returns-then-file-i1 c = no_states _ c.if-file-lt2.false (states_at-is _ _ c.section_end-i1.ensures) c.if-file-i1.true

pub returns-then-file-i2 : goal.returns-then-file-i2
returns-then-file-i2 c =
    let i1 = states_at-is _ _ c.section_end-i1.ensures in
    no_rows _ c.if-file-lt2.false i1 c.if-file-i1.false (rows_at-is _ _ _ c.section_end-i2.ensures i1) c.if-file-i2.true

pub returns : goal.returns
returns c =
    let i1 = states_at-is _ _ c.section_end-i1.ensures in
    rows_there _ c.if-file-lt2.false i1 c.if-file-i1.false (rows_at-is _ _ _ c.section_end-i2.ensures i1) c.if-file-i2.false c.u16_at.ensures.0
