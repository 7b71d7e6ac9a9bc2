-- `with_index` calls `f` at an index with room for the file's rows, and answers what `f` does.
use mathlib.Core.Path.{◌∙◌, refl, sym}
use Rattle.reading.proofs.index.with_index.Goals as goal

pub returns-then-has_few_rows : goal.returns-then-has_few_rows
returns-then-has_few_rows g c =
    let few = sym c.has_few_rows.ensures ∙ c.if-has_few_rows.true in
    (_, _, c.small_index-index.ensures _ few, record { shown = _; shows = refl; left = _; called = c.f.ensures; leaves = refl })

pub returns : goal.returns
returns g c = (_, _, c.large_index-index.ensures _, record { shown = _; shows = refl; left = _; called = c.f-2.ensures; leaves = refl })
