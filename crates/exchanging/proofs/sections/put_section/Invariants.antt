-- `put_section` puts the count, and then item after item.
use Rattle.model.specs.Encoding.{parts_to}
use Rattle.writing.specs.Pages.{Puts}
use Rattle.exchanging.proofs.sections.put_section.Given as goal

abbrev pub invariant-loop-i : goal.invariant-loop-i
invariant-loop-i g l = Puts l.initial.page l.page (parts_to (g.S.Section.text l.section) l.i)
