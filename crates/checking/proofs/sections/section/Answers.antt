-- `section` answers the first of a section's questions that fails, or where its items end: each return rewrites the chain with what
-- led there.
use Rattle.std.proofs.Common.{◌≡◌, ◌≤◌, ◌<◌, length, true, false, arith, le-leb}
use borrow.Author.Tests.{lt-leb}
use Rattle.model.specs.Bytes.{u16_at}
use Rattle.model.specs.Questions.{between, section_questions}
use Rattle.model.specs.Sections.{section_end}
use Rattle.checking.proofs.sections.section.Goals as goal

pub returns-then-file-i-clause-verdict : goal.returns-then-file-i-clause-verdict
unfolding section_questions
returns-then-file-i-clause-verdict c = simp (c.at.ensures, lt-leb _ _ c.if-file-i.true)

pub returns-then-not-is_between-clause-verdict : goal.returns-then-not-is_between-clause-verdict
unfolding section_questions
returns-then-not-is_between-clause-verdict c =
    let b : between c.args.low c.args.high (u16_at c.args.file.now c.args.i) ≡ false = cc in
    simp (c.at-then-not-is_between.ensures, le-leb _ _ c.if-file-i.false, b)

pub returns-then-file-end-clause-verdict : goal.returns-then-file-end-clause-verdict
unfolding section_questions
returns-then-file-end-clause-verdict c =
    let b : between c.args.low c.args.high (u16_at c.args.file.now c.args.i) ≡ true = cc in
    let e : length c.args.file.now < section_end c.args.size c.args.file.now c.args.i = omega arith in
    simp (c.at-then-file-end.ensures, le-leb _ _ c.if-file-i.false, b, lt-leb _ _ e)

pub returns-clause-verdict : goal.returns-clause-verdict
unfolding section_questions
returns-clause-verdict c =
    let b : between c.args.low c.args.high (u16_at c.args.file.now c.args.i) ≡ true = cc in
    let e : section_end c.args.size c.args.file.now c.args.i ≤ length c.args.file.now = omega arith in
    simp (le-leb _ _ c.if-file-i.false, b, le-leb _ _ e)
