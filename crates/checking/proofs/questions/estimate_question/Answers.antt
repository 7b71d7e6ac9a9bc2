-- `estimate_question` answers question 11: each return hands over what the search found.
use native.Mathlib.Omega.{arith}
use Rattle.checking.proofs.Asking.{eleven_no, eleven_yes}
use Rattle.checking.proofs.questions.estimate_question.Goals as goal

pub returns-in-Some : goal.returns-in-Some
returns-in-Some c =
    rw c.at.ensures
    (eleven_no c.args.file.ready c.requires.2 _ c.requires.0 c.requires.1 c.estimates.ensures c.in-Some.ensures.1
    (omega (arith, c.in-Some.ensures.0, c.requires.0)))

pub returns : goal.returns
returns c =
    eleven_yes c.args.file.ready c.requires.2 _ c.requires.0 c.requires.1 c.estimates.ensures c.in_default.ensures
    (omega (arith, c.requires.0))
