-- "Melt-room cases": the starred items of document 01, and what else is worth computing of its rules, as lists of statements about the
-- definitions.
use Rattle.std.specs.Prelude.{◌≡◌, ℕ, List, [], ◌∷◌, pos, negsuc}
use Rattle.model.specs.Sections.{rate_seconds}
use Rattle.model.specs.Questions.{passes, fails}
use Rattle.model.specs.Questions.{file_questions}
use Rattle.model.specs.Carried.{counts}
use Rattle.model.specs.Solution.{solved}
use Rattle.model.specs.Audit.{Audited, accepted, audit}
use Rattle.model.specs.Lines.{codes}
use Rattle.model.specs.Lines.{audit_line}
use Rattle.model.specs.Buffers.{copied}
use Rattle.model.specs.Answers.{verdict_carries}
use Rattle.model.specs.Interface.{plain_numbers}
use Rattle.model.specs.TableFiles.{bytes32, entries16}
use Rattle.model.specs.CaseFiles.{file_p}
use Rattle.model.specs.CaseFiles.{rate_p, tolerance_p, estimate_p, one_state}
use Rattle.model.specs.CaseFiles.{planned, printed, values_p}
use Rattle.model.specs.CaseFiles.{picks_p, text_p, two, average_of}

-- the starred items, in the paper's order, with state lines as E3 has them: each is a statement, and the list is proved as one below
abbrev pub cases : List (Type 0)
cases =
    (printed file_p 3 ≡ text_p)
    ∷ (rate_seconds 10 ≡ 60000)
    ∷ (rate_seconds 700 ≡ 858)
    ∷ (rate_seconds 999 ≡ 601)
    ∷ (rate_seconds 1000 ≡ 600)
    ∷ (file_questions (rate_p 9 0) ≡ fails 8 1)
    ∷ (file_questions (rate_p 233 3) ≡ fails 8 1)
    ∷ (average_of (two 500 500) (1 ∷ 1 ∷ []) ≡ 1)
    ∷ (average_of (two 1 999) (999 ∷ 0 ∷ []) ≡ 0)
    ∷ (average_of (two 1 999) (1000 ∷ 0 ∷ []) ≡ 1)
    ∷ (file_questions [] ≡ fails 1 0)
    ∷ (file_questions (tolerance_p 231 3) ≡ passes)
    ∷ (file_questions (tolerance_p 232 3) ≡ fails 4 1)
    ∷ (file_questions (estimate_p 160) ≡ passes)
    ∷ (file_questions (estimate_p 161) ≡ fails 11 0)
    ∷ (audit file_p values_p picks_p ≡ accepted 100000)
    ∷ (audit file_p (370001 ∷ 300000 ∷ 0 ∷ []) picks_p ≡ Audited.refused 17 0 (pos 1))
    ∷ (audit file_p (369999 ∷ 300000 ∷ 0 ∷ []) picks_p ≡ Audited.refused 19 0 (negsuc 0))
    ∷ (printed one_state 1 ≡ codes "solved 2 0 1000\n0 1000 give 0\n")
    ∷ []

-- what else is worth computing: P and the one-state file in full, a line of the audit, the bytes of tables, a refusal as C gets it
abbrev pub others : List (Type 0)
others =
    (file_questions file_p ≡ passes)
    ∷ ((planned file_p 3).answer ≡ solved (counts 3 5 100000))
    ∷ ((planned file_p 3).tables.values ≡ values_p)
    ∷ ((planned file_p 3).tables.picks ≡ picks_p)
    ∷ ((planned file_p 3).tables.walk_list ≡ 1 ∷ 0 ∷ 65535 ∷ [])
    ∷ ((planned one_state 1).answer ≡ solved (counts 2 0 1000))
    ∷ ((planned one_state 1).tables.values ≡ 1000 ∷ [])
    ∷ ((planned one_state 1).tables.picks ≡ 65535 ∷ [])
    ∷ ((planned one_state 1).tables.walk_list ≡ 0 ∷ [])
    ∷ (audit_line (audit file_p (369999 ∷ 300000 ∷ 0 ∷ []) picks_p) ≡ codes "refused 19 0 -1\n")
    ∷ (bytes32 (258 ∷ []) ≡ 2 ∷ 1 ∷ 0 ∷ 0 ∷ [])
    ∷ (entries16 (2 ∷ 1 ∷ 7 ∷ []) ≡ 258 ∷ [])
    ∷ (plain_numbers (verdict_carries (file_questions (rate_p 9 0))) ≡ (0, 8, 1, 0))
    ∷ (copied {A = ℕ} (8 ∷ 1 ∷ 0 ∷ []) (7 ∷ 7 ∷ 7 ∷ 7 ∷ []) ≡ 8 ∷ 1 ∷ 0 ∷ 7 ∷ [])
    ∷ []
