-- The cases of document 02's requests, as lists of statements about the definitions.
use Rattle.std.specs.Prelude.{◌≡◌, List, [], ◌∷◌, ◌++◌, pos, negsuc, set, replicate, take}
use Rattle.model.specs.Limits.{limits_of, plan_rounds}
use Rattle.model.specs.Value.{by_state}
use Rattle.model.specs.Sections.{length_seconds}
use Rattle.model.specs.Sections.{at_tolerance, problem_of}
use Rattle.model.specs.Questions.{passes, fails}
use Rattle.model.specs.Questions.{file_questions, file_questions_within}
use Rattle.model.specs.Carried.{counts}
use Rattle.model.specs.Solution.{solved, solution, solution_within}
use Rattle.model.specs.declared.Kind.TheVariants.{Plain}
use Rattle.model.specs.Audit.{accepted, refused as audit_refused, audit, audit_within}
use Rattle.model.specs.Following.{way_seconds, done, refused, opening}
use Rattle.model.specs.Following.{report, reports, accepted_of}
use Rattle.model.specs.Lines.{codes, plan_text}
use Rattle.model.specs.Promises.{plan_question}
use Rattle.model.specs.SetForm.{weight_to, set_form, exchange}
use Rattle.model.specs.Buffers.{written, refused as write_refused}
use Rattle.model.specs.Sheets.{rate_lines}
use Rattle.model.specs.CaseFiles.{file_p}
use Rattle.model.specs.CaseFiles.{rate_p, penalty_p, tied, tied_twice}
use Rattle.model.specs.CaseFiles.{tied_later, rounding, coarse, clogs, partner_p, form_p, lent, planned, printed, values_p}
use Rattle.model.specs.CaseFiles.{dearest, finishing, finished}
use Rattle.model.specs.CaseFiles.{picks_p, gives, values_gives, at, two, remainder_of}

-- the cases of document 02's requests
abbrev pub requested : List (Type 0)
requested =
    -- E1: a row of exactly 1000 × D is taken, at first and after values rose; of two such rows the earlier; where row 1 was picked
    -- and comes to tie with row 0, row 1 stays. Where each row is dearer, P's start gives up
    (printed tied 2 ≡ codes "solved 2 2 100000\n0 100000 0 0\n")
    ∷ (printed (penalty_p 114 1) 3 ≡ codes "solved 3 5 100000\n0 370000 0 0\n1 300000 2 0\n")
    ∷ (printed tied_twice 2 ≡ codes "solved 2 2 100000\n0 100000 0 0\n")
    ∷ (printed tied_later 3 ≡ codes "solved 3 6 100000\n0 200000 1 0\n1 100000 2 0\n")
    ∷ (printed (penalty_p 100 0) 3 ≡ codes "solved 3 2 100000\n0 100000 give 0\n")
    ∷ ((planned (penalty_p 100 0) 3).answer ≡ solved (counts 3 2 100000))
    ∷ ((planned (penalty_p 100 0) 3).tables.picks ≡ 65535 ∷ 65535 ∷ 65534 ∷ [])
    ∷ (file_questions tied ≡ passes)
    -- E2: P from opening, whatever the record held: outcome 0 of row 0 leads to state 1 in 100 s, outcome 0 of row 2 to the goal in 300 s
    -- more, and a goal ends it (20); row 0 has no outcome 2 (22)
    ∷ (opening file_p values_p picks_p (at 7 7 7 7) ≡ record { answer = done; left = at 0 0 0 0 })
    ∷ (report file_p values_p picks_p (at 0 0 0 0) 2 ≡ record { answer = refused 22 0 (pos 0); left = at 0 0 0 0 })
    ∷ (report file_p values_p picks_p (at 0 0 0 0) 0 ≡ record { answer = done; left = at 1 1 100 0 })
    ∷ (report file_p values_p picks_p (at 1 1 100 0) 0 ≡ record { answer = done; left = at 2 2 400 0 })
    ∷ (report file_p values_p picks_p (at 2 2 400 0) 0 ≡ record { answer = refused 20 0 (pos 0); left = at 2 2 400 0 })
    ∷ (reports file_p values_p picks_p (2 ∷ 0 ∷ 0 ∷ 0 ∷ []) (at 0 0 0 0) ≡ at 2 2 400 0)
    ∷ (accepted_of file_p values_p picks_p (2 ∷ 0 ∷ 0 ∷ 0 ∷ []) (at 0 0 0 0) ≡ 0 ∷ 0 ∷ [])
    ∷ (way_seconds (problem_of file_p) (by_state picks_p) 0 (0 ∷ 0 ∷ []) ≡ 400)
    -- P with D 100 gives up: outcome 0 only, which adds 100 s and sets the mark
    ∷ (opening (penalty_p 100 0) values_gives gives (at 7 7 7 7) ≡ record { answer = done; left = at 0 0 0 0 })
    ∷ (report (penalty_p 100 0) values_gives gives (at 0 0 0 0) 1 ≡ record { answer = refused 22 0 (pos 0); left = at 0 0 0 0 })
    ∷ (report (penalty_p 100 0) values_gives gives (at 0 0 0 0) 0 ≡ record { answer = done; left = at 0 1 100 1 })
    ∷ (report (penalty_p 100 0) values_gives gives (at 0 1 100 1) 0 ≡ record { answer = refused 20 0 (pos 0); left = at 0 1 100 1 })
    -- no state of P: not 20, but 21 at a million moves or above 400,000,000,000 seconds, and else 22; a mark that is set meets 20 first,
    -- and the audit's questions come before all
    ∷ ((report file_p values_p picks_p (at 3 1000000 0 0) 0).answer ≡ refused 21 0 (pos 0))
    ∷ ((report file_p values_p picks_p (at 3 999999 400000000001 0) 0).answer ≡ refused 21 0 (pos 0))
    ∷ ((report file_p values_p picks_p (at 3 999999 400000000000 0) 0).answer ≡ refused 22 0 (pos 0))
    ∷ ((report file_p values_p picks_p (at 3 1000000 0 2) 0).answer ≡ refused 20 0 (pos 0))
    ∷ ((report file_p (370001 ∷ 300000 ∷ 0 ∷ []) picks_p (at 3 1000000 0 2) 0).answer ≡ refused 17 0 (pos 1))
    -- E3: what the division leaves, of the averages above; a solved run, 333 × 1,498 being 498,834; and a spent one, of two rounds, 333 ×
    -- 1,333 being 443,889, where the values before the last round would leave 0
    ∷ (remainder_of (two 500 500) (1 ∷ 1 ∷ []) ≡ 0)
    ∷ (remainder_of (two 1 999) (999 ∷ 0 ∷ []) ≡ 999)
    ∷ (remainder_of (two 1 999) (1000 ∷ 0 ∷ []) ≡ 0)
    ∷ (printed rounding 2 ≡ codes "solved 8 8 1000\n0 1498 0 834\n")
    ∷ (plan_text (problem_of rounding) (solution Plain rounding 2 (lent 2)) ≡ codes "spent 2 2\n0 1333 0 889\n")
    -- E5: seconds that are rounded up, and some that come out even; the first two lines of a sheet
    ∷ (length_seconds 250 700 ≡ 215)
    ∷ (length_seconds 500 1000 ≡ 300)
    ∷ (length_seconds 550 999 ≡ 331)
    ∷ (rate_lines (length_seconds 1000) 2 ≡ codes "10 60000\n11 54546\n")
    -- E10: the largest row value that there is, 65,535,000 + 400,000,000, once state 1 has risen to giving up. It is evaluated, remembered and
    -- not picked
    ∷ (printed dearest 2 ≡ codes "solved 3 2 400000000\n0 400000000 give 0\n")
    ∷ ((planned dearest 2).tables.remembered ≡ 465535000 ∷ 7 ∷ [])
    ∷ []

-- and those of E6: P and what a partner made of it have one set form, of 66 bytes, which is its own. An output of 65 bytes is too short and
-- stays; of one of 68 the last two bytes stay; a file that is refused is refused first
abbrev pub forms : List (Type 0)
forms =
    (set_form file_p ≡ form_p)
    ∷ (set_form partner_p ≡ form_p)
    ∷ (set_form form_p ≡ form_p)
    ∷ (file_questions partner_p ≡ passes)
    ∷ (weight_to ((problem_of partner_p).outcomes 0) 1 ≡ 900)
    ∷ (exchange partner_p (replicate 65 7) ≡ record { answer = write_refused 23 0; left = replicate 65 7 })
    ∷ (exchange partner_p (replicate 68 7) ≡ record { answer = written 66; left = form_p ++ (7 ∷ 7 ∷ []) })
    ∷ (exchange (rate_p 9 0) [] ≡ record { answer = write_refused 8 1; left = [] })
    ∷ []

-- and those of E7: of each total the value of a row with its remainder, 33 × 1,492 being 49,236, 1,365 × 1,499 being 2,046,135, and
-- 3,333 × 1,499 being 4,996,167; count 4 with 1,000 is what count 3 is. 24 for 0, 999 and 65,536; 4 is asked before it, and 2 and 1 of the
-- counts and of a file that ends within the fourth setting. Weights go up to W and add to it, whatever it is
abbrev pub totals : List (Type 0)
totals =
    (printed (clogs 100 33 67) 2 ≡ codes "solved 9 9 1000\n0 1492 0 36\n")
    ∷ (printed (clogs 1000 333 667) 2 ≡ codes "solved 8 8 1000\n0 1498 0 834\n")
    ∷ (printed (clogs 4096 1365 2731) 2 ≡ codes "solved 9 9 1000\n0 1499 0 2231\n")
    ∷ (printed (clogs 10000 3333 6667) 2 ≡ codes "solved 9 9 1000\n0 1499 0 6167\n")
    ∷ (set_form (clogs 1000 333 667) ≡ rounding)
    ∷ (set_form rounding ≡ rounding)
    ∷ (set_form (clogs 4096 1365 2731) ≡ clogs 4096 1365 2731)
    ∷ (file_questions (clogs 0 333 667) ≡ fails 24 3)
    ∷ (file_questions (clogs 999 333 666) ≡ fails 24 3)
    ∷ (file_questions (clogs 65536 333 667) ≡ fails 24 3)
    ∷ (file_questions (set (clogs 0 333 667) 6 0) ≡ fails 4 1)
    ∷ (file_questions (set (set (clogs 0 333 667) 10 0) 11 0) ≡ fails 4 2)
    ∷ (file_questions (set (clogs 1000 333 667) 0 2) ≡ fails 2 0)
    ∷ (file_questions (set (clogs 1000 333 667) 0 5) ≡ fails 2 0)
    ∷ (file_questions (take 17 (clogs 1000 333 667)) ≡ fails 1 0)
    ∷ (file_questions (clogs 100 333 667) ≡ fails 10 0)
    ∷ (file_questions (clogs 10000 333 667) ≡ fails 10 0)
    ∷ (file_questions (clogs 4096 4097 0) ≡ fails 10 0)
    ∷ []

-- and those of E8: with e 100 the plain run ends 37 ticks under its pick, 1,000 + 333 × 1,443 / 1,000 being 1,480, which the audit takes
-- under 100 and not under 1. The finishing run goes on to the tick, and both take it; with 4 rounds it is spent where the plain run is
-- solved, with 2 before. P, which the plain run solves in 3 rounds to the tick, takes one more
abbrev pub finishings : List (Type 0)
finishings =
    ((finishing coarse plan_rounds 2).answer ≡ solved (counts 9 9 1000))
    ∷ ((finishing coarse plan_rounds 2).tables.picks ≡ 0 ∷ 65534 ∷ [])
    ∷ (printed coarse 2 ≡ codes "solved 4 4 1000\n0 1443 0 519\n")
    ∷ (audit coarse (1443 ∷ 0 ∷ []) (0 ∷ 65534 ∷ []) ≡ accepted 1000)
    ∷ (audit (at_tolerance 1 coarse) (1443 ∷ 0 ∷ []) (0 ∷ 65534 ∷ []) ≡ audit_refused 19 0 (negsuc 36))
    ∷ (finished coarse plan_rounds 2 ≡ codes "solved 9 9 1000\n0 1498 0 834\n")
    ∷ (audit coarse (1498 ∷ 0 ∷ []) (0 ∷ 65534 ∷ []) ≡ accepted 1000)
    ∷ (audit (at_tolerance 1 coarse) (1498 ∷ 0 ∷ []) (0 ∷ 65534 ∷ []) ≡ accepted 1000)
    ∷ (finished coarse 8 2 ≡ codes "spent 8 8\n0 1498 0 834\n")
    ∷ (finished coarse 4 2 ≡ codes "spent 4 4\n0 1443 0 519\n")
    ∷ (finished coarse 2 2 ≡ codes "spent 2 2\n0 1333 0 889\n")
    ∷ (finished file_p plan_rounds 3 ≡ codes "solved 4 7 100000\n0 370000 0 0\n1 300000 2 0\n")
    ∷ (at_tolerance 1 coarse ≡ rounding)
    ∷ []

-- and those of E9: within limits of P's own counts, 3 states, 3 rows and 4 outcomes, and so with 3 marks, P passes and has its plan and its
-- audit; within less of one of them it meets question 2 at that section. An input of a byte more than `plan` holds meets 25 before
-- anything else
abbrev pub longer : List (Type 0)
longer =
    (file_questions_within (limits_of 3 3 4) file_p ≡ passes)
    ∷ (file_questions_within (limits_of 2 3 4) file_p ≡ fails 2 1)
    ∷ (file_questions_within (limits_of 3 2 4) file_p ≡ fails 2 2)
    ∷ (file_questions_within (limits_of 3 3 3) file_p ≡ fails 2 3)
    ∷ (solution_within (limits_of 3 3 4) Plain file_p plan_rounds (lent 3) ≡ planned file_p 3)
    ∷ (audit_within (limits_of 3 3 4) file_p values_p picks_p ≡ accepted 100000)
    ∷ (plan_question (replicate 65536 0) ≡ passes)
    ∷ (plan_question (replicate 65537 0) ≡ fails 25 0)
    ∷ []
