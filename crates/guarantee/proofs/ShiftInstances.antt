-- The theorems about following speak of something: each that has hypotheses is cited where they are met, on P, on P with D 100, and in a
-- shift of a million moves on a file whose row leads back to its state.
use Rattle.std.specs.Prelude.{◌≡◌, refl, ℕ, zero, suc, ◌+◌, ◌≤◌, ◌<◌, false, List, [], ◌∷◌, pos, get_or, length, replicate}
use Rattle.std.proofs.Common.{◌∙◌, ap, arith, le-leb, lt-ltb}
use Rattle.model.specs.Bytes.{u16_at, u32_at}
use Rattle.model.specs.Limits.{max_moves, max_spent}
use Rattle.model.specs.CaseFiles.{file_p, penalty_p, rounding, values_p, picks_p, gives, values_gives, at}
use Rattle.model.proofs.Computed.{cases_hold, requested_hold}
use Rattle.model.specs.Search.{sum_to}
use Rattle.model.specs.Value.{by_state}
use Rattle.model.specs.Sections.{states_at, rows_at, outcomes_at, outcomes_from, seconds_on, problem_of}
use Rattle.model.specs.Walk.{Reached, successors}
use Rattle.model.specs.Audit.{accepted, audit}
use Rattle.model.specs.Following.{leads_to, move_seconds, way_to, way_seconds, has_outcome, report_questions, done}
use Rattle.model.specs.Following.{refused as report_refused, Report, opening, moved, report, report_within, reports}
use Rattle.model.specs.declared.Follower.{Follower}
use Rattle.guarantee.proofs.Guarantee.{audit_asked_first, opens_at_start, opens_on_accepted, refused_opening, refused_report}
use Rattle.guarantee.proofs.Guarantee.{giving_up_report, row_report, after, taken, follows_state, follows_moves}
use Rattle.guarantee.proofs.Guarantee.{follows_seconds, follows_reached, follows_on, refused_for_outcome, refused_for_moves}
use Rattle.guarantee.proofs.Guarantee.{goal_ends, giving_up_ends}
use Rattle.guarantee.proofs.Instances.{problem_p, values_r, picks_r, computed}

-- E2 on P: a follower opened on its answer, and the reports 2, 0, 0, 0. The first is refused, the next two lead to the goal in 400 s
abbrev pub reports_p : List ℕ
reports_p = 2 ∷ 0 ∷ 0 ∷ 0 ∷ []

pub p_opens : (opening file_p values_p picks_p (at 7 7 7 7)).answer ≡ done
p_opens = ap (λ (r : Report). r.answer) requested_hold.1.1.1.1.1.1.1.1.0

p_opened : (opening file_p values_p picks_p (at 7 7 7 7)).left ≡ at 0 0 0 0
p_opened = ap (λ (r : Report). r.left) requested_hold.1.1.1.1.1.1.1.1.0

pub p_opens_accepted : (C : ℕ) × (audit file_p values_p picks_p ≡ accepted C)
p_opens_accepted = opens_on_accepted file_p values_p picks_p (at 7 7 7 7) p_opens

-- with a value too high the audit refuses, and so do an opening and what follows it
abbrev pub dear_p : List ℕ
dear_p = 370001 ∷ 300000 ∷ 0 ∷ []

pub dear_refused
    : (opening file_p dear_p picks_p (at 7 7 7 7) ≡ record { answer = report_refused 17 0 (pos 1); left = at 7 7 7 7 })
    × ((o : ℕ) → report file_p dear_p picks_p (at 7 7 7 7) o ≡ record { answer = report_refused 17 0 (pos 1); left = at 7 7 7 7 })
dear_refused =
    audit_asked_first file_p dear_p picks_p 17 0 (pos 1) cases_hold.1.1.1.1.1.1.1.1.1.1.1.1.1.1.1.1.0 (at 7 7 7 7)

pub dear_stays
    : ((opening file_p dear_p picks_p (at 7 7 7 7)).left ≡ at 7 7 7 7)
    × ((os : List ℕ) → reports file_p dear_p picks_p os (opening file_p dear_p picks_p (at 7 7 7 7)).left ≡ at 7 7 7 7)
dear_stays =
    refused_opening file_p dear_p picks_p (at 7 7 7 7) 17 0 (pos 1) (ap (λ (r : Report). r.answer) dear_refused.0)

-- one report of P: outcome 2 is refused, and outcome 0 of row 0 is done

p_refuses_2 : (report file_p values_p picks_p (at 0 0 0 0) 2).answer ≡ report_refused 22 0 (pos 0)
p_refuses_2 = ap (λ (r : Report). r.answer) requested_hold.1.1.1.1.1.1.1.1.1.0

pub p_stays : (report file_p values_p picks_p (at 0 0 0 0) 2).left ≡ at 0 0 0 0
p_stays = refused_report file_p values_p picks_p (at 0 0 0 0) 2 22 0 (pos 0) p_refuses_2

pub p_moves
    : (0 < length (problem_p.outcomes 0)) × ((report file_p values_p picks_p (at 0 0 0 0) 0).left
    ≡ at (get_or (successors problem_p 0) 0 0) 1 (0 + problem_p.cost 0) 0)
p_moves =
    row_report file_p values_p picks_p (at 0 0 0 0) 0
    (ap (λ (r : Report). r.answer) requested_hold.1.1.1.1.1.1.1.1.1.1.0) (λ e. omega (arith, e))

-- after no report, outcome 0 is done, and outcome 2 is refused for itself

p_begins : after file_p values_p picks_p (at 7 7 7 7) p_opens [] ≡ at 0 0 0 0
unfolding reports
p_begins = p_opened

pub p_goes_on : (report file_p values_p picks_p (after file_p values_p picks_p (at 7 7 7 7) p_opens []) 0).answer ≡ done
unfolding has_outcome problem_of states_at rows_at outcomes_at outcomes_from sum_to u16_at
p_goes_on =
    follows_on file_p values_p picks_p (at 7 7 7 7) p_opens [] (rw p_begins refl) (rw p_begins refl) (rw p_begins (omega arith)) 0
    (rw p_begins refl)

pub p_no_outcome : has_outcome problem_p (by_state picks_p (after file_p values_p picks_p (at 7 7 7 7) p_opens []).state) 2 ≡ false
p_no_outcome =
    (refused_for_outcome file_p values_p picks_p (at 7 7 7 7) p_opens [] 2 0 (pos 0) (rw p_begins p_refuses_2)).2

pub p_follows : after file_p values_p picks_p (at 7 7 7 7) p_opens reports_p ≡ at 2 2 400 0
p_follows = rw p_opened requested_hold.1.1.1.1.1.1.1.1.1.1.1.1.1.0

-- what the accepted ones lead to, their number, their seconds; and the state is reached
pub p_came
    : ((after file_p values_p picks_p (at 7 7 7 7) p_opens reports_p).state
    ≡ way_to problem_p (by_state picks_p) problem_p.start (taken file_p values_p picks_p (at 7 7 7 7) p_opens reports_p))
    × ((after file_p values_p picks_p (at 7 7 7 7) p_opens reports_p).moves
    ≡ length (taken file_p values_p picks_p (at 7 7 7 7) p_opens reports_p))
    × ((after file_p values_p picks_p (at 7 7 7 7) p_opens reports_p).seconds
    ≡ way_seconds problem_p (by_state picks_p) problem_p.start (taken file_p values_p picks_p (at 7 7 7 7) p_opens reports_p))
    × Reached problem_p (by_state picks_p) (after file_p values_p picks_p (at 7 7 7 7) p_opens reports_p).state
p_came = (
  follows_state file_p values_p picks_p (at 7 7 7 7) p_opens reports_p,
  follows_moves file_p values_p picks_p (at 7 7 7 7) p_opens reports_p,
  follows_seconds file_p values_p picks_p (at 7 7 7 7) p_opens reports_p,
  follows_reached file_p values_p picks_p (at 7 7 7 7) p_opens reports_p,
)

-- and there every report meets 20
pub p_goal_ends : (more : List ℕ) (o : ℕ)
    → (report file_p values_p picks_p (reports file_p values_p picks_p more (after file_p values_p picks_p (at 7 7 7 7) p_opens reports_p)) o).answer
    ≡ report_refused 20 0 (pos 0)
unfolding problem_of states_at u16_at
p_goal_ends more o =
    ap (λ (r : Report). r.answer) (goal_ends file_p values_p picks_p (at 7 7 7 7) p_opens reports_p (rw p_follows refl) more o)

-- on P with D 100 the start gives up, and then every report meets 20
gives_opens : opening (penalty_p 100 0) values_gives gives (at 7 7 7 7) ≡ record { answer = done; left = at 0 0 0 0 }
gives_opens = requested_hold.1.1.1.1.1.1.1.1.1.1.1.1.1.1.1.1.0

gives_given : report (penalty_p 100 0) values_gives gives (at 0 0 0 0) 0 ≡ record { answer = done; left = at 0 1 100 1 }
gives_given = requested_hold.1.1.1.1.1.1.1.1.1.1.1.1.1.1.1.1.1.1.0

pub gives_moves
    : (◌≡◌ {A = ℕ} 0 0) × ((report (penalty_p 100 0) values_gives gives (at 0 0 0 0) 0).left
    ≡ at 0 1 (0 + (problem_of (penalty_p 100 0)).penalty) 1)
gives_moves =
    giving_up_report (penalty_p 100 0) values_gives gives (at 0 0 0 0) 0 (ap (λ (r : Report). r.answer) gives_given) refl

pub gives_ends : (more : List ℕ) (o : ℕ)
    → (report (penalty_p 100 0) values_gives gives (reports (penalty_p 100 0) values_gives gives more (at 0 1 100 1)) o).answer
    ≡ report_refused 20 0 (pos 0)
unfolding reports
gives_ends more o =
    let start = ap (λ (r : Report). r.left) gives_opens in
    ap (λ (r : Report). r.answer)
    (rw (start, gives_given) at
    (giving_up_ends (penalty_p 100 0) values_gives gives (at 7 7 7 7) (ap (λ (r : Report). r.answer) gives_opens) [] 0
    (rw start (ap (λ (r : Report). r.answer) gives_given)) (rw start refl) more o))

-- A shift of a million moves, on the file whose row leads back to its state: outcome 0 may be reported for as long as one likes, and each
-- time it takes a second. By induction on the number of reports

r_accepted : audit rounding values_r picks_r ≡ accepted 1000
r_accepted = computed.2

r_opened : opening rounding values_r picks_r (at 7 7 7 7) ≡ record { answer = done; left = at 0 0 0 0 }
unfolding problem_of u16_at u32_at
r_opened = opens_at_start rounding values_r picks_r 1000 r_accepted (at 7 7 7 7)

r_goes_on : (m : ℕ) → m < max_moves → report rounding values_r picks_r (at 0 m m 0) 0 ≡ record { answer = done; left = at 0 (m + 1) (m + 1) 0 }
unfolding report_within report_questions moved leads_to move_seconds has_outcome problem_of states_at rows_at outcomes_at outcomes_from seconds_on
    sum_to u16_at u32_at
r_goes_on m few = rw (r_accepted, lt-ltb m max_moves few, le-leb m max_spent (omega (arith, few))) refl

pub r_keeps_on
    : (n m : ℕ) → m + n ≤ max_moves → reports rounding values_r picks_r (replicate n 0) (at 0 m m 0) ≡ at 0 (m + n) (m + n) 0
unfolding reports
r_keeps_on zero m few = let none : m + 0 ≡ m = omega arith in rw none refl
r_keeps_on (suc n) m few =
    let more : m + 1 + n ≡ m + suc n = omega arith in
    ap (λ (r : Report). reports rounding values_r picks_r (replicate n 0) r.left) (r_goes_on m (omega (arith, few)))
    ∙ r_keeps_on n (m + 1) (omega (arith, few))
    ∙ ap (λ k. at 0 k k 0) more

pub r_opens : (opening rounding values_r picks_r (at 7 7 7 7)).answer ≡ done
r_opens = ap (λ (r : Report). r.answer) r_opened

-- the list has a name, so that nothing counts to a million
unfoldable pub million_reports : List ℕ
million_reports = replicate max_moves 0

million_zeros : million_reports ≡ replicate max_moves 0
unfolding million_reports
million_zeros = refl

-- the record after it, and the report after that, which is refused under 21
abbrev pub after_million : Follower
after_million = after rounding values_r picks_r (at 7 7 7 7) r_opens million_reports

pub r_million : after_million ≡ at 0 1000000 1000000 0
r_million =
    ap (λ (r : Report). reports rounding values_r picks_r million_reports r.left) r_opened
    ∙ ap (λ l. reports rounding values_r picks_r l (at 0 0 0 0)) million_zeros
    ∙ r_keeps_on max_moves 0 (omega arith)

pub r_refused : (report rounding values_r picks_r after_million 0).answer ≡ report_refused 21 0 (pos 0)
unfolding report_within report_questions problem_of states_at u16_at
r_refused = rw (r_million, r_accepted) refl

pub r_moves : after_million.moves ≡ max_moves
r_moves = refused_for_moves rounding values_r picks_r (at 7 7 7 7) r_opens million_reports 0 0 (pos 0) r_refused
