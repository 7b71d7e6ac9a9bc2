-- A report that stops at one of its questions, and one that moves on: what is handed on is the model's, from what each
-- question answered.
use mathlib.Core.Path.{◌≡◌, refl, ◌∙◌}
use Prim.Native.Nat.{ℕ}
use mathlib.Core.Bool.{Bool, not}
use mathlib.Core.List.{List}
use Rattle.std.proofs.Common.{Ok, Err}
use lib.IntN.{pos}
use Rattle.model.specs.Answers.{number_of}
use Rattle.model.specs.Audit.{accepted, refused as audit_refused, audit}
use Rattle.model.specs.Following.{Report, done, refused, at_end, in_shift, may_occur, report_questions, follow, moved}
use Rattle.model.specs.Following.{opening, opening_within, at_start, report, report_within}
use Rattle.model.specs.Problem.{Problem}
use Rattle.model.specs.Questions.{Verdict, passes, fails, ask, ◌then◌}
use Rattle.model.specs.Sections.{problem_of}
use Rattle.model.specs.Value.{by_state}
use Rattle.model.specs.declared.AuditRefusal.{AuditRefusal}
use Rattle.model.specs.declared.Follower.{Follower}
use Rattle.model.specs.declared.Refusal.{Refusal}
use Rattle.following.specs.Handing.{Hands}

-- a refusal leaves the record as it was; a record that a move or an opening leaves goes with the answer that it is done
pub hands_refusal : (r : AuditRefusal) (w : Follower) {said : Report}
    → said ≡ record { answer = refused (number_of r.question) r.place r.excess; left = w } → Hands (Err r) w said
hands_refusal r w e = rw e (record { answer_is = refl; left_is = refl })

pub hands_record : {w' : Follower} (w : Follower) {said : Report} → said ≡ record { answer = done; left = w' }
    → Hands (Ok w') w said
hands_record w e = rw e (record { answer_is = refl; left_is = refl })

-- questions 20 to 22

module _ (p : Problem) (picks : ℕ → ℕ) (w : Follower) (o : ℕ) {a b c : Bool} (open_is : a ≡ not (at_end p w))
    (shift_is : b ≡ in_shift w) (occurs_is : c ≡ may_occur p picks w.state o) where
  asked_is : report_questions p picks w o ≡ (ask 20 0 a then ask 21 0 b then ask 22 0 c)
  unfolding report_questions
  asked_is = rw (← open_is, ← shift_is, ← occurs_is) refl

  abbrev handed : ℕ → Report
  handed C = follow (accepted C) (report_questions p picks w o) w (moved p picks w o)

  abbrev refusal_of : Refusal → AuditRefusal
  refusal_of r = record { question = r.question; place = r.place; excess = pos 0 }

  abbrev said : Refusal → Verdict
  said r = fails (number_of r.question) r.place

  stops : (r : Refusal) → report_questions p picks w o ≡ said r → (C : ℕ) → Hands (Err (refusal_of r)) w (handed C)
  stops r e C = hands_refusal _ w (rw e refl)

  pub stops_20 : {r : Refusal} → said r ≡ ask 20 0 a → (C : ℕ) → Hands (Err (refusal_of r)) w (handed C)
  stops_20 {r} e = stops r (asked_is ∙ rw (← e) refl)

  module _ (opened : passes ≡ ask 20 0 a) where
    pub stops_21 : {r : Refusal} → said r ≡ ask 21 0 b → (C : ℕ) → Hands (Err (refusal_of r)) w (handed C)
    stops_21 {r} e = stops r (asked_is ∙ rw (← opened, ← e) refl)

    module _ (shifted : passes ≡ ask 21 0 b) where
      pub stops_22 : {r : Refusal} → said r ≡ ask 22 0 c → (C : ℕ) → Hands (Err (refusal_of r)) w (handed C)
      stops_22 {r} e = stops r (asked_is ∙ rw (← opened, ← shifted, ← e) refl)

      pub all_pass : passes ≡ ask 22 0 c → report_questions p picks w o ≡ passes
      all_pass e = asked_is ∙ rw (← opened, ← shifted, ← e) refl

      pub goes_on : passes ≡ ask 22 0 c → {w' : Follower} → w' ≡ moved p picks w o → (C : ℕ)
          → Hands (Ok w') w (handed C)
      goes_on e m C = hands_record w (rw (all_pass e, m) refl)

-- the audit's questions come first

module _ (f values picks : List ℕ) where
  abbrev stops_at : AuditRefusal → Type 0
  stops_at r = audit_refused (number_of r.question) r.place r.excess ≡ audit f values picks

  pub opening_refused : {r : AuditRefusal} → stops_at r → (w : Follower) → Hands (Err r) w (opening f values picks w)
  unfolding opening_within
  opening_refused {r} e w = hands_refusal r w (rw (← e) refl)

  pub opening_done : {C : ℕ} → accepted C ≡ audit f values picks → {w' : Follower} → w' ≡ at_start (problem_of f)
      → (w : Follower) → Hands (Ok w') w (opening f values picks w)
  unfolding opening_within
  opening_done e h w = hands_record w (rw (← e, h) refl)

  pub report_refused : {r : AuditRefusal} → stops_at r → (w : Follower) (o : ℕ)
      → Hands (Err r) w (report f values picks w o)
  unfolding report_within
  report_refused {r} e w o = hands_refusal r w (rw (← e) refl)

  pub report_is : {C : ℕ} → accepted C ≡ audit f values picks → (w : Follower) (o : ℕ)
      → follow (accepted C) (report_questions (problem_of f) (by_state picks) w o) w
      (moved (problem_of f) (by_state picks) w o)
      ≡ report f values picks w o
  unfolding report_within
  report_is e w o = rw (← e) refl
