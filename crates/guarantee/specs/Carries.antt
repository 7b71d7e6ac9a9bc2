-- What answers carry: the code's answer carries what the answer of the same name in the definitions does, and nothing is
-- lost, since an answer can be told from what it carries.
use Rattle.std.specs.Prelude.{◌≡◌, ℕ, refl, Result, Ok, Err}
use Rattle.std.proofs.Common.{◌∙◌, ap}
use Rattle.model.specs.Carried.{Said, Carried}
use Rattle.model.specs.Questions.{Verdict, passes, fails}
use Rattle.model.specs.Solution.{Answer, solved, spent, refused}
use Rattle.model.specs.Audit.{Audited, accepted, refused as audit_refused}
use Rattle.model.specs.Answers.{file_carries, solve_carries, audit_carries, verdict_carries, answer_carries, audited_carries}
use Rattle.model.specs.Answers.{followed_carries, wrote_carries, verdict_of, answer_of, audited_of}
use Rattle.model.specs.Following.{Followed, done, refused as report_refused}
use Rattle.model.specs.Buffers.{Wrote, written, refused as write_refused}
use Rattle.model.specs.declared.AuditRefusal.{AuditRefusal}
use Rattle.model.specs.declared.Ended.{Ended}
use Rattle.model.specs.declared.Ended.TheVariants.{Solved, Spent}
use Rattle.model.specs.declared.Follower.{Follower}
use Rattle.model.specs.declared.Refusal.{Refusal}

-- the code's answer and its reading carry the same

pub verdict_carries_lem : (r : Result Unit Refusal) → verdict_carries (verdict_of r) ≡ file_carries r
verdict_carries_lem (Ok _) = refl
verdict_carries_lem (Err _) = refl

pub answer_carries_lem : (r : Result Ended Refusal) → answer_carries (answer_of r) ≡ solve_carries r
answer_carries_lem (Ok (Solved _)) = refl
answer_carries_lem (Ok (Spent _)) = refl
answer_carries_lem (Err _) = refl

pub audited_carries_lem : (r : Result ℕ AuditRefusal) → audited_carries (audited_of r) ≡ audit_carries r
audited_carries_lem (Ok _) = refl
audited_carries_lem (Err _) = refl

-- answers that carry the same are the same

said_is : {a b : Carried} → a ≡ b → a.said ≡ b.said
said_is e = ap (λ c. c.said) e

pub verdict_one : (a b : Verdict) → verdict_carries a ≡ verdict_carries b → a ≡ b
verdict_one passes passes e = refl
verdict_one passes (fails q i) e = let s = said_is e in cc
verdict_one (fails q i) passes e = let s = said_is e in cc
verdict_one (fails q i) (fails r j) e = ap (λ (c : Carried). fails c.question c.place) e

pub answer_one : (a b : Answer) → answer_carries a ≡ answer_carries b → a ≡ b
answer_one (solved c) (solved d) e = ap (λ (c : Carried). solved c.counts) e
answer_one (solved c) (spent d) e = let s = said_is e in cc
answer_one (solved c) (refused q i) e = let s = said_is e in cc
answer_one (spent c) (solved d) e = let s = said_is e in cc
answer_one (spent c) (spent d) e = ap (λ (c : Carried). spent c.counts) e
answer_one (spent c) (refused q i) e = let s = said_is e in cc
answer_one (refused q i) (solved d) e = let s = said_is e in cc
answer_one (refused q i) (spent d) e = let s = said_is e in cc
answer_one (refused q i) (refused r j) e = ap (λ (c : Carried). refused c.question c.place) e

pub audited_one : (a b : Audited) → audited_carries a ≡ audited_carries b → a ≡ b
audited_one (accepted c) (accepted c') e = ap (λ (c : Carried). accepted c.counts.least) e
audited_one (accepted c) (audit_refused q i z) e = let s = said_is e in cc
audited_one (audit_refused q i z) (accepted c) e = let s = said_is e in cc
audited_one (audit_refused q i z) (audit_refused r j z') e = ap (λ (c : Carried). audit_refused c.question c.place c.excess) e

pub followed_one : (a b : Followed) (v w : Follower) → followed_carries a v ≡ followed_carries b w → a ≡ b
followed_one done done v w e = refl
followed_one done (report_refused q i z) v w e = let s = said_is e in cc
followed_one (report_refused q i z) done v w e = let s = said_is e in cc
followed_one (report_refused q i z) (report_refused r j z') v w e =
    ap (λ (c : Carried). report_refused c.question c.place c.excess) e

pub wrote_one : (a b : Wrote) → wrote_carries a ≡ wrote_carries b → a ≡ b
wrote_one (written n) (written n') e = ap (λ (c : Carried). written c.size) e
wrote_one (written n) (write_refused q i) e = let s = said_is e in cc
wrote_one (write_refused q i) (written n) e = let s = said_is e in cc
wrote_one (write_refused q i) (write_refused r j) e = ap (λ (c : Carried). write_refused c.question c.place) e

-- so a promise of what is carried is a promise of the answer

pub verdict_known : (r : Result Unit Refusal) (a : Verdict) → file_carries r ≡ verdict_carries a → verdict_of r ≡ a
verdict_known r a e = verdict_one (verdict_of r) a (verdict_carries_lem r ∙ e)

pub answer_known : (r : Result Ended Refusal) (a : Answer) → solve_carries r ≡ answer_carries a → answer_of r ≡ a
answer_known r a e = answer_one (answer_of r) a (answer_carries_lem r ∙ e)

pub audited_known : (r : Result ℕ AuditRefusal) (a : Audited) → audit_carries r ≡ audited_carries a → audited_of r ≡ a
audited_known r a e = audited_one (audited_of r) a (audited_carries_lem r ∙ e)

-- and what was said tells the case

pub verdict_passed : (a : Verdict) → (verdict_carries a).said ≡ Said.passed → a ≡ passes
verdict_passed passes e = refl
verdict_passed (fails q i) e = cc

pub answer_solved : (a : Answer) → (answer_carries a).said ≡ Said.solved → a ≡ solved (answer_carries a).counts
answer_solved (solved c) e = refl
answer_solved (spent c) e = cc
answer_solved (refused q i) e = cc

pub audited_accepted : (a : Audited) → (audited_carries a).said ≡ Said.accepted → a ≡ accepted (audited_carries a).counts.least
audited_accepted (accepted c) e = refl
audited_accepted (audit_refused q i z) e = cc

pub audited_refused : (a : Audited) → (audited_carries a).said ≡ Said.refused
    → a ≡ audit_refused (audited_carries a).question (audited_carries a).place (audited_carries a).excess
audited_refused (accepted c) e = cc
audited_refused (audit_refused q i z) e = refl

pub followed_done : (a : Followed) (w : Follower) → (followed_carries a w).said ≡ Said.done → a ≡ done
followed_done done w e = refl
followed_done (report_refused q i z) w e = cc
