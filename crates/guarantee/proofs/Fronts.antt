-- Fixed buffers lose nothing: a front that is longer than any file that passes has the audit of the whole file, and the audit reads
-- the entries of states alone.
use Rattle.std.specs.Prelude.{◌≡◌, ℕ, ◌*◌, ◌≤◌, ◌<◌, List, leb, pos, length, take}
use Rattle.std.proofs.Math.Path.{refl}
use Rattle.std.proofs.Common.{◌∙◌, ap, arith, get_or-take, take_all}
use Rattle.std.proofs.Math.Decide.{dec_le}
use Rattle.std.proofs.Math.Seq.{length-take-le}
use borrow.Author.Tests.{le-leb}
use Rattle.model.specs.Limits.{max_states}
use Rattle.model.specs.Problem.{Problem}
use Rattle.model.specs.Sections.{problem_of}
use Rattle.model.specs.TableFiles.{entries16, entries32}
use Rattle.model.specs.Value.{by_state}
use Rattle.model.specs.Questions.{Verdict, passes, fails, layout_questions}
use Rattle.model.specs.Questions.{file_questions, file_questions_within}
use Rattle.model.specs.Audit.{refused, or_else, problem_audit, problem_audit_with, audit, audit_within, audit_on}
use Rattle.guarantee.specs.WellFormed.{WellFormed, well_formed, sectioned}
use Rattle.guarantee.specs.Agreeing.{tables_same}
use Rattle.guarantee.specs.ReadsBack.{entries16_front, entries32_front}
use Rattle.guarantee.specs.Prefixes.{longest_file, layout_front}

-- a file longer than any that passes is refused
longest_passes : (f : List ℕ) → layout_questions f ≡ passes → length f ≤ longest_file
longest_passes f h =
    let s = sectioned f h in
    omega (arith, s.settings_high, s.states_at_lem, s.rows_at_lem, s.outcomes_at_lem, s.end_at, s.states_high, s.rows_high, s.outcomes_high)

-- the front of a file: it is the file, or both are refused alike before question 4
data Front (N : ℕ) (f : List ℕ) : Type 0 where
  whole : take N f ≡ f → Front N f
  cut : (q i : ℕ) → layout_questions (take N f) ≡ fails q i → layout_questions f ≡ fails q i → Front N f

front : (N : ℕ) (f : List ℕ) → longest_file < N → Front N f
front N f h = go (dec_le (length f) N)
  where
    asked : N ≤ length f → (v : Verdict) → layout_questions f ≡ v → Front N f
    asked l passes e = absurd (omega (arith, longest_passes f e))
    asked l (fails q i) e = cut q i (layout_front N f l h ∙ e) e

    go : Dec (length f ≤ N) → Front N f
    go (yes l) = whole (take_all N f l)
    go (no l) = asked (omega arith) (layout_questions f) refl

-- the front has the audit of the whole file
pub audit_front : (N : ℕ) (f : List ℕ) → longest_file < N → (values picks : List ℕ) → audit (take N f) values picks ≡ audit f values picks
unfolding audit_within file_questions_within
audit_front N f h values picks = go (front N f h)
  where
    go : Front N f → audit (take N f) values picks ≡ audit f values picks
    go (whole e) = ap (λ g. audit g values picks) e
    go (cut q i e e') = rw (e, e') refl

-- a front that is long enough for the states is as long as is asked
front_long : (N n : ℕ) (l : List ℕ) → n ≤ N → leb n (length (take N l)) ≡ leb n (length l)
front_long N n l h = go (dec_le (length l) N)
  where
    go : Dec (length l ≤ N) → leb n (length (take N l)) ≡ leb n (length l)
    go (yes e) = rw (take_all N l e) refl
    go (no e) = rw (length-take-le N l (omega arith), le-leb n N h, le-leb n (length l) (omega arith)) refl

problem_front
    : (N : ℕ) (p : Problem) → WellFormed p → (values picks : List ℕ) → max_states ≤ N
    → problem_audit p (take N values) (take N picks) ≡ problem_audit p values picks
unfolding problem_audit_with
problem_front N p formed values picks h =
    let low : p.states ≤ N = omega (arith, formed.states_high) in
    rw (front_long N p.states values low, front_long N p.states picks low)
    (ap (λ said. or_else (leb p.states (length values)) (refused 15 0 (pos 0))
    (or_else (leb p.states (length picks)) (refused 15 1 (pos 0)) said))
    (tables_same p formed (by_state (take N values)) (by_state values) (by_state (take N picks)) (by_state picks)
    (λ s l. get_or-take N values s 0 (omega arith)) (λ s l. get_or-take N picks s 0 (omega arith))))

-- the audit reads the entries of states alone
pub audit_tables_front
    : (N : ℕ) (f values picks : List ℕ) → max_states ≤ N → audit f (take N values) (take N picks) ≡ audit f values picks
unfolding audit_within
audit_tables_front N f values picks h = go (file_questions f) refl
  where
    go : (v : Verdict) → file_questions f ≡ v → audit_on v (problem_of f) (take N values) (take N picks) ≡ audit_on v (problem_of f) values picks
    go passes e = problem_front N (problem_of f) (well_formed f e) values picks h
    go (fails q i) e = refl

-- the buffers of a program that audits: N bytes of the file, and the bytes of M entries of each table
pub audit_buffers
    : (N M : ℕ) (f values picks : List ℕ) → longest_file < N → max_states ≤ M
    → audit (take N f) (entries32 (take (4 * M) values)) (entries16 (take (2 * M) picks)) ≡ audit f (entries32 values) (entries16 picks)
audit_buffers N M f values picks h m =
    rw (entries32_front M values, entries16_front M picks)
    (audit_front N f h (take M (entries32 values)) (take M (entries16 picks))
    ∙ audit_tables_front M f (entries32 values) (entries16 picks) m)
