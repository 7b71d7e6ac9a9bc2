-- What a run that is no refusal says of its file, and the tables of a plan: questions 1 to 13 said yes, so the file is laid out and the
-- tables have room for its states.
use mathlib.Core.Path.{◌≡◌, refl, sym, ◌∙◌, ap}
use Prim.Native.Nat.{ℕ, ◌+◌, ◌*◌, ◌≤◌, ◌<◌}
use native.Mathlib.Nat.{le_trans, le_of_eq, min-le_right}
use native.Mathlib.Omega.{arith}
use mathlib.Core.Bool.{true≢false}
use mathlib.Core.List.{List, ◌++◌, append-nil}
use lib.ListN.{length, take, length-take}
use lib.Seq.{length-take-le, take_all}
use borrow.Author.Tests.{le-leb, lt-leb}
use Rattle.model.specs.Answers.{answer_of, solve_carries}
use Rattle.model.specs.Audit.{Audited, audit}
use Rattle.model.specs.Buffers.{Holds, ReadOf, line_most, plan_room}
use Rattle.model.specs.Carried.{Said}
use Rattle.model.specs.Limits.{max_states, in_force, plan_rounds, plan_holds}
use Rattle.model.specs.Lines.{answer_line, state_lines, run_states, run_text, remainders_of, plan_text, audit_line}
use Rattle.model.specs.Promises.{plan_tables, plan_question, held_on, plan_solution, Shown, Plans, Audits}
use Rattle.model.specs.Questions.{Verdict, passes, fails, file_questions, file_questions_within, layout_questions}
use Rattle.model.specs.Sections.{problem_of}
use Rattle.model.specs.declared.Kind.{Kind}
use Rattle.model.specs.Solution.{Answer, solved, spent, refused, Tables, tables, Solution, solution}
use Rattle.model.specs.TableFiles.{entries16, entries32}
use Rattle.model.specs.Value.{by_state}
use Rattle.model.specs.declared.Ended.{Ended}
use Rattle.model.specs.declared.Ended.TheVariants.{Solved, Spent}
use Rattle.model.specs.declared.Refusal.{Refusal}
use Rattle.std.specs.Prelude.{Result, Ok, Err}
use Rattle.guarantee.specs.Carries.{answer_known}
use Rattle.guarantee.specs.Listings.{lines_pick}
use Rattle.guarantee.specs.Prefixes.{longest_file, read_short, read_full}
use Rattle.guarantee.proofs.Fronts.{audit_tables_front, audit_buffers}
use Rattle.guarantee.specs.Searches.{then_first}
use Rattle.guarantee.specs.Solutions.{Told, TurnedDown, ran, told, lent_long, plan_lent, refused_by}
use Rattle.guarantee.specs.WellFormed.{well_formed}
use Rattle.printing.specs.Texts.{Brief, WalkWithin}
use Rattle.writing.specs.Putting.{same, uncut}
use Rattle.programs.specs.AnswerFor.{AnswerFor}
use Rattle.programs.specs.Remainders.{RemaindersTo, RunDone}
use Rattle.programs.specs.declared.Ran.{Ran}
use Rattle.programs.proofs.Remaining.{table_long, table_low, table_entry, line_remainder, lines_same}

module _ {f : List ℕ} {a : Answer} (s : AnswerFor f a) where
  run_passes : ((q i : ℕ) → a ≡ refused q i → ⊥) → layout_questions f ≡ passes
  unfolding file_questions_within
  run_passes never = go (told s.kind f s.budget s.lent)
    where
      go : Told s.kind f s.budget s.lent → layout_questions f ≡ passes
      go (TurnedDown q i e is) = absurd (never q i (s.answer_is ∙ ap (λ x. x.answer) is))
      go (ran file lent is) = then_first (layout_questions f) _ file

-- a file that was run has passed its questions, and its states are those of the run
pub ended_passes : {f : List ℕ} (e : Ended) → AnswerFor f (answer_of (Ok e)) → layout_questions f ≡ passes
ended_passes (Solved c) s = run_passes s (λ q i k. cc)
ended_passes (Spent c) s = run_passes s (λ q i k. cc)

pub ended_states : (e : Ended) (n : ℕ) → n ≡ run_states (answer_of (Ok e)) n
unfolding run_states
ended_states (Solved c) n = refl
ended_states (Spent c) n = refl

-- the states of a run lie within the tables that were lent; where there are any, all those of the file do
pub record Room (f : List ℕ) (t : Tables) (k : ℕ) : Type 0 where
  pub few : k ≤ max_states
  pub states_room : 0 < k → (problem_of f).states ≤ length t.values
  pub values_room : k ≤ length t.values
  pub picks_room : k ≤ length t.picks
  pub walk_room : k ≤ length t.walk_list

run_states_most : (a : Answer) (n : ℕ) → run_states a n ≤ n
unfolding run_states
run_states_most (solved c) n = omega arith
run_states_most (spent c) n = omega arith
run_states_most (refused q i) n = omega arith

run_none : (a : Answer) (q i n : ℕ) → a ≡ refused q i → run_states a n ≡ 0
unfolding run_states
run_none a q i n e = rw e refl

pub run_room
    : (kind : Kind) (f : List ℕ) (budget : ℕ) {t : Tables} {a : Answer} {k : ℕ} → a ≡ (solution kind f budget t).answer
    → k ≡ run_states a (problem_of f).states → Room f t k
run_room kind f budget {t} {a} {k} is e = go (told kind f budget t)
  where
    go : Told kind f budget t → Room f t k
    go (TurnedDown q i failed s) =
        let z : k ≡ 0 = e ∙ run_none a q i (problem_of f).states (is ∙ ap (λ x. x.answer) s) in
        record {
          few = omega arith;
          states_room = λ some. absurd (omega arith);
          values_room = omega arith;
          picks_room = omega arith;
          walk_room = omega arith;
        }
    go (ran file lent s) =
        let long = lent_long (problem_of f) budget t lent in
        let most : k ≤ (problem_of f).states = rw e (run_states_most a (problem_of f).states) in
        record {
          few = omega (arith, (well_formed f file).states_high);
          states_room = λ some. long.values_long;
          values_room = omega (arith, long.values_long);
          picks_room = omega (arith, long.picks_long);
          walk_room = omega (arith, long.list_long);
        }

-- so that its states lie within a walk list that is as long as the one that it was lent
pub run_walk_room
    : (kind : Kind) (f : List ℕ) (budget : ℕ) (t : Tables) (walk : List ℕ) {a : Answer} {k : ℕ}
    → a ≡ (solution kind f budget t).answer → k ≡ run_states a (problem_of f).states → length walk ≡ length t.walk_list → k ≤ length walk
run_walk_room kind f budget t walk is e long = le_trans (run_room kind f budget is e).walk_room (le_of_eq (sym long))

-- so what a run of `plan` leaves has room for its states, which the text of its walk takes
module _ {kind : Kind} {f : List ℕ} {t t' : Tables} {r : Ran} (done : RunDone kind f t t' r) where
  pub done_answer : answer_of r.answer ≡ (solution kind f plan_rounds t).answer
  done_answer = answer_known r.answer _ done.leaves.answer

  pub done_room : Room f t r.states
  done_room = run_room kind f plan_rounds done_answer done.states_are

  pub done_walk : length t'.walk_list ≡ length t.walk_list → r.states ≤ length t'.walk_list
  done_walk long = run_walk_room kind f plan_rounds t t'.walk_list done_answer done.states_are long

  pub done_fit
      : length t'.values ≡ length t.values → length t'.picks ≡ length t.picks → length t'.walk_list ≡ length t.walk_list
      → WalkWithin (take r.states t'.walk_list) t'.values t'.picks r.remainders
  done_fit vl pl wl =
      let listed = length-take-le r.states t'.walk_list (done_walk wl) in
      let table = table_long done.remainders_are in
      record {
        states = omega (arith, done_room.few);
        values_long = omega (arith, done_room.values_room);
        picks_long = omega (arith, done_room.picks_room);
        remainders_long = omega (arith, done_room.few);
        remainders_low = λ s l. table_low done.remainders_are s done_room.few (omega arith);
      }

-- where there are states the run was no refusal
pub run_said : (r : Result Ended Refusal) (n : ℕ) → 0 < run_states (answer_of r) n → (solve_carries r).said ≡ Said.refused → ⊥
unfolding run_states
run_said (Ok (Solved counts)) n h e = absurd (true≢false (cc))
run_said (Ok (Spent counts)) n h e = absurd (true≢false (cc))
run_said (Err r) n h e = omega arith

-- what `plan` solves where it holds the input
abbrev held_solution : Kind → (f values picks : List ℕ) → Solution
held_solution kind f values picks = solution kind f plan_rounds (plan_tables in_force values picks)

-- tables of as many entries as a file can have states, and the tables of the program's own, are refused no file
refused_by_file
    : (kind : Kind) (f values picks : List ℕ) → length values ≡ max_states → length picks ≡ max_states → (q i : ℕ)
    → (held_solution kind f values picks).answer ≡ refused q i → file_questions f ≡ fails q i
refused_by_file kind f values picks v p q i h = go (file_questions f) refl
  where
    t : Tables
    t = plan_tables in_force values picks

    go : (said : Verdict) → file_questions f ≡ said → file_questions f ≡ fails q i
    go passes e =
        let formed = well_formed f e in
        let lent =
        plan_lent in_force (problem_of f) values picks formed.states_high formed.rows_high (le_of_eq (sym v)) (le_of_eq (sym p)) in
        let failed = (refused_by kind f plan_rounds t q i h).failed in
        let never : passes ≡ fails q i = rw (e, lent) at failed in
        absurd (true≢false (cc))
    go (fails r j) e = let failed = (refused_by kind f plan_rounds t q i h).failed in e ∙ rw e at failed

-- what was put is the text of the plan
module _ (kind : Kind) (f values picks : List ℕ) {values' picks' remembered' walk' : List ℕ} {a : Answer} {k : ℕ}
    (answer_is : a ≡ (held_solution kind f values picks).answer)
    (left_is : tables values' picks' remembered' walk' ≡ (held_solution kind f values picks).tables)
    (e : k ≡ run_states a (problem_of f).states) (within : k ≤ length walk')
    {remainders : List ℕ} (remainders_are : RemaindersTo f values' picks' k remainders) where
  abbrev put_text : List ℕ
  put_text = run_text a values' picks' (by_state remainders) (take k walk') (length (take k walk'))

  text_is : put_text ≡ plan_text (problem_of f) (held_solution kind f values picks)
  unfolding plan_text
  text_is =
      let s = held_solution kind f values picks in
      let t = s.tables in
      let v : values' ≡ t.values = ap (λ t. t.values) left_is in
      let p : picks' ≡ t.picks = ap (λ t. t.picks) left_is in
      let w : walk' ≡ t.walk_list = ap (λ t. t.walk_list) left_is in
      let n = run_states s.answer (problem_of f).states in
      let same : k ≡ n = e ∙ rw answer_is refl in
      let few : n ≤ max_states = rw (← same) (run_room kind f plan_rounds answer_is e).few in
      let filled : RemaindersTo f t.values t.picks n remainders = rw (← v, ← p, ← same) remainders_are in
      let lines =
      lines_same t.values t.picks (by_state remainders) (remainders_of (problem_of f) t.values t.picks) (take n t.walk_list) n
      (λ q l h. table_entry filled q few l ∙ line_remainder f t.values _ q (lines_pick kind f plan_rounds _ q (l, h))) in
      rw (length-take-le k walk' within, same, answer_is, v, p, w) (ap (λ l. answer_line s.answer ++ l) lines)

  shown
      : {out out' : List ℕ} {size : ℕ} → length values ≡ max_states → length picks ≡ max_states → plan_room ≤ length out
      → length values' ≡ length values → length picks' ≡ length picks → Holds out out' size put_text
      → Brief put_text (length (take k walk'))
      → Shown (problem_of f) (held_solution kind f values picks) (file_questions f) out values' picks' out' size k
  shown {out} {out'} {size} v p wide lv lp text short =
      let room = run_room kind f plan_rounds answer_is e in
      let size_is = length-take-le k walk' within in
      let fits = rw text_is at (short (omega (arith, size_is, room.few))) in
      let put = same text_is text in
      record {
        text = put;
        whole = uncut put (omega (arith, fits, size_is, room.few));
        values_are = ap (λ t. t.values) left_is;
        picks_are = ap (λ t. t.picks) left_is;
        refused_by = refused_by_file kind f values picks v p;
        states_are = rw (← answer_is) e;
        values_hold = omega (arith, room.values_room, lv);
        picks_hold = omega (arith, room.picks_room, lp);
      }

  pub plans
      : {out out' : List ℕ} {size : ℕ} → plan_question f ≡ passes → length values ≡ max_states → length picks ≡ max_states
      → plan_room ≤ length out → length values' ≡ length values → length picks' ≡ length picks → Holds out out' size put_text
      → Brief put_text (length (take k walk')) → Plans kind f values picks out values' picks' out' size k
  unfolding held_on
  plans held v p wide lv lp text short = rw held (shown v p wide lv lp text short)

-- what was read may be all that there was
pub read_all : (buffer : List ℕ) (n : ℕ) → ReadOf (take n buffer) buffer n
read_all buffer n = take_all (length buffer) (take n buffer) (rw (length-take n buffer) (min-le_right n (length buffer)))

-- the front of a buffer of N bytes that were read of an input is the front of the input
pub read_front
    : (f buffer : List ℕ) {bytes : List ℕ} (n : ℕ) {N : ℕ} → length buffer ≡ N → ReadOf f buffer n → bytes ≡ take n buffer → bytes ≡ take N f
read_front f buffer n long read is = rw (← long) (is ∙ sym read)

-- where so little was read of an input that `plan` holds it, that is the whole input, and its plan
pub held_plans
    : (kind : Kind) (f page values picks : List ℕ) (n : ℕ) {bytes out values' picks' out' : List ℕ} {size states : ℕ} → n ≤ plan_holds
    → length page ≡ plan_holds + 1 → ReadOf f page n → bytes ≡ take n page
    → Plans kind bytes values picks out values' picks' out' size states → Plans kind f values picks out values' picks' out' size states
held_plans kind f page values picks n few long read is h =
    let whole = is ∙ sym (read_short f page n read (omega arith)) in rw whole at h

pub held_passes : (page : List ℕ) {bytes : List ℕ} (n : ℕ) → n ≤ plan_holds → bytes ≡ take n page → plan_question bytes ≡ passes
held_passes page {bytes} n few is =
    rw (le-leb (length bytes) plan_holds (rw is (omega (arith, length-take n page)))) refl

-- a buffer with a byte more than `plan` holds is full: the input is longer than that
pub not_held : (f page : List ℕ) (n : ℕ) → plan_holds < n → length page ≡ plan_holds + 1 → ReadOf f page n → plan_question f ≡ fails 25 0
not_held f page n more long read =
    let size = ap length (read_full f page n read (omega arith)) in
    rw (lt-leb (length f) plan_holds (omega (arith, size, length-take (length page) f))) refl

-- what was put of the refusal is the text of the plan
pub longer_plans
    : (kind : Kind) (f values picks : List ℕ) {out out' : List ℕ} {size : ℕ} → plan_question f ≡ fails 25 0
    → Holds out out' size (answer_line (refused 25 0)) → length (answer_line (refused 25 0)) ≤ line_most → line_most ≤ length out
    → Plans kind f values picks out values picks out' size 0
unfolding held_on plan_text state_lines run_states
longer_plans kind f values picks longer put brief wide =
    let text : answer_line (refused 25 0) ≡ plan_text (problem_of f) (plan_solution kind f values picks) = rw longer (sym (append-nil _)) in
    record {
      text = same text put;
      whole = uncut put (le_trans brief wide) ∙ text;
      values_are = rw longer refl;
      picks_are = rw longer refl;
      refused_by = rw longer (λ q i e. cc);
      states_are = rw longer refl;
      values_hold = omega arith;
      picks_hold = omega arith;
    }

-- what was read of three inputs has the audit of the whole inputs: the file, and the entries of each table as far as there are states
pub audit_read
    : (f v p : List ℕ) {bytes v₀ p₀ v₁ p₁ v₂ p₂ : List ℕ} {N n m : ℕ} → longest_file < N → bytes ≡ take N f → v₀ ≡ take (4 * max_states) v
    → p₀ ≡ take (2 * max_states) p → length v₂ ≡ max_states → length p₂ ≡ max_states → Holds v₁ v₂ n (entries32 v₀)
    → Holds p₁ p₂ m (entries16 p₀) → audit bytes (take n v₂) (take m p₂) ≡ audit f (entries32 v) (entries16 p)
audit_read f v p {N = N} long file values picks lv lp h k =
    rw (h.front, k.front, lv, lp, file, values, picks)
    (audit_tables_front max_states (take N f) (entries32 (take (4 * max_states) v)) (entries16 (take (2 * max_states) p)) (omega arith)
    ∙ audit_buffers N max_states f v p long (omega arith))

-- the line of an audit was put, and there is room for every line
pub audits
    : {f v p out out' : List ℕ} {size : ℕ} {a : Audited} → a ≡ audit f (entries32 v) (entries16 p)
    → Holds out out' size (audit_line a) → length (audit_line a) ≤ line_most → line_most ≤ length out → Audits f v p out out' size
audits e h short wide =
    record { line = same (ap audit_line e) h; whole = uncut h (le_trans short wide) ∙ ap audit_line e }
