-- The C interface: the status that a call returns, the entries that it writes to the lent table `answer`, and what else it was lent.
use Rattle.std.specs.Prelude.{◌≡◌, ℕ, cond, List, [], ◌∷◌, leb, get_or, length, ℤ, pos}
use Rattle.model.specs.Buffers.{copied, Writing}
use Rattle.model.specs.Carried.{Said, passed, solved, spent, accepted, done, written, refused, Carried}
use Rattle.model.specs.Answers.{answer_carries, followed_carries, wrote_carries}
use Rattle.model.specs.Solution.{Tables, Solution, solution}
use Rattle.model.specs.Following.{Report}
use Rattle.model.specs.declared.Follower.{Follower}
use Rattle.model.specs.declared.Kind.{Kind}

-- what a call hands to C: its status, the entries at the front of `answer`, and what else is lent, as it is left
pub record Handed (A L : Type 0) : Type 0 where
  pub status : ℕ
  pub entries : List A
  pub left : L

-- a status and three entries
abbrev pub handing : {A L : Type 0} → ℕ × A × A × A → L → Handed A L
handing n left = record { status = n.0; entries = n.1 ∷ n.2 ∷ n.3 ∷ []; left = left }

-- "3 passed, with answer 0, 0, 0; 1 solved, with rounds, evaluations, C; 2 spent, with rounds, evaluations, 0; 3 accepted, with C, 0, 0;
-- 3 done, with state, moves, seconds; 3 with the length, 0, 0; 0 refused, with question, place" and a third number
abbrev pub numbers_on : {A : Type 0} → (ℕ → A) → A → Said → Carried → ℕ × A × A × A
numbers_on of third passed c = (3, of 0, of 0, of 0)
numbers_on of third solved c = (1, of c.counts.rounds, of c.counts.evaluations, of c.counts.least)
numbers_on of third spent c = (2, of c.counts.rounds, of c.counts.evaluations, of c.counts.least)
numbers_on of third accepted c = (3, of c.counts.least, of 0, of 0)
numbers_on of third done c = (3, of c.shift.state, of c.shift.moves, of c.shift.seconds)
numbers_on of third written c = (3, of c.size, of 0, of 0)
numbers_on of third refused c = (0, of c.question, of c.place, third)

-- check, solve and writing: a refusal's third number is 0
abbrev pub plain_numbers : Carried → ℕ × ℕ × ℕ × ℕ
plain_numbers c = numbers_on (λ n. n) 0 c.said c

-- the audit and following: it is the excess
abbrev pub signed_numbers : Carried → ℕ × ℤ × ℤ × ℤ
signed_numbers c = numbers_on pos c.excess c.said c

-- "Entries beyond the third stay"; "4 where `answer` has fewer than 3 entries, and then nothing is written", nor is anything done: a
-- refusal by question 8 at place 1 makes 7, 7, 7, 7 to 8, 1, 0, 7, with status 0; 7, 7 stays, with status 4
pub record Hands {A L : Type 0} (h : Handed A L) (lent left : L) (before after : List A) (status : ℕ) : Type 0 where
  pub status_is : status ≡ cond (leb (length h.entries) (length before)) h.status 4
  pub answer_is : after ≡ cond (leb (length h.entries) (length before)) (copied h.entries before) before
  pub left_is : left ≡ cond (leb (length h.entries) (length before)) h.left lent

-- beside `answer` check and the audit are lent nothing, solving four tables, following (E2) a record, and writing an output
abbrev pub nothing : Unit {0}
nothing = tt

abbrev pub solution_handed : Solution → Handed ℕ Tables
solution_handed s = handing (plain_numbers (answer_carries s.answer)) s.tables

-- solving a file by a run of some kind (E8)
abbrev pub HandsSolution : Kind → List ℕ → ℕ → (lent left : Tables) (before after : List ℕ) → ℕ → Type 0
HandsSolution kind f budget lent left before after status =
    Hands (solution_handed (solution kind f budget lent)) lent left before after status

abbrev pub report_handed : Report → Handed ℤ Follower
report_handed r = handing (signed_numbers (followed_carries r.answer r.left)) r.left

abbrev pub writing_handed : Writing → Handed ℕ (List ℕ)
writing_handed w = handing (plain_numbers (wrote_carries w.answer)) w.left

-- The record is a C struct of four 64-bit numbers, `Follower`; its mark is 0 clear, anything else set. An opening has it as those numbers
abbrev pub follower_in : List ℕ → Follower
follower_in l = record { state = get_or l 0 0; moves = get_or l 1 0; seconds = get_or l 2 0; mark = get_or l 3 0 }
