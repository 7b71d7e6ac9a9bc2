-- Laws of the search for the first place that fails, of Boolean tests, of sums and of verdicts.
-- By induction on the number of places left; a test is taken apart by a helper on its value.
use Rattle.std.specs.Prelude.{◌≡◌, refl, ℕ, zero, suc, ◌+◌, ◌≤◌, ◌<◌, Bool, true, false, ◌&&◌, ◌||◌, not, ◌⊎◌, leb}
use Rattle.std.proofs.Common.{sym, ◌∙◌, eq-or-lt_of_le, add-one, arith, true≢false, inl, inr, leb-true, le-leb}
use Rattle.model.specs.Search.{first, first_on, sum_to}
use Rattle.model.specs.Questions.{Verdict, passes, fails, ◌then◌, ask, ask_each, between}

-- tests

pub and_left : (a b : Bool) → (a && b) ≡ true → a ≡ true
and_left true b h = refl
and_left false b h = h

pub and_right : (a b : Bool) → (a && b) ≡ true → b ≡ true
and_right true b h = h
and_right false b h = absurd (true≢false (sym h))

pub and_both : {a b : Bool} → a ≡ true → b ≡ true → (a && b) ≡ true
and_both p q = rw p q

pub and_not_left : {a : Bool} (b : Bool) → a ≡ false → (a && b) ≡ false
and_not_left b p = rw p

pub or_skip : (a b : Bool) → (a || b) ≡ true → a ≡ false → b ≡ true
or_skip true b h e = absurd (true≢false e)
or_skip false b h e = h

pub or_left : {a : Bool} (b : Bool) → a ≡ true → (a || b) ≡ true
or_left b p = rw p

pub or_right : (a : Bool) {b : Bool} → b ≡ true → (a || b) ≡ true
or_right true h = refl
or_right false h = h

pub or_none : (a b : Bool) → (a || b) ≡ false → b ≡ false
or_none true b h = absurd (true≢false h)
or_none false b h = h

pub or_clear : (a b : Bool) → (not a || b) ≡ false → a ≡ true
or_clear true b h = refl
or_clear false b h = absurd (true≢false h)

pub or_cases : (a b : Bool) → (a || b) ≡ true → (a ≡ true) ⊎ (b ≡ true)
or_cases true b h = inl refl
or_cases false b h = inr h

-- "a implies b", as the questions write it
pub implied : (a b : Bool) → (not a || b) ≡ true → a ≡ true → b ≡ true
implied true b h e = h
implied false b h e = absurd (true≢false (sym e))

pub implies : (a b : Bool) → (a ≡ true → b ≡ true) → (not a || b) ≡ true
implies true b h = h refl
implies false b h = refl

-- one step of the search

pub first_yes : (ok : ℕ → Bool) (i k : ℕ) → ok i ≡ true → first ok i (suc k) ≡ first ok (suc i) k
unfolding first
first_yes ok i k h = rw h

pub first_no : (ok : ℕ → Bool) (i k : ℕ) → ok i ≡ false → first ok i (suc k) ≡ i
unfolding first
first_no ok i k h = rw h

-- where the search ends

pub first_from : (ok : ℕ → Bool) (i k : ℕ) → i ≤ first ok i k
unfolding first
first_from ok i zero = omega arith
first_from ok i (suc k) = step (ok i) (first_from ok (suc i) k)
  where
    step : (b : Bool) → suc i ≤ first ok (suc i) k → i ≤ first_on b i (first ok (suc i) k)
    step true h = omega arith
    step false h = omega arith

pub first_to : (ok : ℕ → Bool) (i k : ℕ) → first ok i k ≤ i + k
unfolding first
first_to ok i zero = omega arith
first_to ok i (suc k) = step (ok i) (first_to ok (suc i) k)
  where
    step : (b : Bool) → first ok (suc i) k ≤ suc i + k → first_on b i (first ok (suc i) k) ≤ i + suc k
    step true h = omega arith
    step false h = omega arith

-- before its end the test says yes

pub first_before : (ok : ℕ → Bool) (i k j : ℕ) → i ≤ j → j < first ok i k → ok j ≡ true
unfolding first
first_before ok i zero j low high = absurd (omega arith)
first_before ok i (suc k) j low high = step (ok i) refl high (eq-or-lt_of_le low) (first_before ok (suc i) k j)
  where
    step
        : (b : Bool) → ok i ≡ b → j < first_on b i (first ok (suc i) k) → (i ≡ j) ⊎ (i < j)
        → (suc i ≤ j → j < first ok (suc i) k → ok j ≡ true) → ok j ≡ true
    step true e h (inl s) next = rw (← s) e
    step true e h (inr l) next = next l h
    step false e h c next = absurd (omega arith)

-- where it ends early the test says no

pub first_at : (ok : ℕ → Bool) (i k : ℕ) → first ok i k < i + k → ok (first ok i k) ≡ false
unfolding first
first_at ok i zero h = absurd (omega arith)
first_at ok i (suc k) h = step (ok i) refl h (first_at ok (suc i) k)
  where
    step
        : (b : Bool) → ok i ≡ b → first_on b i (first ok (suc i) k) < i + suc k
        → (first ok (suc i) k < suc i + k → ok (first ok (suc i) k) ≡ false) → ok (first_on b i (first ok (suc i) k)) ≡ false
    step true e l next = next (omega arith)
    step false e l next = e

-- the test says yes at each of k places from i on: what the search's end says, and back

pub first_all : (ok : ℕ → Bool) (i k : ℕ) → i + k ≤ first ok i k → (j : ℕ) → i ≤ j → j < i + k → ok j ≡ true
first_all ok i k h j low high = first_before ok i k j low (omega arith)

pub all_first : (ok : ℕ → Bool) (i k : ℕ) → ((j : ℕ) → i ≤ j → j < i + k → ok j ≡ true) → first ok i k ≡ i + k
all_first ok i k h = step (eq-or-lt_of_le (first_to ok i k))
  where
    step : (first ok i k ≡ i + k) ⊎ (first ok i k < i + k) → first ok i k ≡ i + k
    step (inl e) = e
    step (inr l) =
        absurd (true≢false (sym (h (first ok i k) (first_from ok i k) l) ∙ first_at ok i k l))

pub each_yes : (ok : ℕ → Bool) (n : ℕ) → leb n (first ok 0 n) ≡ true → (j : ℕ) → j < n → ok j ≡ true
each_yes ok n h j l = first_before ok 0 n j (omega arith) (omega (arith, leb-true n (first ok 0 n) h))

pub yes_each : (ok : ℕ → Bool) (n : ℕ) → ((j : ℕ) → j < n → ok j ≡ true) → leb n (first ok 0 n) ≡ true
yes_each ok n h =
    le-leb n (first ok 0 n) (omega (arith, all_first ok 0 n (λ j low high. h j (omega arith))))

-- tests that agree at each of the places have the same first place that fails
pub first_same : (ok ok' : ℕ → Bool) (i k : ℕ) → ((j : ℕ) → i ≤ j → j < i + k → ok j ≡ ok' j) → first ok i k ≡ first ok' i k
unfolding first
first_same ok ok' i zero h = refl
first_same ok ok' i (suc k) h =
    rw (h i (omega arith) (omega arith), first_same ok ok' (suc i) k (λ j low high. h j (omega arith) (omega arith)))

-- verdicts

pub then_first : (v w : Verdict) → (v then w) ≡ passes → v ≡ passes
then_first passes w h = refl
then_first (fails q i) w h = h

pub then_next : (v w : Verdict) → (v then w) ≡ passes → w ≡ passes
then_next passes w h = h
then_next (fails q i) w h = cc

pub ask_yes : (q i : ℕ) (b : Bool) → ask q i b ≡ passes → b ≡ true
ask_yes q i true h = refl
ask_yes q i false h = cc

pub yes_ask : (q i : ℕ) {b : Bool} → b ≡ true → ask q i b ≡ passes
yes_ask q i h = rw h

pub ask_each_yes : (q n : ℕ) (ok : ℕ → Bool) → ask_each q n ok ≡ passes → (j : ℕ) → j < n → ok j ≡ true
ask_each_yes q n ok h = each_yes ok n (ask_yes q (first ok 0 n) (leb n (first ok 0 n)) h)

pub yes_ask_each : (q n : ℕ) (ok : ℕ → Bool) → ((j : ℕ) → j < n → ok j ≡ true) → ask_each q n ok ≡ passes
yes_ask_each q n ok h = yes_ask q (first ok 0 n) (yes_each ok n h)

pub yes_between : (low high x : ℕ) → low ≤ x → x ≤ high → between low high x ≡ true
yes_between low high x l h = and_both (le-leb low x l) (le-leb x high h)

-- sums

pub sum_next : (g : ℕ → ℕ) (k : ℕ) → sum_to g (k + 1) ≡ sum_to g k + g k
unfolding sum_to
sum_next g k = rw add-one

pub sum_monotone : (g : ℕ → ℕ) (i j : ℕ) → i ≤ j → sum_to g i ≤ sum_to g j
unfolding sum_to
sum_monotone g i zero h = let z : i ≡ 0 = omega arith in rw z (omega arith)
sum_monotone g i (suc j) h = step (eq-or-lt_of_le h) (sum_monotone g i j)
  where
    step : (i ≡ suc j) ⊎ (i < suc j) → (i ≤ j → sum_to g i ≤ sum_to g j) → sum_to g i ≤ sum_to g j + g j
    step (inl e) next = rw e (omega arith)
    step (inr l) next = omega (arith, next (omega arith))

-- a place's own part of a sum ends within every longer sum
pub sum_room : (g : ℕ → ℕ) (i j : ℕ) → i < j → sum_to g i + g i ≤ sum_to g j
unfolding sum_to
sum_room g i j h = sum_monotone g (suc i) j h
