-- The remainders that are printed are those of the model: the pick of a state with a line is a row, whose remainder was computed, or
-- giving up, which is none of the rows. Lines hang on the remainders of listed states alone.
use mathlib.Core.Path.{◌≡◌, refl, sym, ◌∙◌, ap}
use Prim.Native.Nat.{ℕ, zero, suc, ◌≤◌, ◌<◌, ◌^◌}
use native.Mathlib.Omega.{arith}
use mathlib.Core.Bool.{Bool, true, false}
use mathlib.Core.List.{List, ◌++◌}
use lib.Dec.{leb}
use lib.ListN.{get_or, length, replicate, length-replicate}
use borrow.Author.Tests.{le-leb, lt-leb}
use Rattle.model.specs.Limits.{max_states, weight_totals, max_total}
use Rattle.model.specs.Lines.{state_line, state_lines, line_on, listed}
use Rattle.model.specs.Problem.{Problem}
use Rattle.model.specs.Rounds.{fill_to}
use Rattle.model.specs.Search.{one_of}
use Rattle.model.specs.Sections.{problem_of}
use Rattle.model.specs.Value.{by_state, row_remainder, pick_remainder_on, pick_remainder}
use Rattle.guarantee.specs.Listings.{PickLine, gives_up, takes_row}
use Rattle.guarantee.specs.Tables.{fill_length, fill_entry}
use Rattle.guarantee.specs.Totals.{known_low, known_high}
use Rattle.guarantee.specs.Values.{row_remainder-low}
use Rattle.programs.specs.Remainders.{remainder_within, remainder_at, RemaindersTo}

-- the two answers of `pick_remainder`
module _ (f values : List ℕ) (pick : ℕ) where
  pub none_left : (problem_of f).rows ≤ pick → 0 ≡ remainder_within f values pick
  unfolding remainder_within
  none_left h = rw (le-leb (problem_of f).rows pick h) refl

  pub row_left
      : {x : ℕ} → pick < (problem_of f).rows → x ≡ row_remainder (problem_of f) (by_state values) pick → x ≡ remainder_within f values pick
  unfolding remainder_within
  row_left h e = rw (lt-leb (problem_of f).rows pick h) e

  -- what was computed for a state with a line is the model's
  pub line_remainder
      : (s : ℕ) → PickLine (problem_of f) (by_state values) s pick
      → remainder_within f values pick ≡ pick_remainder (problem_of f) (by_state values) pick
  line_remainder s (gives_up gives above none) = sym (none_left above) ∙ sym none
  line_remainder s (takes_row own there is) = sym (row_left there refl) ∙ sym is

-- a remainder fits into 16 bits
module _ (p : Problem) (known : one_of p.total weight_totals ≡ true) (v : ℕ → ℕ) (r : ℕ) where
  remainder_low : row_remainder p v r < max_total
  remainder_low = omega (arith, row_remainder-low p r (known_low p.total known) v, known_high p.total known)

  pub remainder_fits : {x : ℕ} → x ≡ row_remainder p v r → x < 2 ^ 16
  remainder_fits e = omega (arith, remainder_low)

  pick_remainder_low : (b : Bool) → pick_remainder_on b p v r < max_total
  pick_remainder_low true = omega arith
  pick_remainder_low false = remainder_low

-- the table of them: where there was no run, and entry by entry
pub none_filled : {f values picks : List ℕ} {n : ℕ} → n ≡ 0 → RemaindersTo f values picks n (replicate max_states 0)
unfolding fill_to
none_filled e = record { total_known = λ l. absurd (omega arith); filled = rw e refl }

module _ {f values picks table : List ℕ} {n : ℕ} (h : RemaindersTo f values picks n table) where
  pub table_long : length table ≡ max_states
  table_long =
      rw h.filled (fill_length (remainder_at f values picks) (replicate max_states 0) n ∙ length-replicate {A = ℕ} max_states 0)

  pub table_entry : (s : ℕ) → n ≤ max_states → s < n → get_or table s 0 ≡ remainder_at f values picks s
  table_entry s few l =
      let room : n ≤ length (replicate {A = ℕ} max_states 0) = omega (arith, length-replicate {A = ℕ} max_states 0) in
      rw h.filled (fill_entry (remainder_at f values picks) (replicate max_states 0) n s room l)

  pub table_low : (s : ℕ) → n ≤ max_states → s < n → get_or table s 0 < max_total
  unfolding remainder_within
  table_low s few l =
      rw (table_entry s few l)
      (pick_remainder_low (problem_of f) (h.total_known (omega arith)) _ _ (leb (problem_of f).rows (get_or picks s 0)))

-- lines with the same remainders at listed states are the same
pub lines_same
    : (values picks : List ℕ) (a b : ℕ → ℕ) (walk : List ℕ) (k : ℕ) → ((s : ℕ) → s < k → listed s walk ≡ true → a s ≡ b s)
    → state_lines values picks a walk k ≡ state_lines values picks b walk k
unfolding state_lines
lines_same values picks a b walk zero agree = refl
lines_same values picks a b walk (suc k) agree =
    rw (lines_same values picks a b walk k (λ s l. agree s (omega arith)))
    (ap (λ l. state_lines values picks b walk k ++ l) (go (listed k walk) refl))
  where
    line : ℕ → List ℕ
    line m = state_line k (get_or values k 0) (get_or picks k 0) m

    go : (c : Bool) → listed k walk ≡ c → line_on c (line (a k)) ≡ line_on c (line (b k))
    go true e = ap line (agree k (omega arith) e)
    go false e = refl
