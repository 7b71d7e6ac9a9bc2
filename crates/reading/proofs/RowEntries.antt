-- What filling in the index needs: a cost number in its kind's range, and the entries of one row more.
use mathlib.Core.Path.{◌≡◌}
use Prim.Native.Nat.{ℕ, ◌+◌, ◌*◌, ◌≤◌}
use native.Mathlib.Numerals.{add-one}
use mathlib.Core.Bool.{true, false}
use mathlib.Core.List.{List}
use lib.Dec.{eqb}
use lib.ListN.{set}
use borrow.Author.Tests.{eq-eqb, ne_eqb}
use Rattle.model.specs.Limits.{max_seconds, min_rate, max_rate}
use Rattle.model.specs.Questions.{cost_obeys}
use Rattle.guarantee.specs.WellFormed.{between_low, between_high}
use Rattle.reading.specs.Tests.{rows_base, row_entries}

-- a cost number in its kind's range

pub seconds_fit : (kind n : ℕ) → cost_obeys (eqb kind 0) n ≡ true → kind ≡ 0 → n ≤ max_seconds
unfolding cost_obeys
seconds_fit kind n h e = between_high 1 max_seconds n (rw (eq-eqb kind 0 e) at h)

pub rate_fits : (kind n : ℕ) → cost_obeys (eqb kind 0) n ≡ true → (kind ≡ 0 → ⊥) → (min_rate ≤ n) × (n ≤ max_rate)
unfolding cost_obeys
rate_fits kind n h ne =
    let b : cost_obeys false n ≡ true = rw (ne_eqb kind 0 ne) at h in
    (between_low min_rate max_rate n b, between_high min_rate max_rate n b)

module _ (starts costs : ℕ → ℕ) (l : List ℕ) where
  pub entries_next
      : (k : ℕ) → row_entries starts costs l (k + 1)
      ≡ set (set (row_entries starts costs l k) (rows_base + 2 * k) (starts k)) (rows_base + 2 * k + 1) (costs k)
  unfolding row_entries
  entries_next k = rw (add-one k)
