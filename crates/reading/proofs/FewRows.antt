-- Whether a file has few rows is told by the first of its counts that is not there, and else by that of the rows.
-- Each law is one way out of `has_few_rows`.
use mathlib.Core.Path.{◌≡◌, refl}
use Prim.Native.Nat.{ℕ, ◌+◌, ◌-◌, ◌≤◌, ◌<◌}
use native.Mathlib.Omega.{arith}
use mathlib.Core.Bool.{true}
use mathlib.Core.List.{List}
use lib.Dec.{leb}
use lib.ListN.{length}
use borrow.Author.Tests.{lt-ltb, le-ltb}
use Rattle.model.specs.Bytes.{u16_at}
use Rattle.model.specs.Sections.{states_at, rows_at}
use Rattle.reading.specs.Tests.{small_rows, few_rows}

module _ (f : List ℕ) where
  pub no_counts_lem : length f < 2 → true ≡ few_rows f
  unfolding few_rows
  no_counts_lem short = rw (lt-ltb (length f) 2 short) refl

  module _ (settings : 2 ≤ length f) {i : ℕ} (states_at_lem : i ≡ states_at f) where
    pub no_states : length f - 2 < i → true ≡ few_rows f
    unfolding few_rows
    no_states short =
        rw (le-ltb (length f) 2 settings, lt-ltb (length f) (states_at f + 2) (omega arith)) refl

    module _ (states : i ≤ length f - 2) {j : ℕ} (rows_at_lem : j ≡ rows_at f) where
      pub no_rows : length f - 2 < j → true ≡ few_rows f
      unfolding few_rows
      no_rows short =
          rw (
            le-ltb (length f) 2 settings,
            le-ltb (length f) (states_at f + 2) (omega arith),
            lt-ltb (length f) (rows_at f + 2) (omega arith),
          )
          refl

      pub rows_there : j ≤ length f - 2 → {x : ℕ} → x ≡ u16_at f j → leb x small_rows ≡ few_rows f
      unfolding few_rows
      rows_there there is =
          rw (
            le-ltb (length f) 2 settings,
            le-ltb (length f) (states_at f + 2) (omega arith),
            le-ltb (length f) (rows_at f + 2) (omega arith),
            is,
            rows_at_lem,
          )
          refl
