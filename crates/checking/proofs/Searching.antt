-- A search that is put as a question: where it stops, and where it ends.
use Rattle.std.specs.Prelude.{◌≡◌, ℕ, ◌-◌, ◌≤◌, ◌<◌, Bool, false}
use Rattle.std.proofs.Common.{◌∙◌, arith, le-leb}
use Rattle.std.proofs.lemmas.Bool.{lt-leb}
use Rattle.guarantee.specs.Loops.{search_stops, search_ends}
use Rattle.model.specs.Questions.{passes, fails, ask_each}
use Rattle.model.specs.Search.{first}

module _ (q n k : ℕ) (ok : ℕ → Bool) (left : first ok 0 n ≡ first ok k (n - k)) where
  pub ask_stops : k < n → ok k ≡ false → fails q k ≡ ask_each q n ok
  ask_stops l bad = rw (left ∙ search_stops ok n k l bad, lt-leb _ _ l)

  pub ask_ends : k ≤ n → n ≤ k → passes ≡ ask_each q n ok
  ask_ends l h = rw (left ∙ search_ends ok n k l h, le-leb n n (omega arith))
