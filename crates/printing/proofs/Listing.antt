-- Laws of the lines of listed states: states are marked from the front of the list on, and lines are put by state number.
use mathlib.Core.Path.{◌≡◌, refl, sym, ◌∙◌}
use Prim.Native.Nat.{ℕ, ◌+◌, ◌≤◌, ◌<◌}
use native.Mathlib.Omega.{arith}
use native.Mathlib.Numerals.{add-one}
use mathlib.Core.Bool.{Bool, true, false, ◌||◌, or-true, or-false}
use mathlib.Core.List.{List, [], ◌++◌}
use lib.ListN.{length, get_or, set, drop, replicate, length-set, length-replicate, drop_of_length-le}
use lib.Seq.{drop-cons}
use borrow.Author.Tests.{eq-eqb, ne_eqb}
use Rattle.std.proofs.Math.Decide.{ℕ_discrete}
use Rattle.std.proofs.lemmas.List.{get_or-replicate, get_or-set_other}
use Rattle.std.proofs.lemmas.Grind.{get_or-set_at}
use Rattle.model.specs.Limits.{max_states}
use Rattle.model.specs.Lines.{listed, line_on, state_line, state_lines}
use Rattle.printing.specs.Texts.{Marked}

module _ (s : ℕ) (walk : List ℕ) (k : ℕ) where
  pub listed_here : k < length walk → get_or walk k 0 ≡ s → listed s (drop k walk) ≡ true
  unfolding listed
  listed_here l e = rw (drop-cons walk k 0 l, eq-eqb (get_or walk k 0) s e) refl

  pub listed_on : k < length walk → (get_or walk k 0 ≡ s → ⊥) → listed s (drop k walk) ≡ listed s (drop (k + 1) walk)
  unfolding listed
  listed_on l e = rw (drop-cons walk k 0 l, ne_eqb (get_or walk k 0) s e, add-one) refl

  pub listed_end : length walk ≤ k → listed s (drop k walk) ≡ false
  unfolding listed
  listed_end l = rw (drop_of_length-le walk {i = k} l) refl

-- marking along the list: a state is listed exactly where it is marked, or stands in what is left
pub record Marking (marks : List Bool) (walk : List ℕ) (k : ℕ) : Type 0 where
  pub size : length marks ≡ max_states
  pub told : (s : ℕ) → s < max_states → listed s walk ≡ (get_or marks s false || listed s (drop k walk))

pub marks_start : (walk : List ℕ) → Marking (replicate max_states false) walk 0
marks_start walk =
    record { size = length-replicate max_states false; told = λ s l. rw (get_or-replicate max_states s false false) refl }

module _ (walk : List ℕ) {marks : List Bool} {k : ℕ} (h : Marking marks walk k) where
  pub marks_go_on : (t : ℕ) → t ≡ get_or walk k 0 → k < length walk → t < max_states → Marking (set marks t true) walk (k + 1)
  marks_go_on t is l inside = record { size = length-set marks t true ∙ h.size; told = λ s b. h.told s b ∙ go s (ℕ_discrete s t) }
    where
      go
          : (s : ℕ) → Dec (s ≡ t) → (get_or marks s false || listed s (drop k walk))
          ≡ (get_or (set marks t true) s false || listed s (drop (k + 1) walk))
      go s (yes e) =
          rw (listed_here s walk k l (cc), or-true (get_or marks s false), get_or-set_at marks t s true false e (omega (arith, h.size))) refl
      go s (no ne) = rw (listed_on s walk k l (λ e. ne (cc)), get_or-set_other marks t s true false ne) refl

  pub marks_skip : (t : ℕ) → t ≡ get_or walk k 0 → k < length walk → max_states ≤ t → Marking marks walk (k + 1)
  marks_skip t is l beyond = record { size = h.size; told = λ s b. h.told s b ∙ rw (listed_on s walk k l (λ e. omega arith)) refl }

  pub marks_end : length walk ≤ k → Marked marks walk
  marks_end l =
      record {
        size = h.size;
        tells = λ s b. sym (h.told s b ∙ rw (listed_end s walk k l) (or-false (get_or marks s false)));
      }

-- the lines of no states, and of one more
module _ (values picks : List ℕ) (remainder : ℕ → ℕ) (walk : List ℕ) where
  pub no_lines : state_lines values picks remainder walk 0 ≡ []
  unfolding state_lines
  no_lines = refl

  pub lines_next
      : (k : ℕ) {b : Bool} → b ≡ listed k walk → state_lines values picks remainder walk (k + 1)
      ≡ state_lines values picks remainder walk k ++ line_on b (state_line k (get_or values k 0) (get_or picks k 0) (remainder k))
  unfolding state_lines
  lines_next k told = rw (told, add-one k) refl
