-- A front that is longer than any file that passes has the verdict of the whole file: a file that is cut fails by question 3 at the
-- latest, and before it no question sees the end.
use Rattle.std.specs.Prelude.{◌≡◌, ℕ, ◌+◌, ◌*◌, ◌≤◌, ◌<◌, Bool, List, leb, length, take}
use Rattle.std.proofs.Math.Path.{refl}
use Rattle.std.proofs.Common.{sym, ◌∙◌, ap, arith, true≢false, take_all}
use Rattle.std.proofs.Math.Decide.{dec_le}
use Rattle.std.proofs.Math.Nat.{mul-le-mul_left}
use Rattle.std.proofs.Math.Bool.{true, false}
use Rattle.std.proofs.Math.Seq.{length-take-le}
use borrow.Author.Tests.{le-leb, ne_eqb}
use Rattle.model.specs.Buffers.{ReadOf}
use Rattle.model.specs.Bytes.{u16_at}
use Rattle.model.specs.Limits.{min_settings, max_settings, max_states, max_rows, max_outcomes}
use Rattle.model.specs.Sections.{section_end, states_at, rows_at, outcomes_at, file_end}
use Rattle.model.specs.Questions.{Verdict, passes, fails, ◌then◌, ask, between, section_questions, end_question, layout_questions}
use Rattle.model.specs.Questions.{layout_questions_within}
use Rattle.guarantee.specs.WellFormed.{section_there, between_high}
use Rattle.guarantee.specs.ReadsBack.{u16_front}

-- what was read of an input: where the buffer is not full it is the input, else the input begins with it
module _ (f buffer : List ℕ) (n : ℕ) (read : ReadOf f buffer n) where
  pub read_short : n < length buffer → f ≡ take n buffer
  read_short l = go (dec_le (length f) (length buffer))
    where
      go : Dec (length f ≤ length buffer) → f ≡ take n buffer
      go (yes h) = sym (take_all (length buffer) f h) ∙ read
      go (no h) =
          absurd (omega (arith, ap length read, length-take-le n buffer (omega arith), length-take-le (length buffer) f (omega arith)))

  pub read_full : length buffer ≤ n → take (length buffer) f ≡ buffer
  read_full l = read ∙ take_all n buffer l

-- the longest file that question 2 lets through: four counts, and each section full
abbrev pub longest_file : ℕ
longest_file = 2 + 4 * max_settings + (2 + 6 * max_states) + (2 + 4 * max_rows) + (2 + 4 * max_outcomes)

then_same : (a b b' : Verdict) → (a ≡ passes → b ≡ b') → (a then b) ≡ (a then b')
then_same passes b b' h = h refl
then_same (fails q i) b b' h = refl

-- The front N of a file that is longer.
module _ (N : ℕ) (f : List ℕ) (long : N ≤ length f) where
  section_front
      : (place i size low high : ℕ) → i + 2 + size * high ≤ N
      → section_questions place i size low high (take N f) ≡ section_questions place i size low high f
  unfolding section_questions
  section_front place i size low high h =
      rw (
        length-take-le N f long,
        u16_front N f i (omega arith),
        le-leb (i + 2) N (omega arith),
        le-leb (i + 2) (length f) (omega arith),
      )
      (then_same (ask 2 place (between low high (u16_at f i))) _ _ (λ e. items (between low high (u16_at f i)) refl e))
    where
      items
          : (b : Bool) → between low high (u16_at f i) ≡ b → ask 2 place b ≡ passes
          → ask 1 place (leb (i + 2 + size * u16_at f i) N) ≡ ask 1 place (leb (i + 2 + size * u16_at f i) (length f))
      items true e p =
          let c = mul-le-mul_left size (between_high low high (u16_at f i) e) in
          rw (le-leb (i + 2 + size * u16_at f i) N (omega arith), le-leb (i + 2 + size * u16_at f i) (length f) (omega arith)) refl
      items false e p = absurd (true≢false (cc))

  section_end_lem : (size i : ℕ) → i + 2 ≤ N → section_end size (take N f) i ≡ section_end size f i
  section_end_lem size i h = rw (u16_front N f i h) refl

  pub layout_front : longest_file < N → layout_questions (take N f) ≡ layout_questions f
  unfolding layout_questions_within end_question states_at rows_at outcomes_at file_end
  layout_front h =
      let a = section_end 4 f 0 in
      let b = section_end 6 f a in
      let c = section_end 4 f b in
      let d = section_end 4 f c in
      rw (section_front 0 0 4 min_settings max_settings (omega arith), section_end_lem 4 0 (omega arith))
      (then_same (section_questions 0 0 4 min_settings max_settings f) _ _ λ s₀.
      let e₀ = (section_there 0 0 4 min_settings max_settings f s₀).count_high in
      rw (section_front 1 a 6 1 max_states (omega arith), section_end_lem 6 a (omega arith))
      (then_same (section_questions 1 a 6 1 max_states f) _ _ λ s₁.
      let e₁ = (section_there 1 a 6 1 max_states f s₁).count_high in
      rw (section_front 2 b 4 0 max_rows (omega arith), section_end_lem 4 b (omega arith))
      (then_same (section_questions 2 b 4 0 max_rows f) _ _ λ s₂.
      let e₂ = (section_there 2 b 4 0 max_rows f s₂).count_high in
      rw (section_front 3 c 4 0 max_outcomes (omega arith), section_end_lem 4 c (omega arith))
      (then_same (section_questions 3 c 4 0 max_outcomes f) _ _ λ s₃.
      let e₃ = (section_there 3 c 4 0 max_outcomes f s₃).count_high in
      rw (length-take-le N f long, ne_eqb d N (λ e. omega arith), ne_eqb d (length f) (λ e. omega arith)) refl))))
