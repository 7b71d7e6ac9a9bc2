-- What the call answers and leaves, by its questions in order: the file's, then 23.
-- Each law opens the definition once, where the question that ends the call is known.
use Rattle.std.specs.Prelude.{Result}
use mathlib.Core.Path.{◌≡◌, refl, sym, ◌∙◌, ap, subst}
use Prim.Native.Nat.{ℕ, ◌≤◌, ◌<◌}
use native.Mathlib.Omega.{arith}
use mathlib.Core.List.{List}
use lib.IntN.{pos}
use lib.ListN.{length}
use borrow.Author.Tests.{le-leb, lt-leb}
use Rattle.model.specs.Answers.{write_carries, wrote_carries}
use Rattle.model.specs.Buffers.{copied, Writing, written, refused}
use Rattle.model.specs.Carried.{sized, refusal}
use Rattle.model.specs.Promises.{Writes}
use Rattle.model.specs.Questions.{passes, fails, file_questions}
use Rattle.model.specs.SetForm.{set_form, exchange_questions_within, exchange, exchange_within}
use Rattle.model.specs.declared.Refusal.{Refusal}

module _ (f out : List ℕ) where
  stops_file : {q i : ℕ} → file_questions f ≡ fails q i → exchange f out ≡ record { answer = refused q i; left = out }
  unfolding exchange_within exchange_questions_within
  stops_file e = rw e refl

  stops_short
      : file_questions f ≡ passes → length out < length (set_form f)
      → exchange f out ≡ record { answer = refused 23 0; left = out }
  unfolding exchange_within exchange_questions_within
  stops_short e l = rw (e, lt-leb (length (set_form f)) (length out) l) refl

  writes_form
      : file_questions f ≡ passes → length (set_form f) ≤ length out
      → exchange f out ≡ record { answer = written (length (set_form f)); left = copied (set_form f) out }
  unfolding exchange_within exchange_questions_within
  writes_form e l = rw (e, le-leb (length (set_form f)) (length out) l) refl

replies
    : {a : Result ℕ Refusal} {left : List ℕ} {said x : Writing} → said ≡ x → write_carries a ≡ wrote_carries x.answer → left ≡ x.left
    → Writes a left said
replies {a} {left} e answer_is left_is =
    subst (λ s. Writes a left s) (sym e) (record { answer_is = answer_is; left_is = left_is })

module _ (f out : List ℕ) where
  pub file_refused
      : {a : Result ℕ Refusal} {q i : ℕ} → file_questions f ≡ fails q i → write_carries a ≡ refusal q i (pos 0)
      → Writes a out (exchange f out)
  file_refused e answer = replies (stops_file f out e) answer refl

  pub too_short
      : {a : Result ℕ Refusal} → file_questions f ≡ passes → length out < length (set_form f) → write_carries a ≡ refusal 23 0 (pos 0)
      → Writes a out (exchange f out)
  too_short e l answer = replies (stops_short f out e l) answer refl

  pub form_written
      : {a : Result ℕ Refusal} {left : List ℕ} {n : ℕ} → file_questions f ≡ passes → n ≡ length (set_form f) → n ≤ length out
      → write_carries a ≡ sized n → left ≡ copied (set_form f) out → Writes a left (exchange f out)
  form_written e size l answer left_is =
      replies (writes_form f out e (omega (arith, size))) (answer ∙ ap sized size) left_is
