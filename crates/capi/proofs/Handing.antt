-- Where an opening or a report is done its numbers fit in 63 bits, by what a record shows then.
use mathlib.Core.Path.{◌≡◌, sym, ◌∙◌, ap}
use Prim.Native.Nat.{ℕ}
use native.Mathlib.Omega.{arith}
use mathlib.Core.List.{List}
use Rattle.model.specs.Answers.{follow_carries}
use Rattle.model.specs.Carried.{Said, Carried}
use Rattle.model.specs.Following.{done, Report, opening, report}
use Rattle.model.specs.Promises.{Answered}
use Rattle.model.specs.declared.Follower.{Follower}
use Rattle.guarantee.specs.Carries.{followed_done}
use Rattle.guarantee.specs.Follows.{Shown, opening_shown, report_shown}
use Rattle.following.specs.declared.Stepped.{Stepped}
use Rattle.capi.specs.Steps.{Showable}

shown_fits : (s : Stepped) (said : Report) → Answered s.answer s.follower said
    → (said.answer ≡ done → Shown said.left) → Showable s
shown_fits s said says shown =
    let low : (follow_carries s.answer s.follower).said ≡ Said.done → Shown s.follower =
    λ e. rw says.left_is
    (shown (followed_done said.answer said.left (sym (ap (λ (c : Carried). c.said) says.answer_is) ∙ e))) in
    record {
      state_fits = λ e. omega (arith, (low e).state_low);
      moves_fit = λ e. omega (arith, (low e).moves_low);
      seconds_fit = λ e. omega (arith, (low e).seconds_low);
    }

module _ (f values picks : List ℕ) (w : Follower) {s : Stepped} where
  pub opening_fits : Answered s.answer s.follower (opening f values picks w) → Showable s
  opening_fits says = shown_fits s _ says (opening_shown f values picks w)

  pub report_fits : (o : ℕ) → Answered s.answer s.follower (report f values picks w o) → Showable s
  report_fits o says = shown_fits s _ says (report_shown f values picks w o)
