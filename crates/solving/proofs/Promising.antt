-- What the solution of a file promises beyond its own answer: given enough rounds the run ends solved, what is then left passes the audit,
-- and what a finishing run left is exact. These are theorems about the solution; an answer that carries the same has them too.
use mathlib.Core.Path.{◌≡◌, refl, ◌∙◌, sym, ap}
use Prim.Native.Nat.{ℕ}
use mathlib.Core.List.{List}
use Rattle.model.specs.Answers.{answer_carries}
use Rattle.model.specs.Carried.{Said, Carried, ended}
use Rattle.model.specs.Audit.{accepted, audit}
use Rattle.model.specs.Promises.{EndsSolved, Exact}
use Rattle.model.specs.Solution.{Tables, solved, solution}
use Rattle.model.specs.declared.Kind.{Kind}
use Rattle.model.specs.declared.Kind.TheVariants.{Finishing}
use Rattle.guarantee.specs.Carries.{answer_solved}
use Rattle.guarantee.proofs.Finished.{finished_exact}
use Rattle.guarantee.proofs.Guarantee.{acceptance}
use Rattle.guarantee.proofs.Ended.{solution_ends}

module _ (kind : Kind) (f : List ℕ) (budget : ℕ) (t : Tables) {carried : Carried}
    (same : carried ≡ answer_carries (solution kind f budget t).answer) where
  pub ends_solved : EndsSolved kind f budget t carried
  ends_solved file lent room =
      let by = solution_ends f budget t file lent kind room in
      let is : carried ≡ ended Said.solved by.counts = same ∙ ap answer_carries by.ends in
      rw is (refl, by.within)

  solved_so
      : carried.said ≡ Said.solved
      → (solution kind f budget t).answer ≡ solved (answer_carries (solution kind f budget t).answer).counts
  solved_so said = answer_solved (solution kind f budget t).answer (ap (λ (c : Carried). c.said) (sym same) ∙ said)

  module _ {values picks : List ℕ} (values_are : values ≡ (solution kind f budget t).tables.values)
      (picks_are : picks ≡ (solution kind f budget t).tables.picks) where
    pub passes_audit : carried.said ≡ Said.solved → audit f values picks ≡ accepted carried.counts.least
    passes_audit said = rw (values_are, picks_are, same) (acceptance kind f budget t _ (solved_so said))

    pub finishes : kind ≡ Finishing → carried.said ≡ Said.solved → Exact f values picks carried.counts.least
    finishes finishing said =
        let so = rw finishing at (solved_so said) in rw (values_are, picks_are, same, finishing) (finished_exact f budget t _ so)
