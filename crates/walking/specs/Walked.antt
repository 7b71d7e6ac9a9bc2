-- What a walk leaves: the model's marks and list. Its marks are those of the reached states, so the least over them is
-- the model's least cost: laws for whoever calls `walk` and then `least_cost`.
use Rattle.std.specs.Prelude.{◌≡◌, ℕ, ◌≤◌, List, get_or, length, take}
use Rattle.std.proofs.Math.Path.{refl}
use Rattle.std.proofs.Common.{◌∙◌}
use Rattle.model.specs.Sections.{problem_of}
use Rattle.model.specs.Value.{by_state}
use Rattle.model.specs.Walk.{at_start_lem, walk, least_to, least_cost, least_cost_with}
use Rattle.guarantee.specs.Walks.{reached_marked}
use Rattle.walking.specs.Walkable.{Walkable}

-- the marks and the first r entries of the list are the model's, and the list has an entry for each state
pub record Walked (f picks marks' list' : List ℕ) (r : ℕ) : Type 0 where
  pub marks : marks' ≡ (walk (problem_of f) (by_state picks)).marks
  pub list : take r list' ≡ (walk (problem_of f) (by_state picks)).list
  pub count : r ≡ length (walk (problem_of f) (by_state picks)).list
  pub few : r ≤ (problem_of f).states
  pub list_long : (problem_of f).states ≤ length list'

module _ {f index : List ℕ} (w : Walkable f index) (picks : List ℕ) {marks : List ℕ}
    (walked : marks ≡ (walk (problem_of f) (by_state picks)).marks) where
  pub walked_start : get_or marks (problem_of f).start 0 ≡ 1
  walked_start = rw walked (reached_marked (problem_of f) w.formed (by_state picks) (problem_of f).start at_start_lem)

  pub walked_least : (n c : ℕ) → n ≡ (problem_of f).states → c ≡ least_to (problem_of f) (by_state picks) marks n
      → c ≡ least_cost (problem_of f) (by_state picks)
  unfolding least_cost_with
  walked_least n c e h = h ∙ rw (walked, e) refl
