-- What the picks cost, as the index and the lent tables say it.
use Rattle.std.specs.Prelude.{◌≡◌, ℕ, ◌+◌, ◌*◌, ◌≤◌, ◌<◌, false, ◌&&◌, not, List, ◌⊎◌, eqb, get_or, length, take}
use Rattle.std.proofs.Common.{arith, get_or-take, length-take-le}
use Rattle.model.specs.Limits.{give_up}
use Rattle.model.specs.Sections.{problem_of}
use Rattle.model.specs.Value.{by_state}
use Rattle.model.specs.Walk.{pick_cost, least_on}
use Rattle.reading.specs.Tests.{rows_base}
use Rattle.walking.specs.Walkable.{Walkable}

-- the limit where a pick gives up, else what the index says of its row
pub record PickCosts (index : List ℕ) (pick limit r : ℕ) : Type 0 where
  pub given : pick ≡ give_up → r ≡ limit
  pub row : (pick ≡ give_up → ⊥) → r ≡ get_or index (rows_base + 2 * pick + 1) 0

-- each marked state that is no goal has an entry in the picks, and gives up there or picks a row of the file
pub record Costed (f picks marks : List ℕ) : Type 0 where
  pub long : (problem_of f).states ≤ length picks
  pub costs : (s : ℕ) → s < (problem_of f).states → (problem_of f).goal s ≡ false → (get_or marks s 0 ≡ 0 → ⊥)
      → (get_or picks s 0 ≡ give_up) ⊎ (get_or picks s 0 < (problem_of f).rows)

-- the model's step at state s
abbrev pub lower_to : List ℕ → List ℕ → List ℕ → ℕ → ℕ → ℕ
lower_to f picks marks s least =
    least_on (not ((problem_of f).goal s) && not (eqb (get_or marks s 0) 0)) (pick_cost (problem_of f) (by_state picks) s) least

-- no pick costs so much: the largest number of 32 bits
abbrev pub no_cost : ℕ
no_cost = 4294967295

-- each of the first n states of the list has an entry in the picks, and gives up there or picks a row of the file
pub record ListCosted (f index picks list : List ℕ) (n : ℕ) : Type 0 where
  pub walkable : Walkable f index
  pub few : n ≤ (problem_of f).states
  pub list_long : n ≤ length list
  pub picks_long : (problem_of f).states ≤ length picks
  pub listed : (i : ℕ) → i < n → get_or list i 0 < (problem_of f).states
  pub costs : (i : ℕ) → i < n
      → (get_or picks (get_or list i 0) 0 ≡ give_up) ⊎ (get_or picks (get_or list i 0) 0 < (problem_of f).rows)

-- the same of the part of the list with these n states
pub list_part : {f index picks list : List ℕ} {n : ℕ} → ListCosted f index picks list n
    → ListCosted f index picks (take n list) (length (take n list))
list_part {f} {index} {picks} {list} {n} h =
    let size : length (take n list) ≡ n = length-take-le n list h.list_long in
    rw size
    (record {
      walkable = h.walkable;
      few = h.few;
      list_long = omega (arith, size);
      picks_long = h.picks_long;
      listed = λ i l. rw (get_or-take n list i 0 l) (h.listed i l);
      costs = λ i l. rw (get_or-take n list i 0 l) (h.costs i l);
    })
