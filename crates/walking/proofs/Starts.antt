-- Where a walk starts and what it leaves: clear marks are a walk under way, and the visit of the start is the
-- model's walk, on any graph.
use mathlib.Core.Path.{◌≡◌, sym, ◌∙◌, ap}
use Prim.Native.Nat.{ℕ, ◌≤◌}
use native.Mathlib.Omega.{arith}
use mathlib.Core.List.{List}
use lib.ListN.{length, replicate, length-replicate}
use lib.Seq.{length-take-le}
use Rattle.model.specs.Limits.{max_states}
use Rattle.model.specs.Sections.{problem_of}
use Rattle.model.specs.Walk.{Trail, walk_with}
use Rattle.guarantee.specs.Graphs.{each, clear_entry, unmarked_start, sum_to_each}
use Rattle.guarantee.specs.WellFormed.{WellFormed}
use Rattle.walking.specs.Trails.{trail, unmarked_states, picked_by, visited_state, walk_on}
use Rattle.walking.specs.Trails.{Under, OverState, WalkedOn}
use Rattle.walking.specs.Led.{led_by, WalkedBy}
use Rattle.walking.specs.Walked.{Walked}

module _ (f : List ℕ) (formed : WellFormed (problem_of f)) where
  left_clear : unmarked_states f (replicate max_states 0) ≡ (problem_of f).states
  left_clear = unmarked_start each max_states (problem_of f).states ∙ sum_to_each (problem_of f).states

  module _ (list : List ℕ) (list_long : (problem_of f).states ≤ length list) where
    pub walk_under : Under f (replicate max_states 0) list 0
    walk_under =
        record {
          list_long = list_long;
          marks_long = omega (arith, length-replicate {A = ℕ} max_states 0, formed.states_high);
          binary = λ x. omega (arith, clear_entry max_states x);
          room = omega (arith, left_clear);
        }

    pub walk_over : {graph : ℕ → List ℕ} {s : ℕ} → s ≡ (problem_of f).start → {marks' list' : List ℕ} {r : ℕ}
        → OverState f graph s (replicate max_states 0) list 0 marks' list' r → WalkedOn f graph marks' list' r
    walk_over {graph} {s} start {marks'} {list'} {r} o =
        let few : r ≤ (problem_of f).states = omega (arith, o.room, left_clear) in
        record {
          marks = sym (ap (λ (t : Trail). t.marks) same);
          list = sym (ap (λ (t : Trail). t.list) same);
          count = sym (ap (λ (t : Trail). length t.list) same ∙ length-take-le r list' (omega (arith, o.list_long)));
          few = few;
          list_long = o.list_long;
        }
      where
        same : walk_on f graph ≡ trail marks' list' r
        same =
            ap (λ x. visited_state f graph x max_states (trail (replicate max_states 0) list 0)) (sym start)
            ∙ o.same max_states (omega (arith, left_clear, formed.states_high))

-- the walk by the picks is the model's, and the one by the entries is that of their graph
pub walked_picks : {f picks marks' list' : List ℕ} {r : ℕ} → WalkedOn f (picked_by f picks) marks' list' r
    → Walked f picks marks' list' r
unfolding walk_with
walked_picks w = record { marks = w.marks; list = w.list; count = w.count; few = w.few; list_long = w.list_long }

pub walked_entries : {f entries marks' list' : List ℕ} {r : ℕ} → WalkedOn f (led_by f entries) marks' list' r
    → WalkedBy f entries list' r
walked_entries w = record { list = w.list; count = w.count; few = w.few; list_long = w.list_long }
