-- What the walk's visits ask and promise: marks and list are the model's trail, whatever the depth, if it is at least the
-- number of unmarked states. One record for what is asked, one for what is promised, over any graph of states.
use Rattle.std.specs.Prelude.{◌≡◌, ℕ, zero, suc, ◌+◌, ◌-◌, ◌*◌, ◌/◌, ◌≤◌, ◌<◌, true, false}
use Rattle.std.specs.Prelude.{List, [], ◌∷◌, get_or, length, replicate, take}
use Rattle.model.specs.Bytes.{u16_at}
use Rattle.model.specs.Limits.{max_states}
use Rattle.model.specs.Questions.{passes, layout_questions}
use Rattle.model.specs.Sections.{problem_of}
use Rattle.model.specs.Value.{by_state}
use Rattle.model.specs.Walk.{In, Trail, next, visit_state, visit_outcomes}
use Rattle.guarantee.specs.Graphs.{Step, unmarked, each}
use Rattle.guarantee.specs.WellFormed.{WellFormed}
use Rattle.reading.specs.RowParts.{part_from, part_to}
use Rattle.reading.specs.Tests.{own_at}

-- the outcomes of a pick: its own where it is one of the state's rows by the index, else none
pub record Picked (index : List ℕ) (s pick from to : ℕ) : Type 0 where
  pub own : own_at index s pick ≡ true → (from ≡ part_from index pick) × (to ≡ part_to index pick)
  pub stray : own_at index s pick ≡ false → (from ≡ 0) × (to ≡ 0)

-- the successors of k outcomes whose bytes begin at i
unfoldable pub leads_from : List ℕ → ℕ → ℕ → List ℕ
leads_from f i zero = []
leads_from f i (suc k) = u16_at f i ∷ leads_from f (i + 4) k

-- the successors of the outcomes from byte `from` up to byte `to`
abbrev pub leads : List ℕ → ℕ → ℕ → List ℕ
leads f from to = leads_from f from ((to - from) / 4)

-- the part is whole outcomes of the file, and they lead to states
pub record Outcomes (f : List ℕ) (from to : ℕ) : Type 0 where
  pub whole : to ≡ from + 4 * ((to - from) / 4)
  pub inside : to ≤ length f
  pub lead : (t : ℕ) → In t (leads f from to) → t < (problem_of f).states

-- the successors of the outcomes that a part consists of
abbrev pub leads_in : List ℕ → List ℕ
leads_in part = leads_from part 0 (length part / 4)

-- a part is whole outcomes, and they lead to states
pub record OutcomesIn (f part : List ℕ) : Type 0 where
  pub whole : length part ≡ 4 * (length part / 4)
  pub lead : (t : ℕ) → In t (leads_in part) → t < (problem_of f).states

-- the marks, and the first n of a list
abbrev pub trail : List ℕ → List ℕ → ℕ → Trail
trail marks list n = record { marks = marks; list = take n list }

-- the number of states that are not marked
abbrev pub unmarked_states : List ℕ → List ℕ → ℕ
unmarked_states f marks = unmarked each marks (problem_of f).states

-- a graph: where each state leads; those on the file's states lead from states to states
abbrev pub AmongStates : List ℕ → (ℕ → List ℕ) → Type 0
AmongStates f graph = (s t : ℕ) → s < (problem_of f).states → In t (graph s) → t < (problem_of f).states

-- what leads a walk over a file: its sections are whole and form a problem, and the graph leads from states to states
pub record Along (f : List ℕ) (graph : ℕ → List ℕ) : Type 0 where
  pub whole : layout_questions f ≡ passes
  pub formed : WellFormed (problem_of f)
  pub among : AmongStates f graph

-- a part of outcomes tells where a graph leads from state s; at a goal it is empty
pub record Told (f : List ℕ) (graph : ℕ → List ℕ) (s : ℕ) (part : List ℕ) : Type 0 where
  pub outcomes : OutcomesIn f part
  pub led : leads_in part ≡ graph s
  pub no_goal : 0 < length part → (problem_of f).goal s ≡ false

-- the graph of the picks
abbrev pub picked_by : List ℕ → List ℕ → ℕ → List ℕ
picked_by f picks = next (problem_of f) (by_state picks)

-- what a stretch of the walk over a file's states does
abbrev pub Stretch : List ℕ → (ℕ → List ℕ) → Trail → Trail → Type 0
Stretch f graph = Step (problem_of f).goal graph (problem_of f).states (λ s. s < (problem_of f).states)

-- the model's visit of a state, and of the outcomes of a part, with a depth
abbrev pub visited_state : List ℕ → (ℕ → List ℕ) → ℕ → ℕ → Trail → Trail
visited_state f graph s d w = visit_state (problem_of f).goal graph d s w

abbrev pub visited_outcomes : List ℕ → (ℕ → List ℕ) → List ℕ → ℕ → Trail → Trail
visited_outcomes f graph part d w = visit_outcomes (visit_state (problem_of f).goal graph d) (leads_in part) w

-- the model's walk from the start, with clear marks
abbrev pub walk_on : List ℕ → (ℕ → List ℕ) → Trail
walk_on f graph =
    visited_state f graph (problem_of f).start max_states (record { marks = replicate max_states 0; list = [] })

-- a walk under way: n states are listed, and there is room for those that are not marked
pub record Under (f marks list : List ℕ) (n : ℕ) : Type 0 where
  pub list_long : (problem_of f).states ≤ length list
  pub marks_long : (problem_of f).states ≤ length marks
  pub binary : (x : ℕ) → get_or marks x 0 ≤ 1
  pub room : n + unmarked_states f marks ≤ (problem_of f).states

-- what a visit leaves: the model's trail at every depth of at least the unmarked states, and a list that is still long enough
pub record Over
    (f : List ℕ) (graph : ℕ → List ℕ) (visited : ℕ → Trail → Trail) (marks list : List ℕ) (n : ℕ)
    (marks' list' : List ℕ) (r : ℕ) : Type 0 where
  pub same : (d : ℕ) → unmarked_states f marks ≤ d → visited d (trail marks list n) ≡ trail marks' list' r
  pub stretch : Stretch f graph (trail marks list n) (trail marks' list' r)
  pub grows : n ≤ r
  pub room : r + unmarked_states f marks' ≤ n + unmarked_states f marks
  pub list_long : (problem_of f).states ≤ length list'

-- the same of the visit of a state, and of the outcomes of a part
abbrev pub OverState : List ℕ → (ℕ → List ℕ) → ℕ → List ℕ → List ℕ → ℕ → List ℕ → List ℕ → ℕ → Type 0
OverState f graph s = Over f graph (visited_state f graph s)

abbrev pub OverOutcomes : List ℕ → (ℕ → List ℕ) → List ℕ → List ℕ → List ℕ → ℕ → List ℕ → List ℕ → ℕ → Type 0
OverOutcomes f graph part = Over f graph (visited_outcomes f graph part)

-- what a whole walk leaves
pub record WalkedOn (f : List ℕ) (graph : ℕ → List ℕ) (marks' list' : List ℕ) (r : ℕ) : Type 0 where
  pub marks : marks' ≡ (walk_on f graph).marks
  pub list : take r list' ≡ (walk_on f graph).list
  pub count : r ≡ length (walk_on f graph).list
  pub few : r ≤ (problem_of f).states
  pub list_long : (problem_of f).states ≤ length list'
