-- The walk: "Walk from the start with the picks as they are." Marks and list; the states reached; the least cost on a plan.
use Rattle.std.specs.Prelude.{ℕ, zero, suc, min, Bool, true, false, ◌&&◌, not, List, [], ◌∷◌, ◌++◌, map, eqb, get_or, set, replicate}
use Rattle.model.specs.Limits.{max_states, give_up}
use Rattle.model.specs.Problem.{Problem, Outcome, give_up_cost, own_row}
use Rattle.model.specs.Value.{row_ticks}

-- being one of a list
pub data In {ℓ} {A : Type ℓ} : A → List A → Type ℓ where
  here : {a : A} {l : List A} → In a (a ∷ l)
  there : {a b : A} {l : List A} → In a l → In a (b ∷ l)

-- marks by state, 0 clear, and the walk list so far
pub record Trail : Type 0 where
  pub marks : List ℕ
  pub list : List ℕ

-- "Visiting marks the state."
abbrev pub mark : ℕ → Trail → Trail
mark s w = record { marks = set w.marks s 1; list = w.list }

-- "The state joins the walk list after them. A goal never joins."
abbrev pub join : Bool → ℕ → Trail → Trail
join true s w = w
join false s w = record { marks = w.marks; list = w.list ++ (s ∷ []) }

-- "visits its outcomes in order, which visit unmarked states"
abbrev pub visit_on : Bool → (ℕ → Trail → Trail) → ℕ → Trail → Trail
visit_on true visit t w = visit t w
visit_on false visit t w = w

unfoldable pub visit_outcomes : (ℕ → Trail → Trail) → List ℕ → Trail → Trail
visit_outcomes visit [] w = w
visit_outcomes visit (t ∷ ts) w = visit_outcomes visit ts (visit_on (eqb (get_or w.marks t 0) 0) visit t w)

-- a walk over any graph: which nodes are goals, and where each leads; `depth` bounds how deep visits nest
unfoldable pub visit_state : (ℕ → Bool) → (ℕ → List ℕ) → ℕ → ℕ → Trail → Trail
visit_state goal next zero s w = w
visit_state goal next (suc depth) s w = join (goal s) s (visit_outcomes (visit_state goal next depth) (next s) (mark s w))

-- the successors of a picked row, in order
abbrev pub successors : Problem → ℕ → List ℕ
successors p r = map (λ (o : Outcome). o.successor) (p.outcomes r)

abbrev pub next_on : Bool → Problem → ℕ → List ℕ
next_on true p r = successors p r
next_on false p r = []

-- "A goal, or a state whose pick is not one of its own rows, adds none."
unfoldable pub next : Problem → (ℕ → ℕ) → ℕ → List ℕ
next p picks s = next_on (not (p.goal s) && own_row p s (picks s)) p (picks s)

-- E9: "Each walk then begins with 2,048 marks, all clear.": with k marks; 1,024 in document 01
unfoldable pub walk_with : ℕ → Problem → (ℕ → ℕ) → Trail
walk_with k p picks = visit_state p.goal (next p picks) k p.start (record { marks = replicate k 0; list = [] })

abbrev pub walk : Problem → (ℕ → ℕ) → Trail
walk = walk_with max_states

-- "Reached states: the start, and successors of a reached state's picked row."
pub data Reached (p : Problem) (picks : ℕ → ℕ) : ℕ → Type 0 where
  at_start_lem : Reached p picks p.start
  along : {s t : ℕ} → Reached p picks s → In t (next p picks s) → Reached p picks t

-- "1000 × c or 1000 × D" of a pick
abbrev pub pick_cost_on : Bool → Problem → ℕ → ℕ
pick_cost_on true p r = give_up_cost p
pick_cost_on false p r = row_ticks p r

unfoldable pub pick_cost : Problem → (ℕ → ℕ) → ℕ → ℕ
pick_cost p picks s = pick_cost_on (eqb (picks s) give_up) p (picks s)

abbrev pub least_on : Bool → ℕ → ℕ → ℕ
least_on true c least = min c least
least_on false c least = least

-- the least over the first k states that are marked and no goals, and the start
unfoldable pub least_to : Problem → (ℕ → ℕ) → List ℕ → ℕ → ℕ
least_to p picks marks zero = pick_cost p picks p.start
least_to p picks marks (suc k) =
    least_on (not (p.goal k) && not (eqb (get_or marks k 0) 0)) (pick_cost p picks k) (least_to p picks marks k)

-- "C is the least of 1000 × c or 1000 × D over the picks at reached states that aren't goals."
unfoldable pub least_cost_with : ℕ → Problem → (ℕ → ℕ) → ℕ
least_cost_with k p picks = least_to p picks (walk_with k p picks).marks p.states

abbrev pub least_cost : Problem → (ℕ → ℕ) → ℕ
least_cost = least_cost_with max_states
