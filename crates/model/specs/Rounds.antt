-- "Rounds of the solver": the scan of one state's rows, the backup, the round and the run.
use Rattle.std.specs.Prelude.{ℕ, zero, suc, ◌+◌, ◌-◌, min, Bool, true, false, ◌&&◌, ◌||◌, not, List, [], ◌∷◌, ◌++◌, leb, ltb, eqb, get_or, set, length, drop, replicate}
use Rattle.model.specs.Limits.{max_states, give_up, no_pick, list_end}
use Rattle.model.specs.Problem.{Problem, give_up_cost, own_row}
use Rattle.model.specs.Value.{row_value, by_state}
use Rattle.model.specs.Walk.{walk_with}
use Rattle.model.specs.declared.Kind.{Kind}
use Rattle.model.specs.declared.Kind.TheVariants.{Plain, Finishing}

-- a scan so far: best, the pick, the evaluations counted, and what each row remembers
pub record Found : Type 0 where
  pub best : ℕ
  pub pick : ℕ
  pub count : ℕ
  pub remembered : List ℕ

-- Request E1: "Operators have decided that a stick is given up only when that is cheaper. A row whose value equals 1000 × D now beats
-- giving up; among rows the earlier pick and then row order still win. A row is skipped while giving up is best only if its remembered
-- value is above 1000 × D. Runs, solved or spent, are compared with the changed rounds.": x beats what is best so far where it is
-- below it, or equals it while giving up is best
unfoldable pub beats : ℕ → ℕ → ℕ → Bool
beats x best pick = ltb x best || (eqb pick give_up && eqb x best)

-- "it is evaluated: counted, its value remembered, and picked, becoming best, if it" beats what is best so far
unfoldable pub evaluate_on : Bool → ℕ → ℕ → Found → Found
evaluate_on true q r a = record { best = q; pick = r; count = a.count + 1; remembered = set a.remembered r q }
evaluate_on false q r a = record { best = a.best; pick = a.pick; count = a.count + 1; remembered = set a.remembered r q }

abbrev pub evaluate : ℕ → ℕ → Found → Found
evaluate q r a = evaluate_on (beats q a.best a.pick) q r a

-- "A row whose remembered value is at least best is skipped. Otherwise it is evaluated." Since E1 a row is skipped unless its
-- remembered value beats what is best so far
abbrev pub skipped : ℕ → Found → Bool
skipped r a = not (beats (get_or a.remembered r 0) a.best a.pick)

unfoldable pub consider_on : Bool → Problem → (ℕ → ℕ) → ℕ → Found → Found
consider_on true p v r a = a
consider_on false p v r a = evaluate (row_value p v r) r a

unfoldable pub consider : Problem → (ℕ → ℕ) → ℕ → Found → Found
consider p v r a = consider_on (skipped r a) p v r a

-- "Take first the row picked before, if any, then the others in row order.": the traversal of a state's rows, with what is done at a row as
-- its argument. A row is taken where the test says so
unfoldable pub taken_if : {A : Type 0} → (ℕ → A → A) → Bool → ℕ → A → A
taken_if take true r a = take r a
taken_if take false r a = a

-- "then the others in row order": k rows from r on, but for the pick before
unfoldable pub others_from : {A : Type 0} → (ℕ → A → A) → ℕ → ℕ → ℕ → A → A
others_from take prev r zero a = a
others_from take prev r (suc k) a = others_from take prev (suc r) k (taken_if take (not (eqb r prev)) r a)

-- the rows of state s: of rows 4, 5, 6, 7 with pick 6 they are 6, 4, 5, 7
unfoldable pub traverse : {A : Type 0} → (ℕ → A → A) → Problem → ℕ → ℕ → A → A
traverse take p s prev a = others_from take prev (p.first_row s) (p.row_count s) (taken_if take (own_row p s prev) prev a)

abbrev pub scan : Problem → (ℕ → ℕ) → ℕ → ℕ → Found → Found
scan p v s prev a = traverse (consider p v) p s prev a

-- the tables, the last walk's list, the evaluations so far, and whether this round so far had a rise or a changed pick
pub record Machine : Type 0 where
  pub values : List ℕ
  pub picks : List ℕ
  pub remembered : List ℕ
  pub list : List ℕ
  pub evaluations : ℕ
  pub moved : Bool

-- "Set best to 1000 × D and the pick to giving up."
abbrev pub scan_start : Problem → Machine → Found
scan_start p m = record { best = give_up_cost p; pick = give_up; count = m.evaluations; remembered = m.remembered }

abbrev pub scan_of : Problem → ℕ → Machine → Found
scan_of p s m = scan p (by_state m.values) s (get_or m.picks s 0) (scan_start p m)

-- "If best − V(s) is at least e, V(s) becomes best."
unfoldable pub raise_on : Bool → List ℕ → ℕ → ℕ → List ℕ
raise_on true values s best = set values s best
raise_on false values s best = values

-- whether a backup at s with tolerance e raises V(s)
abbrev pub rises : ℕ → ℕ → Machine → Found → Bool
rises e s m a = leb (get_or m.values s 0 + e) a.best

unfoldable pub settle : ℕ → ℕ → Machine → Found → Machine
settle e s m a =
    record {
      values = raise_on (rises e s m a) m.values s a.best;
      picks = set m.picks s a.pick;
      remembered = a.remembered;
      list = m.list;
      evaluations = a.count;
      moved = m.moved || (rises e s m a || not (eqb a.pick (get_or m.picks s 0)));
    }

unfoldable pub backup : Problem → ℕ → ℕ → Machine → Machine
backup p e s m = settle e s m (scan_of p s m)

-- "Back up the listed states in list order; later ones see earlier changes."
unfoldable pub backups : Problem → ℕ → List ℕ → Machine → Machine
backups p e [] m = m
backups p e (s ∷ ss) m = backups p e ss (backup p e s m)

-- after a walk with k marks
abbrev pub walked_with : ℕ → Problem → Machine → Machine
walked_with k p m =
    record {
      values = m.values;
      picks = m.picks;
      remembered = m.remembered;
      list = (walk_with k p (by_state m.picks)).list;
      evaluations = m.evaluations;
      moved = false;
    }

unfoldable pub round_with : ℕ → Problem → ℕ → Machine → Machine
round_with k p e m = backups p e (walk_with k p (by_state m.picks)).list (walked_with k p m)

-- how a run ends: the rounds done, and the machine as it is left
pub data Ending : Type 0 where
  solved : ℕ → Machine → Ending
  spent : ℕ → Machine → Ending

-- `budget` rounds are left, `going` says whether the round before moved something, `n` rounds are done.
-- "A round with no rise, in which each listed state's pick after its backup is the one before it, ends the run as solved. If
-- the budget is reached first, the run is spent."
unfoldable pub run_from_with : ℕ → Problem → ℕ → ℕ → Bool → ℕ → Machine → Ending
run_from_with k p e zero true n m = spent n m
run_from_with k p e zero false n m = solved n m
run_from_with k p e (suc budget) false n m = solved n m
run_from_with k p e (suc budget) true n m = let m' = round_with k p e m in run_from_with k p e budget m'.moved (suc n) m'

-- the first k entries of a table are g 0, g 1, ..; the rest stay
unfoldable pub fill_to : (ℕ → ℕ) → List ℕ → ℕ → List ℕ
fill_to g l zero = l
fill_to g l (suc k) = set (fill_to g l k) k (g k)

-- "At first V = H, no state has a pick, and each row remembers its value under H."
unfoldable pub machine_start : Problem → List ℕ → List ℕ → List ℕ → Machine
machine_start p values picks remembered =
    record {
      values = fill_to p.estimate values p.states;
      picks = fill_to (λ s. no_pick) picks p.states;
      remembered = fill_to (row_value p p.estimate) remembered p.rows;
      list = [];
      evaluations = 0;
      moved = true;
    }

-- Request E8: "A finishing run goes on, after the quiet round that would end it, with tolerance 1 until the next quiet round. .. Its counts
-- run through both parts.", also where e is 1; one budget bounds both. "The plain run remains available."
unfoldable pub goes_on_with : ℕ → Kind → Problem → ℕ → Ending → Ending
goes_on_with k Plain p budget end = end
goes_on_with k Finishing p budget (spent n m) = spent n m
goes_on_with k Finishing p budget (solved n m) = run_from_with k p 1 (budget - n) true n m

-- the run of a problem with a budget, from lent tables
abbrev pub run_of_with : ℕ → Kind → Problem → ℕ → List ℕ → List ℕ → List ℕ → Ending
run_of_with k kind p budget values picks remembered =
    goes_on_with k kind p budget (run_from_with k p p.tolerance budget true 0 (machine_start p values picks remembered))

-- with as many marks as are in force
abbrev pub walked : Problem → Machine → Machine
walked = walked_with max_states

abbrev pub round : Problem → ℕ → Machine → Machine
round = round_with max_states

abbrev pub run_from : Problem → ℕ → ℕ → Bool → ℕ → Machine → Ending
run_from = run_from_with max_states

abbrev pub goes_on : Kind → Problem → ℕ → Ending → Ending
goes_on = goes_on_with max_states

abbrev pub run_of : Kind → Problem → ℕ → List ℕ → List ℕ → List ℕ → Ending
run_of = run_of_with max_states

-- "the walk list ending in 65,535s up to the number of states; in every table entries beyond stay"
unfoldable pub list_table : ℕ → List ℕ → List ℕ → List ℕ
list_table n list table = list ++ (replicate (n - length list) list_end ++ drop n table)

-- Apart from the rounds, with no skipping and no memory: where a scan ends, best and the pick
pub record Chosen : Type 0 where
  pub best : ℕ
  pub pick : ℕ

abbrev pub pick_of : ℕ → ℕ → Chosen
pick_of best pick = record { best = best; pick = pick }

abbrev pub choose_on : Bool → ℕ → ℕ → Chosen → Chosen
choose_on true x r c = pick_of x r
choose_on false x r c = c

-- row r, of value q r, is picked if it beats what is best so far
unfoldable pub choose : (ℕ → ℕ) → ℕ → Chosen → Chosen
choose q r c = choose_on (beats (q r) c.best c.pick) (q r) r c

abbrev pub giving_up : Problem → Chosen
giving_up p = pick_of (give_up_cost p) give_up

-- the choice at s under a table v after the pick `prev`
unfoldable pub choice : Problem → (ℕ → ℕ) → ℕ → ℕ → Chosen
choice p v s prev = traverse (choose (row_value p v)) p s prev (giving_up p)

-- and its best apart from any order: the Bellman backup of document 000's definition 4, with giving up as one more choice: the least of
-- 1000 × D and the values of the state's first k rows
unfoldable pub least_value : Problem → (ℕ → ℕ) → ℕ → ℕ → ℕ
least_value p v r zero = give_up_cost p
least_value p v r (suc k) = min (row_value p v r) (least_value p v (suc r) k)

unfoldable pub bellman : Problem → (ℕ → ℕ) → ℕ → ℕ
bellman p v s = least_value p v (p.first_row s) (p.row_count s)
