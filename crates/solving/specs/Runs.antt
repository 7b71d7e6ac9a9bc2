-- What a round and a run are asked, and what they leave: the model's round, and how the model's run ends.
-- The walk list is its first entries, as many as the last walk listed; where no pick changed since, it is the walk of the picks as they are.
use Rattle.std.specs.Prelude.{◌≡◌, ℕ, ◌≤◌, Bool, true, false, is_none, IfSome, List, [], length, take}
use Rattle.model.specs.Problem.{Problem}
use Rattle.model.specs.Value.{by_state}
use Rattle.model.specs.Walk.{least_cost}
use Rattle.model.specs.Rounds.{Machine, Ending, solved, spent, round, run_from, goes_on}
use Rattle.model.specs.Solution.{Tables, tables}
use Rattle.model.specs.declared.Counts.{Counts}
use Rattle.model.specs.declared.Kind.{Kind}
use Rattle.guarantee.specs.Sound.{SoundTables}
use Rattle.walking.specs.Led.{WalkedBy}
use Rattle.reading.specs.declared.problem.Problem as Given
use Rattle.backing.specs.Backable.{machine, Kept}
use Rattle.backing.specs.Scanned.{problem_in}
use Rattle.backing.specs.declared.Memory.{Memory}
use Rattle.solving.specs.declared.run.Standing.{Standing}
use Rattle.solving.specs.declared.run.RoundDone.{RoundDone}
use Rattle.model.specs.declared.Ended.{Ended}
use Rattle.model.specs.declared.Ended.TheVariants.{Solved, Spent}
use Rattle.solving.specs.declared.run.RunDone.{RunDone}

-- the tables of a run: the values, what it has beside them, and its walk list
abbrev pub tables_with : List ℕ → Memory → List ℕ → Tables
tables_with values m list = tables values m.picks.now m.remembered.now list

-- the machine of lent tables, with a walk list, the evaluations so far, and whether something moved
abbrev pub machine_with : Tables → List ℕ → ℕ → Bool → Machine
machine_with t list count moved = machine t.values t.picks t.remembered list count moved

-- a run that ended as solved, or as spent, with the machine as it left it
abbrev pub ended_as : Ended → Machine → Ending
ended_as (Solved counts) m = solved counts.rounds m
ended_as (Spent counts) m = spent counts.rounds m

-- what it counted
abbrev pub counts_of : Ended → Counts
counts_of (Solved counts) = counts
counts_of (Spent counts) = counts

-- what a round stands on: entries that fit, and a list that is still the walk by them unless a pick changed
pub record Runnable (p : Given.Problem) (t : Tables) (entries : List ℕ) (standing : Standing) : Type 0 where
  pub sound : SoundTables (problem_in p) t.values t.picks t.remembered
  pub kept : Kept p.file.now p.index.now t.picks t.remembered entries
  pub list_long : (problem_in p).states ≤ length t.walk_list
  pub fresh : standing.turned ≡ false → WalkedBy p.file.now entries t.walk_list standing.listed

-- where a run stands before its first round
abbrev pub at_first : Standing
at_first = record { count = 0; listed = 0; turned = true }

-- a round done: the tables, the first `listed` entries of the walk list and the counts are those of the model's round;
-- where nothing moved it has C, that of the picks; and another round may follow
pub record Rounded
    (p : Given.Problem) (e : ℕ) (t : Tables) (count : ℕ) (t' : Tables) (entries' : List ℕ) (r : RoundDone) : Type 0 where
  pub same : (l : List ℕ) (b : Bool)
      → machine_with t' (take r.standing.listed t'.walk_list) r.standing.count (is_none r.quiet)
      ≡ round (problem_in p) e (machine_with t l count b)
  pub least : IfSome r.quiet (λ c. c ≡ least_cost (problem_in p) (by_state t'.picks))
  pub few : r.standing.listed ≤ (problem_in p).states
  pub list_long : (problem_in p).states ≤ length t'.walk_list
  pub kept : Kept p.file.now p.index.now t'.picks t'.remembered entries'
  pub fresh : r.standing.turned ≡ false → WalkedBy p.file.now entries' t'.walk_list r.standing.listed

-- C where a run is solved, in a problem with these picks, and 0 where it is spent
abbrev pub LeastOf : Problem → List ℕ → Ended → Type 0
LeastOf p picks (Solved counts) = counts.least ≡ least_cost p (by_state picks)
LeastOf p picks (Spent counts) = counts.least ≡ 0

-- a run done with tolerance e, of either kind: how it ended is how the model's run ends, whether or not something moved last, which its
-- answer does not look at; where it is solved C is that of the picks as they are left, else 0
pub record Ran (kind : Kind) (p : Problem) (e budget : ℕ) (t t' : Tables) (r : RunDone) : Type 0 where
  pub moved : Bool
  pub ends
      : goes_on kind p budget (run_from p e budget true 0 (machine_with t [] 0 true))
      ≡ ended_as r.ended (machine_with t' (take r.listed t'.walk_list) (counts_of r.ended).evaluations moved)
  pub few : r.listed ≤ p.states
  pub least : LeastOf p t'.picks r.ended
  pub list_long : p.states ≤ length t'.walk_list
