-- What a scan and a backup stand on, and how what the code holds is read as the model's: a scan so far, the machine.
-- One record for what each is asked.
use Rattle.std.specs.Prelude.{ℕ, ◌+◌, ◌-◌, ◌/◌, ◌≤◌, ◌<◌, ◌≡◌, Bool, true, false, List, length, get_or, set}
use Rattle.model.specs.Limits.{value_bound, max_rows, weight_totals}
use Rattle.model.specs.Problem.{Problem}
use Rattle.model.specs.Search.{one_of}
use Rattle.model.specs.Sections.{problem_of}
use Rattle.model.specs.Value.{weighted_sum, row_value, by_state}
use Rattle.model.specs.Walk.{In}
use Rattle.model.specs.Rounds.{taken_if, others_from, Found, Machine, pick_of, scan_of}
use Rattle.guarantee.specs.Choosing.{threshold}
use Rattle.guarantee.specs.Backups.{Open}
use Rattle.guarantee.specs.Rests.{Resting, consider_rest, RestFits}
use Rattle.reading.specs.Entries.{row_code, rest_in, Entered}
use Rattle.reading.specs.Ready.{Ready, PartThere}
use Rattle.reading.specs.Tests.{outcomes_between}

-- a count of evaluations below this has room for one more in 64 bits: it is their largest number
abbrev pub count_bound : ℕ
count_bound = 18446744073709551615

-- a scan so far, with what each row remembers beside it
abbrev pub found : ℕ → ℕ → ℕ → List ℕ → Found
found best pick count remembered = record { best = best; pick = pick; count = count; remembered = remembered }

-- what a scan goes on by: a value below `below` beats what is best so far
abbrev pub Going : ℕ → ℕ → ℕ → Type 0
Going best below pick = below ≡ threshold (pick_of best pick)

-- the tables, the walk list, the evaluations so far, and whether something moved
abbrev pub machine : List ℕ → List ℕ → List ℕ → List ℕ → ℕ → Bool → Machine
machine values picks remembered list count moved =
    record {
      values = values;
      picks = picks;
      remembered = remembered;
      list = list;
      evaluations = count;
      moved = moved;
    }

-- a scan so far with rest beside it
abbrev pub resting : ℕ → ℕ → ℕ → List ℕ → ℕ → Resting
resting best pick count remembered rest = record { found = found best pick count remembered; rest = rest }

-- the model's rows and scans of a file, under a table that is a list, with rest beside them

abbrev pub value_under : List ℕ → List ℕ → ℕ → ℕ
value_under f values r = row_value (problem_of f) (by_state values) r

abbrev pub rest_under : List ℕ → List ℕ → ℕ → Resting → Resting
rest_under f values r z = consider_rest (problem_of f) (by_state values) r z

abbrev pub rest_taken_under : Bool → List ℕ → List ℕ → ℕ → Resting → Resting
rest_taken_under b f values r z = taken_if (rest_under f values) b r z

abbrev pub rest_others_under : List ℕ → List ℕ → ℕ → ℕ → ℕ → Resting → Resting
rest_others_under f values prev r k z = others_from (rest_under f values) prev r k z

-- the k-th row where the one picked before is left out, and up to where to count k: of rows 4, 5, 6, 7 without 6 the numbers 4, 5, 6 up
-- to 7 stand for 4, 5, 7
abbrev pub other_on : Bool → ℕ → ℕ
other_on true k = k + 1
other_on false k = k

abbrev pub stop_on : Bool → ℕ → ℕ
stop_on true end = end - 1
stop_on false end = end

-- what evaluating rows under a table stands on: the index, tables that are long enough, and row values that fit
pub record Scannable (f index values remembered : List ℕ) : Type 0 where
  pub ready : Ready f index
  pub values_long : (problem_of f).states ≤ length values
  pub remembered_long : (problem_of f).rows ≤ length remembered
  pub fits : (r : ℕ) → r < (problem_of f).rows → value_under f values r < value_bound

-- row r, which has `memory` entries to be remembered in: its outcomes stand from byte `from` up to byte `to`, and with its cost and the
-- total they give its value under the table, which fits
pub record Rowed (f values : List ℕ) (memory r from to cost total : ℕ) : Type 0 where
  pub part : PartThere f (length values) from to
  pub known : one_of total weight_totals ≡ true
  pub value : cost + weighted_sum (outcomes_between f from to) (by_state values) / total ≡ value_under f values r
  pub fits : value_under f values r < value_bound
  pub few : r < max_rows
  pub there : r < memory

-- a code that is not 0 is that of the row picked before
abbrev pub Coding : List ℕ → List ℕ → ℕ → ℕ → Type 0
Coding f index code prev = (code ≡ 0 → ⊥) → (prev < (problem_of f).rows) × (code ≡ row_code index prev)

-- a pick before that is one of the rows from `first` to `end`, or lies beyond them
pub record Apart (first end prev : ℕ) : Type 0 where
  pub low : first ≤ prev
  pub off_end : prev ≡ end → ⊥

-- the entries of the states fit: each code is that of the pick, and each rest serves
pub record Kept (f index picks remembered entries : List ℕ) : Type 0 where
  pub entered : Entered f index picks entries
  pub rests : (s : ℕ) → s < (problem_of f).states → RestFits (problem_of f) s (get_or picks s 0) remembered (rest_in entries s)

-- a scan of state s done in a machine's tables: the model's scan, its pick stored, and entries that fit
pub record ScanDone (f index : List ℕ) (s : ℕ) (m : Machine) (a : Found) (picks' entries' : List ℕ) : Type 0 where
  pub same : a ≡ scan_of (problem_of f) s m
  pub picks : picks' ≡ set m.picks s a.pick
  pub kept : Kept f index picks' a.remembered entries'

-- the states of a list are no goals
abbrev pub Opens : Problem → List ℕ → Type 0
Opens p list = (s : ℕ) → In s list → Open p s
