-- A round underway: the machine is sound, and the states still to be backed up are states that are no goals.
-- So it is at the start, after each walk and after each backup.
use Rattle.std.specs.Prelude.{◌≡◌, ℕ, ◌<◌, List, [], ◌∷◌, get_or}
use Rattle.std.proofs.Math.Path.{sym}
use Rattle.std.proofs.Common.{◌∙◌, ap}
use Rattle.model.specs.Problem.{Problem}
use Rattle.model.specs.Value.{by_state}
use Rattle.model.specs.Walk.{In, here, there, walk}
use Rattle.model.specs.Rounds.{Machine, scan_start, scan_of, backup, walked, choice}
use Rattle.guarantee.specs.WellFormed.{WellFormed}
use Rattle.guarantee.specs.Graphs.{in_nil}
use Rattle.guarantee.specs.Scans.{Memory, chosen, scanned}
use Rattle.guarantee.specs.Sound.{Sound, scan_law, backup_sound}
use Rattle.guarantee.specs.Backups.{Open, walk_opens, walked_sound}

pub record Underway (p : Problem) (rest : List ℕ) (m : Machine) : Type 0 where
  pub sound : Sound p m
  pub opens : (s : ℕ) → In s rest → Open p s

-- the state whose turn it is
pub turn_open : {p : Problem} {s : ℕ} {rest : List ℕ} {m : Machine} → Underway p (s ∷ rest) m → Open p s
turn_open {s = s} way = way.opens s here

pub underway_start : (p : Problem) (m : Machine) → Sound p m → Underway p [] m
underway_start p m sound = record { sound = sound; opens = λ s i. absurd (in_nil i) }

module _ (p : Problem) (formed : WellFormed p) (e : ℕ) where
  pub underway_walked : (m : Machine) → Underway p [] m → Underway p (walk p (by_state m.picks)).list (walked p m)
  underway_walked m way = record { sound = walked_sound p formed e m way.sound; opens = walk_opens p formed (by_state m.picks) }

  pub underway_backup : (s : ℕ) (rest : List ℕ) (m : Machine) → Underway p (s ∷ rest) m → Underway p rest (backup p e s m)
  underway_backup s rest m way =
      let o = turn_open way in
      record { sound = backup_sound p formed s m o.state way.sound e o.no_goal; opens = λ t i. way.opens t (there i) }

-- a scan by any memory that is at most the row values ends at the same best and pick
module _ (p : Problem) (formed : WellFormed p) (s : ℕ) (m m' : Machine) (state : s < p.states) (sound : Sound p m)
    (values : m'.values ≡ m.values) (picks : m'.picks ≡ m.picks) (low : Memory p (by_state m.values) m'.remembered) where
  ends_same : chosen (scan_of p s m') ≡ chosen (scan_of p s m)
  unfolding choice
  ends_same =
      rw (values, picks)
      ((scanned p (by_state m.values) formed s (get_or m.picks s 0) (scan_start p m') state low).ends
      ∙ sym (scan_law p formed s m state sound).ends)

  pub scan_any_memory : ((scan_of p s m').best ≡ (scan_of p s m).best) × ((scan_of p s m').pick ≡ (scan_of p s m).pick)
  scan_any_memory = (ap (λ c. c.best) ends_same, ap (λ c. c.pick) ends_same)
