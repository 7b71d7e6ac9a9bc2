-- Sound tables, an invariant of every backup: values at most 1000 × D and at most every own row's value, memories at most row values.
-- Values only rise, so row values only rise, so a remembered value stays a lower bound.
use Rattle.std.specs.Prelude.{◌≡◌, refl, ℕ, ◌≤◌, ◌<◌, Bool, false, List, length}
use Rattle.std.proofs.Common.{sym, ◌∙◌, ap, subst, arith, true≢false, length-set}
use Rattle.std.proofs.Math.Nat.{le_trans}
use Rattle.std.proofs.Math.Bool.{true}
use Rattle.std.proofs.Math.ListN.{get_or}
use Rattle.model.specs.Limits.{give_up, no_pick}
use Rattle.model.specs.Problem.{Problem, give_up_cost, end_row, own_row}
use Rattle.model.specs.Value.{row_value, by_state}
use Rattle.model.specs.Rounds.{Found, Machine, scan_start, scan_of, raise_on, rises, settle, backup, machine_start, fill_to, choice, bellman}
use Rattle.guarantee.specs.Totals.{total_low}
use Rattle.guarantee.specs.WellFormed.{WellFormed}
use Rattle.guarantee.specs.Values.{row_value-rises_all, row_value-same_states}
use Rattle.guarantee.specs.Undercuts.{NoUndercut}
use Rattle.guarantee.specs.Tables.{stored, fill_length, fill_entry}
use Rattle.guarantee.specs.Rows.{row_of_file}
use Rattle.guarantee.specs.Choosing.{Landed, at_giving_up, at_row}
use Rattle.guarantee.specs.Choosing.{choice_landed, pick_stays, order_wins, gives_up_dear}
use Rattle.guarantee.specs.Scans.{Memory, chosen, Scanned, scanned}
use Rattle.guarantee.specs.Bellman.{bellman_high, bellman_under, bellman_greatest, choice_bellman}

-- what a picks table may hold at state s: nothing, giving up, or one of its own rows
pub data Allowed (p : Problem) (s x : ℕ) : Type 0 where
  holds_none : x ≡ no_pick → Allowed p s x
  holds_giving_up : x ≡ give_up → Allowed p s x
  holds_own : own_row p s x ≡ true → Allowed p s x

pub record SoundTables (p : Problem) (values picks remembered : List ℕ) : Type 0 where
  pub values_length : p.states ≤ length values
  pub picks_length : p.states ≤ length picks
  pub remembered_length : p.rows ≤ length remembered
  pub goal_values : (s : ℕ) → s < p.states → p.goal s ≡ true → get_or values s 0 ≡ 0
  pub high : (s : ℕ) → s < p.states → get_or values s 0 ≤ give_up_cost p
  pub under : NoUndercut p (by_state values)
  pub memory : Memory p (by_state values) remembered
  pub picked : (s : ℕ) → s < p.states → Allowed p s (get_or picks s 0)
  pub goal_picks : (s : ℕ) → s < p.states → p.goal s ≡ true → get_or picks s 0 ≡ no_pick

-- soundness looks at the machine's three tables only
abbrev pub Sound : Problem → Machine → Type 0
Sound p m = SoundTables p m.values m.picks m.remembered

-- what holds of every entry, and of best at s, holds of every entry after a backup
pub raised : (P : ℕ → ℕ → Type 0) (b : Bool) (l : List ℕ) (s x : ℕ) → ((j : ℕ) → P j (get_or l j 0)) → P s x
    → (j : ℕ) → P j (get_or (raise_on b l s x) j 0)
unfolding raise_on
raised P true l s x all one = stored P l s x all one
raised P false l s x all one = all

pub raise_length : (b : Bool) (l : List ℕ) (s x : ℕ) → length (raise_on b l s x) ≡ length l
unfolding raise_on
raise_length true l s x = length-set l s x
raise_length false l s x = refl

module _ (p : Problem) (formed : WellFormed p) where
  -- "At first V = H, no state has a pick, and each row remembers its value under H": sound, whatever the lent tables hold
  pub start_sound
      : (values picks remembered : List ℕ) → p.states ≤ length values → p.states ≤ length picks → p.rows ≤ length remembered
      → Sound p (machine_start p values picks remembered)
  unfolding machine_start
  start_sound values picks remembered long_values long_picks long_remembered =
      record {
        values_length = omega (arith, fill_length p.estimate values p.states);
        picks_length = omega (arith, fill_length (λ s. no_pick) picks p.states);
        remembered_length = omega (arith, fill_length (row_value p p.estimate) remembered p.rows);
        goal_values = λ s l g. at s l ∙ formed.goal_estimate s l g;
        high = λ s l. rw (at s l) (formed.estimate_high s l);
        under = λ s r l low top. rw (at s l, same r (row_of_file p formed s r l top)) (formed.estimate_under s r l low top);
        memory = λ r l. omega (arith, fill_entry (row_value p p.estimate) remembered p.rows r long_remembered l, same r l);
        picked = λ s l. holds_none (fill_entry (λ s. no_pick) picks p.states s long_picks l);
        goal_picks = λ s l g. fill_entry (λ s. no_pick) picks p.states s long_picks l;
      }
    where
      at : (s : ℕ) → s < p.states → get_or (fill_to p.estimate values p.states) s 0 ≡ p.estimate s
      at s l = fill_entry p.estimate values p.states s long_values l

      same : (r : ℕ) → r < p.rows → row_value p (by_state (fill_to p.estimate values p.states)) r ≡ row_value p p.estimate r
      same r l = row_value-same_states p formed _ _ at r l

  -- a scan in a sound machine
  module _ (s : ℕ) (m : Machine) (state : s < p.states) (sound : Sound p m) where
    pub scan_law : Scanned p (by_state m.values) (scan_start p m) (scan_of p s m) (choice p (by_state m.values) s (get_or m.picks s 0))
    unfolding choice
    scan_law = scanned p (by_state m.values) formed s (get_or m.picks s 0) (scan_start p m) state sound.memory

    -- "built on the Bellman backup": skipping and memory change nothing
    pub best_is_bellman : (scan_of p s m).best ≡ bellman p (by_state m.values) s
    best_is_bellman =
        ap (λ c. c.best) scan_law.ends ∙ choice_bellman p (by_state m.values) s formed state (get_or m.picks s 0)

    -- best is never below the value that stands
    pub value_below_best : get_or m.values s 0 ≤ (scan_of p s m).best
    value_below_best =
        rw best_is_bellman
        (bellman_greatest p (by_state m.values) s (get_or m.values s 0) (sound.high s state) (λ r. sound.under s r state))

    pub best_high : (scan_of p s m).best ≤ give_up_cost p
    best_high = rw best_is_bellman (bellman_high p (by_state m.values) s)

    pub best_under : (r : ℕ) → p.first_row s ≤ r → r < end_row p s → (scan_of p s m).best ≤ row_value p (by_state m.values) r
    best_under r low top = rw best_is_bellman (bellman_under p (by_state m.values) s r low top)

    pub scan_landed : Landed p (by_state m.values) s (chosen (scan_of p s m))
    scan_landed = rw scan_law.ends (choice_landed p (by_state m.values) s (get_or m.picks s 0))

    -- E1: where a backup gives up, every own row costs more than giving up
    pub scan_gives_up
        : (scan_of p s m).pick ≡ give_up → (r : ℕ) → own_row p s r ≡ true → give_up_cost p < row_value p (by_state m.values) r
    scan_gives_up gives =
        gives_up_dear p formed (by_state m.values) s state (get_or m.picks s 0)
        (ap (λ c. c.pick) (sym scan_law.ends) ∙ gives)

    -- so where an own row costs no more, a backup picks a row
    pub scan_takes_row
        : (r : ℕ) → own_row p s r ≡ true → row_value p (by_state m.values) r ≤ give_up_cost p
        → own_row p s (scan_of p s m).pick ≡ true
    scan_takes_row r own cheap = go scan_landed
      where
        go : Landed p (by_state m.values) s (chosen (scan_of p s m)) → own_row p s (scan_of p s m).pick ≡ true
        go (at_giving_up e b) = absurd (omega (arith, scan_gives_up e r own))
        go (at_row picked b high) = picked

    -- E1: the row picked before stays where it is worth best; where another is picked, each row before that one costs more
    pub scan_pick_stays
        : own_row p s (get_or m.picks s 0) ≡ true → row_value p (by_state m.values) (get_or m.picks s 0) ≤ (scan_of p s m).best
        → (scan_of p s m).pick ≡ get_or m.picks s 0
    scan_pick_stays own =
        subst (λ c. row_value p (by_state m.values) (get_or m.picks s 0) ≤ c.best → c.pick ≡ get_or m.picks s 0)
        (sym scan_law.ends) (pick_stays p formed (by_state m.values) s state (get_or m.picks s 0) own)

    pub scan_order_wins
        : ((scan_of p s m).pick ≡ get_or m.picks s 0 → ⊥) → (r : ℕ) → own_row p s r ≡ true → r < (scan_of p s m).pick
        → (scan_of p s m).best < row_value p (by_state m.values) r
    scan_order_wins =
        subst
        (λ c. (c.pick ≡ get_or m.picks s 0 → ⊥) → (r : ℕ) → own_row p s r ≡ true → r < c.pick
        → c.best < row_value p (by_state m.values) r)
        (sym scan_law.ends) (order_wins p formed (by_state m.values) s state (get_or m.picks s 0))

    -- values only rise
    pub backup_rises : (e : ℕ) (t : ℕ) → get_or m.values t 0 ≤ get_or (backup p e s m).values t 0
    unfolding backup settle
    backup_rises e =
        let a = scan_of p s m in
        raised (λ t x. get_or m.values t 0 ≤ x) (rises e s m a) m.values s a.best (λ t. omega arith) value_below_best

    -- so row values only rise
    pub row_values_rise : (e r : ℕ) → row_value p (by_state m.values) r ≤ row_value p (by_state (backup p e s m).values) r
    row_values_rise e = row_value-rises_all p (total_low formed) (by_state m.values) (by_state (backup p e s m).values) (backup_rises e)

    pub pick_allowed : Allowed p s (scan_of p s m).pick
    pick_allowed = go scan_landed
      where
        go : Landed p (by_state m.values) s (chosen (scan_of p s m)) → Allowed p s (scan_of p s m).pick
        go (at_giving_up e b) = holds_giving_up e
        go (at_row own b less) = holds_own own

    -- every backup of a state that is no goal keeps a machine sound, whatever the tolerance
    pub backup_sound : (e : ℕ) → p.goal s ≡ false → Sound p (backup p e s m)
    unfolding backup settle
    backup_sound e no_goal =
        record {
          values_length = rw (raise_length b m.values s x) sound.values_length;
          picks_length = rw (length-set m.picks s a.pick) sound.picks_length;
          remembered_length = rw scan_law.size sound.remembered_length;
          goal_values =
              λ t. raised (λ t y. t < p.states → p.goal t ≡ true → y ≡ 0) b m.values s x sound.goal_values
              (λ l g. absurd (true≢false (sym g ∙ no_goal))) t;
          high = λ t. raised (λ t y. t < p.states → y ≤ give_up_cost p) b m.values s x sound.high (λ l. best_high) t;
          under =
              λ t r l low top.
              le_trans
              (raised (λ t y. (r : ℕ) → t < p.states → p.first_row t ≤ r → r < end_row p t → y ≤ row_value p (by_state m.values) r)
              b m.values s x (λ t r. sound.under t r) (λ r l. best_under r) t r l low top)
              (row_values_rise e r);
          memory = λ r l. le_trans (scan_law.memory r l) (row_values_rise e r);
          picked = λ t. stored (λ t y. t < p.states → Allowed p t y) m.picks s a.pick sound.picked (λ l. pick_allowed) t;
          goal_picks =
              λ t. stored (λ t y. t < p.states → p.goal t ≡ true → y ≡ no_pick) m.picks s a.pick sound.goal_picks
              (λ l g. absurd (true≢false (sym g ∙ no_goal))) t;
        }
      where
        a : Found
        a = scan_of p s m

        b : Bool
        b = rises e s m a

        x : ℕ
        x = a.best
