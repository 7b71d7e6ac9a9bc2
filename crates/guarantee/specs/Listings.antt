-- The states that `plan` prints a line for: each was backed up in the last round, and a backup leaves one of the state's rows or giving up.
-- By induction on the list: a backup gives its state a pick, and keeps those of the states before. After solved they are the reached
-- states that are no goals, since the last round's list is the walk of the picks that it left.
use Rattle.std.specs.Prelude.{◌≡◌, refl, ℕ, zero, suc, ◌-◌, ◌≤◌, ◌<◌, Bool, true, false, ◌||◌, ◌⊎◌, ◌↔◌, eqb, get_or, length, take, drop, replicate}
use Rattle.std.proofs.Common.{sym, ap, arith, true≢false, eqb-true, eq-eqb}
use mathlib.Core.List.{List, [], ◌∷◌, ◌++◌}
use Rattle.std.proofs.Math.Logic.{inl, inr, ⊎_elim}
use Rattle.std.proofs.lemmas.List.{length-replicate}
use Rattle.model.specs.Limits.{give_up, list_end}
use Rattle.model.specs.Problem.{Problem, own_row}
use Rattle.model.specs.Value.{by_state, row_remainder, pick_remainder}
use Rattle.model.specs.Sections.{problem_of}
use Rattle.model.specs.Walk.{In, here, there, walk, Reached}
use Rattle.model.specs.Lines.{listed, run_states}
use Rattle.model.specs.Rounds.{Machine, Ending, solved, spent, scan_of, backup, backups, walked, round, round_with}
use Rattle.model.specs.Rounds.{machine_start, list_table}
use Rattle.model.specs.declared.Counts.{Counts}
use Rattle.model.specs.declared.Kind.{Kind}
use Rattle.model.specs.Solution.{Tables, Solution, solved as answer_solved, solution_of, solution_of_with, solution}
use Rattle.guarantee.specs.WellFormed.{WellFormed, well_formed}
use Rattle.guarantee.specs.Values.{pick_remainder-give, pick_remainder-row}
use Rattle.guarantee.specs.Searches.{or_right}
use Rattle.guarantee.specs.Walks.{own_row_lem, reached_state, listed_reached, listed_open, reached_listed, listed_number}
use Rattle.guarantee.specs.Rows.{row_no_mark}
use Rattle.guarantee.specs.Graphs.{in_cons, in_nil, set_entry}
use Rattle.guarantee.specs.Choosing.{OwnPick, landed_pick}
use Rattle.guarantee.specs.Sound.{Sound, scan_landed, backup_sound}
use Rattle.guarantee.specs.Backups.{Open, machine_of, backup_picks, walk_opens, round_list, walked_sound, round_sound}
use Rattle.guarantee.specs.Backups.{whole_run_keeps}
use Rattle.guarantee.specs.Solutions.{Told, TurnedDown, ran, told, lent_sound, run_with, solved_by, solved_ends}

abbrev Has : Problem → Machine → ℕ → Type 0
Has p m s = OwnPick p s (get_or m.picks s 0)

-- the machine is sound, and each state of the last walk has a pick
record Picked (p : Problem) (m : Machine) : Type 0 where
  pub sound : Sound p m
  pub has : (s : ℕ) → In s m.list → Has p m s

module _ (p : Problem) (formed : WellFormed p) (e : ℕ) where
  backup_has : (s : ℕ) (m : Machine) → Open p s → Sound p m → (j : ℕ) → (j ≡ s) ⊎ Has p m j → Has p (backup p e s m) j
  backup_has s m o sound =
      rw (backup_picks p e s m)
      (set_entry (λ j x. (j ≡ s) ⊎ Has p m j → OwnPick p j x) m.picks s (scan_of p s m).pick
      (omega (arith, o.state, sound.picks_length))
      (λ j other. ⊎_elim (λ same. absurd (other same)) (λ has. has))
      (λ h. landed_pick (scan_landed p formed s m o.state sound)))

  backups_have
      : (l : List ℕ) (m : Machine) → ((s : ℕ) → In s l → Open p s) → Sound p m
      → (j : ℕ) → In j l ⊎ Has p m j → Has p (backups p e l m) j
  unfolding backups
  backups_have [] m opens sound j h = ⊎_elim (λ i. absurd (in_nil i)) (λ has. has) h
  backups_have (s ∷ l) m opens sound j h =
      let o = opens s here in
      backups_have l (backup p e s m) (λ t i. opens t (there i)) (backup_sound p formed s m o.state sound e o.no_goal) j
      (⊎_elim
      (λ i. ⊎_elim (λ same. inr (backup_has s m o sound j (inl same))) (λ later. inl later) (in_cons i))
      (λ has. inr (backup_has s m o sound j (inr has))) h)

  round_picked : (m : Machine) → Picked p m → Picked p (round p e m)
  unfolding round_with
  round_picked m h =
      let picks = by_state m.picks in
      record {
        sound = round_sound p formed e m h.sound;
        has =
            λ s i.
            backups_have (walk p picks).list (walked p m) (walk_opens p formed picks) (walked_sound p formed e m h.sound) s
            (inl (rw (round_list p e m) at i));
      }

-- a state that is listed among the first n entries of one list after another stands in the first, or among those that are left
listed_parts
    : (s n : ℕ) (a b : List ℕ) → listed s (take n (a ++ b)) ≡ true → In s a ⊎ (listed s (take (n - length a) b) ≡ true)
unfolding listed
listed_parts s n [] b h = let all : n - 0 ≡ n = omega arith in inr (rw all h)
listed_parts s zero (x ∷ a) b h = absurd (true≢false (sym h))
listed_parts s (suc n) (x ∷ a) b h = go (eqb x s) refl h (listed_parts s n a b)
  where
    go
        : (c : Bool) → eqb x s ≡ c → (c || listed s (take n (a ++ b))) ≡ true
        → (listed s (take n (a ++ b)) ≡ true → In s a ⊎ (listed s (take (n - length a) b) ≡ true))
        → In s (x ∷ a) ⊎ (listed s (take (suc n - suc (length a)) b) ≡ true)
    go true e h rest = inl (rw (eqb-true x s e) here)
    go false e h rest =
        let less : suc n - suc (length a) ≡ n - length a = omega arith in
        ⊎_elim (λ i. inl (there i)) (λ k. inr (rw less k)) (rest h)

copies_alike : (n x : ℕ) {s : ℕ} → In s (replicate n x) → s ≡ x
copies_alike zero x i = absurd (in_nil i)
copies_alike (suc n) x i = ⊎_elim (λ same. same) (copies_alike n x) (in_cons i)

-- among the first n entries of a walk list that was padded to n, a state stands in the list itself
table_listed
    : (s n : ℕ) (list table : List ℕ) → s < list_end → listed s (take n (list_table n list table)) ≡ true → In s list
unfolding list_table listed
table_listed s n list table low h = ⊎_elim (λ i. i) padding (listed_parts s n list _ h)
  where
    k : ℕ
    k = n - length list

    padding : listed s (take k (replicate k list_end ++ drop n table)) ≡ true → In s list
    padding h = ⊎_elim (λ i. absurd (omega (arith, copies_alike k list_end i))) none (listed_parts s k (replicate k list_end) _ h)
      where
        none : listed s (take (k - length (replicate k list_end)) (drop n table)) ≡ true → In s list
        none h =
            let nothing : k - length (replicate k list_end) ≡ 0 = omega (arith, length-replicate {A = ℕ} k list_end) in
            absurd (true≢false (sym (rw nothing at h)))

-- and the states of a list that has room are among them
listed_first : (s n : ℕ) (a b : List ℕ) → length a ≤ n → In s a → listed s (take n (a ++ b)) ≡ true
unfolding listed
listed_first s n [] b l i = absurd (in_nil i)
listed_first s zero (x ∷ a) b l i = absurd (omega arith)
listed_first s (suc n) (x ∷ a) b l i =
    ⊎_elim (λ e. rw (eq-eqb x s (sym e)) refl) (λ j. or_right (eqb x s) (listed_first s n a b (omega arith) j)) (in_cons i)

table_lists
    : (s n : ℕ) (list table : List ℕ) → length list ≤ n → In s list → listed s (take n (list_table n list table)) ≡ true
unfolding list_table
table_lists s n list table l i = listed_first s n list _ l i

-- what the line of state s says of its pick x: it gives up, which is no row's number, with remainder 0, or takes one of the state's own
-- rows, with that row's remainder
pub data PickLine (p : Problem) (v : ℕ → ℕ) (s x : ℕ) : Type 0 where
  gives_up : x ≡ give_up → p.rows ≤ x → pick_remainder p v x ≡ 0 → PickLine p v s x
  takes_row : own_row p s x ≡ true → x < p.rows → pick_remainder p v x ≡ row_remainder p v x → PickLine p v s x

pick_line : (p : Problem) → WellFormed p → (v : ℕ → ℕ) (s x : ℕ) → s < p.states → OwnPick p s x → PickLine p v s x
pick_line p formed v s x l (inl gives) = gives_up gives (omega (arith, formed.rows_high)) (rw gives (pick_remainder-give p v))
pick_line p formed v s x l (inr own) =
    takes_row own (own_row_lem p formed s x l own) (pick_remainder-row p v x (λ e. omega (arith, row_no_mark p formed s x l own)))

-- a state with a line among those that are printed of a solution
abbrev pub HasLine : Problem → Solution → ℕ → Type 0
HasLine p x s =
    let n = run_states x.answer p.states in (s < n) × (listed s (take n x.tables.walk_list) ≡ true)

-- however the call ends: each such state has a pick
module _ (kind : Kind) (f : List ℕ) (budget : ℕ) (t : Tables) where
  abbrev Lines : Solution → Type 0
  Lines x = (s : ℕ) → HasLine (problem_of f) x s → PickLine (problem_of f) (by_state x.tables.values) s (get_or x.tables.picks s 0)

  pub lines_pick : Lines (solution kind f budget t)
  unfolding run_states solution_of_with machine_start
  lines_pick = go (told kind f budget t)
    where
      p : Problem
      p = problem_of f

      line : WellFormed p → (m : Machine) → Picked p m → (s : ℕ) → s < p.states
          → listed s (take p.states (list_table p.states m.list t.walk_list)) ≡ true
          → PickLine p (by_state m.values) s (get_or m.picks s 0)
      line formed m picked s l h =
          let low : s < list_end = omega (arith, formed.states_high) in
          pick_line p formed _ s _ l (picked.has s (table_listed s p.states m.list t.walk_list low h))

      on : WellFormed p → (run : Ending) → Picked p (machine_of run) → Lines (solution_of p t.walk_list run)
      on formed (solved n m) picked s h = line formed m picked s h.0 h.1
      on formed (spent n m) picked s h = line formed m picked s h.0 h.1

      go : Told kind f budget t → Lines (solution kind f budget t)
      go (TurnedDown q i e is) = rw is (λ s h. absurd (omega (arith, h.0)))
      go (ran file lent is) =
          let formed = well_formed f file in
          let start : Picked p (machine_start p t.values t.picks t.remembered) =
          record { sound = lent_sound f budget t file lent; has = λ s i. absurd (in_nil i) } in
          rw is
          (on formed (run_with kind f budget t) (whole_run_keeps p (λ n. Picked p) (λ e n. round_picked p formed e) kind budget _ _ _ start))

  -- After solved: the list left is that of the walk of the picks left, and 65,535s.
  module _ (c : Counts) (h : (solution kind f budget t).answer ≡ answer_solved c) where
    pub solved_list
        : (solution kind f budget t).tables.walk_list
        ≡ list_table (problem_of f).states (walk (problem_of f) (by_state (solution kind f budget t).tables.picks)).list t.walk_list
    solved_list =
        let by = solved_by kind f budget t c h in
        rw by.left (ap (λ l. list_table (problem_of f).states l t.walk_list) (solved_ends kind f budget t by).listed)

    -- so the states with a line are those that the plan comes to, goals aside
    pub solved_lines
        : (s : ℕ) → HasLine (problem_of f) (solution kind f budget t) s
        ↔ (Reached (problem_of f) (by_state (solution kind f budget t).tables.picks) s × ((problem_of f).goal s ≡ false))
    unfolding run_states
    solved_lines s = rw h (rw solved_list (on, back))
      where
        p : Problem
        p = problem_of f

        picks : ℕ → ℕ
        picks = by_state (solution kind f budget t).tables.picks

        formed : WellFormed p
        formed = well_formed f (solved_by kind f budget t c h).file

        Line : Type 0
        Line = (s < p.states) × (listed s (take p.states (list_table p.states (walk p picks).list t.walk_list)) ≡ true)

        on : Line → Reached p picks s × (p.goal s ≡ false)
        on line =
            let low : s < list_end = omega (arith, formed.states_high, line.0) in
            let i = table_listed s p.states (walk p picks).list t.walk_list low line.1 in
            (listed_reached p formed picks s i, listed_open p formed picks s i)

        back : Reached p picks s × (p.goal s ≡ false) → Line
        back r = (
          reached_state p formed picks s r.0,
          table_lists s p.states (walk p picks).list t.walk_list (listed_number p formed picks)
              (reached_listed p formed picks s r.0 r.1),
        )
