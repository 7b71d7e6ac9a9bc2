-- What lent tables hold at first does not matter, only that they are long enough: two calls on one file, of one kind and with one budget,
-- give one answer, one text, and tables with the same entries at states and rows. Cutting tables to these commutes with every step.
use Rattle.std.specs.Prelude.{◌≡◌, eqb, get_or, length, take, drop, replicate}
use Rattle.std.proofs.Math.Path.{refl, sym, ap, ap₂}
use Rattle.std.proofs.Common.{◌∙◌, arith, length-append, get_or-take}
use Prim.Native.Nat.{ℕ, zero, suc, ◌-◌, ◌≤◌, ◌<◌}
use Rattle.std.proofs.Math.Bool.{Bool, true, false}
use mathlib.Core.List.{List, [], ◌∷◌, ◌++◌, append_assoc}
use Rattle.std.proofs.lemmas.List.{length-replicate, take-append-le}
use Rattle.std.proofs.Math.Seq.{take-set-lt, take-take}
use Rattle.model.specs.Limits.{give_up, no_pick, list_end}
use Rattle.model.specs.Problem.{Problem}
use Rattle.model.specs.Value.{row_value, by_state, pick_remainder, pick_remainder_on}
use Rattle.model.specs.Sections.{problem_of}
use Rattle.model.specs.Questions.{Verdict, passes, fails, ◌then◌, file_questions}
use Rattle.model.specs.Walk.{In, here, there, walk, least_to, least_cost, least_cost_with, pick_cost}
use Rattle.model.specs.Lines.{state_line, listed, line_on, state_lines, remainders_of, run_states, plan_text}
use Rattle.model.specs.Rounds.{Found, Machine, Ending, solved, spent, evaluate_on, consider_on, consider, skipped, scan_of}
use Rattle.model.specs.Rounds.{beats, raise_on, rises, settle, backup, backups, walked, round, round_with, run_from, run_from_with}
use Rattle.model.specs.Rounds.{machine_start, goes_on, goes_on_with, list_table}
use Rattle.model.specs.declared.Kind.{Kind}
use Rattle.model.specs.declared.Kind.TheVariants.{Plain, Finishing}
use Rattle.model.specs.Solution.{Tables, tables, Answer, Solution, tables_of, solve_questions, solution_of, solution_of_with}
use Rattle.model.specs.Solution.{solution}
use Rattle.guarantee.specs.Searches.{then_first, then_next}
use Rattle.guarantee.specs.Tables.{front_entry, fill_front}
use Rattle.guarantee.specs.WellFormed.{WellFormed, well_formed}
use Rattle.guarantee.specs.Values.{row_value-same_states, row_remainder-same_states}
use Rattle.guarantee.specs.Walks.{own_row_lem, walk_same}
use Rattle.guarantee.specs.Traversals.{both_keep}
use Rattle.guarantee.specs.Backups.{Open, walk_opens}
use Rattle.guarantee.specs.Solutions.{questions, lent_long, solution_run, solution_refused}
use Rattle.guarantee.specs.Listings.{HasLine, PickLine, gives_up, takes_row, lines_pick}

-- Tables cut to the states and rows: those of a scan so far, of a machine, of an ending, and of a solution.

abbrev cut_found : Problem → Found → Found
cut_found p a = record { best = a.best; pick = a.pick; count = a.count; remembered = take p.rows a.remembered }

abbrev cut_machine : Problem → Machine → Machine
cut_machine p m =
    record {
      values = take p.states m.values;
      picks = take p.states m.picks;
      remembered = take p.rows m.remembered;
      list = m.list;
      evaluations = m.evaluations;
      moved = m.moved;
    }

abbrev cut_ending : Problem → Ending → Ending
cut_ending p (solved n m) = solved n (cut_machine p m)
cut_ending p (spent n m) = spent n (cut_machine p m)

abbrev pub cut_tables : Problem → Tables → Tables
cut_tables p t =
    let n = p.states in tables (take n t.values) (take n t.picks) (take p.rows t.remembered) (take n t.walk_list)

abbrev pub cut : Problem → Solution → Solution
cut p x = record { answer = x.answer; tables = cut_tables p x.tables }

-- the solution that a run from a machine leaves, with a lent walk list, and the lines of the first k states

abbrev ran_from : Problem → Kind → ℕ → List ℕ → Machine → Solution
ran_from p kind budget lent m = solution_of p lent (goes_on kind p budget (run_from p p.tolerance budget true 0 m))

abbrev lines_of : Problem → List ℕ → List ℕ → List ℕ → ℕ → List ℕ
lines_of p values picks list k = state_lines values picks (remainders_of p values picks) list k

raise_cut : (c : Bool) (n : ℕ) (l : List ℕ) (s x : ℕ) → s < n → raise_on c (take n l) s x ≡ take n (raise_on c l s x)
unfolding raise_on
raise_cut true n l s x h = sym (take-set-lt n l s x h)
raise_cut false n l s x h = refl

-- the list of a walk in any table, padded to n
list_front : (n : ℕ) (list t t' : List ℕ) → take n (list_table n list t) ≡ take n (list_table n list t')
unfolding list_table
list_front n list t t' = padded t ∙ sym (padded t')
  where
    pad : List ℕ
    pad = replicate (n - length list) list_end

    padded : (t : List ℕ) → take n (list ++ (pad ++ drop n t)) ≡ take n (list ++ pad)
    padded t =
        ap (take n) (sym (append_assoc list pad (drop n t)))
        ∙ take-append-le n (list ++ pad) (drop n t)
        (omega (arith, length-append list pad, length-replicate {A = ℕ} (n - length list) list_end))

run_states_low : (a : Answer) (n : ℕ) → run_states a n ≤ n
unfolding run_states
run_states_low (Answer.solved c) n = omega arith
run_states_low (Answer.spent c) n = omega arith
run_states_low (Answer.refused q i) n = omega arith

module _ (p : Problem) (formed : WellFormed p) where
  -- a row, a state, a round and a run look at entries of states and rows, and write to these

  entry_cut : (l : List ℕ) (s : ℕ) → s < p.states → by_state (take p.states l) s ≡ by_state l s
  entry_cut l s = get_or-take p.states l s 0

  evaluate_cut : (c : Bool) (q r : ℕ) (a : Found) → r < p.rows → evaluate_on c q r (cut_found p a) ≡ cut_found p (evaluate_on c q r a)
  unfolding evaluate_on
  evaluate_cut true q r a l = rw (take-set-lt p.rows a.remembered r q l) refl
  evaluate_cut false q r a l = rw (take-set-lt p.rows a.remembered r q l) refl

  consider_cut
      : (v w : ℕ → ℕ) → ((s : ℕ) → s < p.states → w s ≡ v s) → (r : ℕ) (a : Found) → r < p.rows
      → consider p w r (cut_found p a) ≡ cut_found p (consider p v r a)
  unfolding consider consider_on
  consider_cut v w same r a l = rw (get_or-take p.rows a.remembered r 0 l) (go (skipped r a))
    where
      go : (c : Bool) → consider_on c p w r (cut_found p a) ≡ cut_found p (consider_on c p v r a)
      go true = refl
      go false =
          rw (row_value-same_states p formed w v same r l) (evaluate_cut (beats (row_value p v r) a.best a.pick) (row_value p v r) r a l)

  scan_cut : (s : ℕ) (m : Machine) → s < p.states → scan_of p s (cut_machine p m) ≡ cut_found p (scan_of p s m)
  scan_cut s m l =
      let v = by_state m.values in
      let w = by_state (take p.states m.values) in
      rw (entry_cut m.picks s l)
      (both_keep p s (get_or m.picks s 0) (consider p w) (consider p v) (λ a b. a ≡ cut_found p b) _ _
      (λ r a b own e. ap (consider p w r) e ∙ consider_cut v w (entry_cut m.values) r b (own_row_lem p formed s r l own)) refl)

  backup_cut : (e s : ℕ) (m : Machine) → s < p.states → backup p e s (cut_machine p m) ≡ cut_machine p (backup p e s m)
  unfolding backup settle
  backup_cut e s m l =
      let n = p.states in
      let a = scan_of p s m in
      rw (
        scan_cut s m l,
        entry_cut m.values s l,
        entry_cut m.picks s l,
        take-set-lt n m.picks s a.pick l,
        raise_cut (rises e s m a) n m.values s a.best l,
      )
      refl

  backups_cut
      : (e : ℕ) (l : List ℕ) (m : Machine) → ((s : ℕ) → In s l → Open p s) → backups p e l (cut_machine p m) ≡ cut_machine p (backups p e l m)
  unfolding backups
  backups_cut e [] m opens = refl
  backups_cut e (s ∷ l) m opens =
      ap (backups p e l) (backup_cut e s m (opens s here).state) ∙ backups_cut e l (backup p e s m) (λ t i. opens t (there i))

  round_cut : (e : ℕ) (m : Machine) → round p e (cut_machine p m) ≡ cut_machine p (round p e m)
  unfolding round_with
  round_cut e m =
      let picks = by_state m.picks in
      rw (walk_same p formed (by_state (take p.states m.picks)) picks (entry_cut m.picks))
      (backups_cut e (walk p picks).list (walked p m) (walk_opens p formed picks))

  run_cut
      : (e budget : ℕ) (going : Bool) (n : ℕ) (m : Machine)
      → run_from p e budget going n (cut_machine p m) ≡ cut_ending p (run_from p e budget going n m)
  unfolding run_from_with
  run_cut e zero true n m = refl
  run_cut e zero false n m = refl
  run_cut e (suc budget) false n m = refl
  run_cut e (suc budget) true n m = rw (round_cut e m) (run_cut e budget (round p e m).moved (suc n) (round p e m))

  goes_on_cut : (kind : Kind) (budget : ℕ) (end : Ending) → goes_on kind p budget (cut_ending p end) ≡ cut_ending p (goes_on kind p budget end)
  unfolding goes_on_with
  goes_on_cut Plain budget end = refl
  goes_on_cut Finishing budget (spent n m) = refl
  goes_on_cut Finishing budget (solved n m) = run_cut 1 (budget - n) true n m

  -- C looks at the picks of states alone
  least_cut : (picks picks' : ℕ → ℕ) → ((s : ℕ) → s < p.states → picks s ≡ picks' s) → least_cost p picks ≡ least_cost p picks'
  unfolding least_cost_with least_to pick_cost
  least_cut picks picks' same = rw (← walk_same p formed picks picks' same) (to p.states (omega arith))
    where
      to : (k : ℕ) → k ≤ p.states → least_to p picks (walk p picks).marks k ≡ least_to p picks' (walk p picks).marks k
      to zero l = rw (same p.start formed.start_state) refl
      to (suc k) l = rw (to k (omega arith), same k (omega arith)) refl

  tables_cut : (lent : List ℕ) (m : Machine) → cut_tables p (tables_of p lent m) ≡ cut_tables p (tables_of p [] (cut_machine p m))
  tables_cut lent m =
      let n = p.states in
      rw (
        take-take n n m.values (omega arith),
        take-take n n m.picks (omega arith),
        take-take p.rows p.rows m.remembered (omega arith),
        list_front n m.list lent [],
      )
      refl

  left_cut
      : (lent : List ℕ) (end : Ending) → cut p (solution_of p lent end) ≡ cut p (solution_of p [] (cut_ending p end))
  unfolding solution_of_with
  left_cut lent (solved n m) =
      rw (least_cut (by_state (take p.states m.picks)) (by_state m.picks) (entry_cut m.picks), tables_cut lent m)
      refl
  left_cut lent (spent n m) = rw (tables_cut lent m) refl

  ran_cut
      : (kind : Kind) (budget : ℕ) (lent : List ℕ) (m : Machine)
      → cut p (ran_from p kind budget lent m) ≡ cut p (ran_from p kind budget [] (cut_machine p m))
  ran_cut kind budget lent m =
      let run = run_from p p.tolerance budget true 0 m in
      rw (run_cut p.tolerance budget true 0 m, goes_on_cut kind budget run) (left_cut lent (goes_on kind p budget run))

  -- a line looks at its state, and at the successors of its pick

  remainder_cut
      : (values : List ℕ) (s x : ℕ) → PickLine p (by_state values) s x
      → pick_remainder p (by_state (take p.states values)) x ≡ pick_remainder p (by_state values) x
  unfolding pick_remainder
  remainder_cut values s x (gives_up gives high none) = rw gives refl
  remainder_cut values s x (takes_row own low its) = go (eqb x give_up)
    where
      go : (b : Bool) → pick_remainder_on b p (by_state (take p.states values)) x ≡ pick_remainder_on b p (by_state values) x
      go true = refl
      go false = row_remainder-same_states p formed _ _ (entry_cut values) x low

  lines_cut
      : (values picks list : List ℕ) (k : ℕ) → k ≤ p.states
      → ((s : ℕ) → s < k → listed s list ≡ true → PickLine p (by_state values) s (get_or picks s 0))
      → lines_of p (take p.states values) (take p.states picks) list k ≡ lines_of p values picks list k
  unfolding state_lines
  lines_cut values picks list zero h picked = refl
  lines_cut values picks list (suc k) h picked =
      ap₂ (λ a b. a ++ b) (lines_cut values picks list k (omega arith) (λ s l. picked s (omega arith))) (go (listed k list) refl)
    where
      line : Bool → List ℕ → List ℕ → List ℕ
      line b v c = line_on b (state_line k (get_or v k 0) (get_or c k 0) (remainders_of p v c k))

      go : (b : Bool) → listed k list ≡ b → line b (take p.states values) (take p.states picks) ≡ line b values picks
      go true e = rw (entry_cut values k h, entry_cut picks k h, remainder_cut values k _ (picked k (omega arith) e)) refl
      go false e = refl

  text_cut
      : (x : Solution) → ((s : ℕ) → HasLine p x s → PickLine p (by_state x.tables.values) s (get_or x.tables.picks s 0))
      → plan_text p (cut p x) ≡ plan_text p x
  unfolding plan_text
  text_cut x picked =
      let k = run_states x.answer p.states in
      let few = run_states_low x.answer p.states in
      let list = x.tables.walk_list in
      rw (
        take-take k p.states list few,
        lines_cut x.tables.values x.tables.picks (take k list) k few (λ s l line. picked s (l, line)),
      )
      refl

-- Two calls on one file.
module _ (kind : Kind) (f : List ℕ) (budget : ℕ) (t t' : Tables) where
  -- With tables that are long enough they leave one answer, and at states and rows the same tables.
  module _ (file : file_questions f ≡ passes) (lent : solve_questions (problem_of f) budget t ≡ passes)
      (lent' : solve_questions (problem_of f) budget t' ≡ passes) where
    pub lent_alike : cut (problem_of f) (solution kind f budget t) ≡ cut (problem_of f) (solution kind f budget t')
    unfolding machine_start
    lent_alike =
        let p = problem_of f in
        let formed = well_formed f file in
        let long = lent_long p budget t lent in
        let long' = lent_long p budget t' lent' in
        let start : cut_machine p (machine_start p t.values t.picks t.remembered)
        ≡ cut_machine p (machine_start p t'.values t'.picks t'.remembered) =
        rw (
          fill_front p.estimate t.values t'.values p.states long.values_long long'.values_long,
          fill_front (λ s. no_pick) t.picks t'.picks p.states long.picks_long long'.picks_long,
          fill_front (row_value p p.estimate) t.remembered t'.remembered p.rows long.remembered_long long'.remembered_long,
        )
        refl in
        rw (solution_run f budget t file lent kind, solution_run f budget t' file lent' kind)
        (ran_cut p formed kind budget t.walk_list _
        ∙ ap (λ m. cut p (ran_from p kind budget [] m)) start
        ∙ sym (ran_cut p formed kind budget t'.walk_list _))

    -- so each entry at a state or a row is the same

    pub values_alike
        : (s : ℕ) → s < (problem_of f).states
        → get_or (solution kind f budget t).tables.values s 0 ≡ get_or (solution kind f budget t').tables.values s 0
    values_alike = front_entry (problem_of f).states _ _ (ap (λ x. x.tables.values) lent_alike)

    pub picks_alike
        : (s : ℕ) → s < (problem_of f).states
        → get_or (solution kind f budget t).tables.picks s 0 ≡ get_or (solution kind f budget t').tables.picks s 0
    picks_alike = front_entry (problem_of f).states _ _ (ap (λ x. x.tables.picks) lent_alike)

    pub remembered_alike
        : (r : ℕ) → r < (problem_of f).rows
        → get_or (solution kind f budget t).tables.remembered r 0 ≡ get_or (solution kind f budget t').tables.remembered r 0
    remembered_alike = front_entry (problem_of f).rows _ _ (ap (λ x. x.tables.remembered) lent_alike)

  -- Where questions 12 and 13 end alike for a file that passes they have one answer and one text; so has a file that does not pass.
  module _ (alike : file_questions f ≡ passes → solve_questions (problem_of f) budget t ≡ solve_questions (problem_of f) budget t') where
    questions_alike : questions f budget t ≡ questions f budget t'
    questions_alike = go (file_questions f) alike
      where
        go : (v : Verdict) {w w' : Verdict} → (v ≡ passes → w ≡ w') → (v then w) ≡ (v then w')
        go passes same = same refl
        go (fails q i) same = refl

    told_alike
        : (v : Verdict) → questions f budget t ≡ v
        → ((solution kind f budget t).answer ≡ (solution kind f budget t').answer)
        × (plan_text (problem_of f) (solution kind f budget t) ≡ plan_text (problem_of f) (solution kind f budget t'))
    unfolding plan_text state_lines run_states
    told_alike passes e =
        let p = problem_of f in
        let file = then_first (file_questions f) _ e in
        let lent = then_next (file_questions f) _ e in
        let formed = well_formed f file in
        let same = lent_alike file lent (sym (alike file) ∙ lent) in (
          ap (λ x. x.answer) same,
          sym (text_cut p formed (solution kind f budget t) (lines_pick kind f budget t))
              ∙ ap (plan_text p) same
              ∙ text_cut p formed (solution kind f budget t') (lines_pick kind f budget t'),
        )
    told_alike (fails q i) e =
        rw (solution_refused kind f budget t q i e, solution_refused kind f budget t' q i (sym questions_alike ∙ e)) (refl, refl)

    pub answer_alike : (solution kind f budget t).answer ≡ (solution kind f budget t').answer
    answer_alike = (told_alike _ refl).0

    pub text_alike : plan_text (problem_of f) (solution kind f budget t) ≡ plan_text (problem_of f) (solution kind f budget t')
    text_alike = (told_alike _ refl).1
