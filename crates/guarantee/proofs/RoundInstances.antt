-- The theorems about the rounds and the walk speak of something: each that has hypotheses is cited where they are met, in the first rounds
-- of P, of P with D 100, and of two files with a tie.
use Rattle.std.specs.Prelude.{◌≡◌, refl, ℕ, ◌≤◌, ◌<◌, true, false, [], ◌∷◌, get_or, replicate}
use Rattle.std.proofs.Common.{ap, arith, leb-true}
use Rattle.model.specs.Bytes.{u16_at, u32_at}
use Rattle.model.specs.Limits.{plan_rounds, value_bound, no_pick}
use Rattle.model.specs.CaseFiles.{file_p, penalty_p, tied, tied_later, picks_p, lent, planned}
use Rattle.model.proofs.Computed.{requested_hold}
use Rattle.model.specs.Problem.{give_up_cost, own_row}
use Rattle.model.specs.Search.{sum_to}
use Rattle.model.specs.Value.{by_state, row_value, weighted_sum}
use Rattle.model.specs.Sections.{states_at, rows_at, outcomes_at, outcomes_from, length_seconds, rate_seconds, seconds_on, problem_of}
use Rattle.model.specs.Questions.{passes}
use Rattle.model.specs.Walk.{In, Reached, at_start_lem, visit_outcomes, visit_state, next, walk, walk_with, pick_cost, least_cost}
use Rattle.model.specs.Rounds.{Machine, fill_to, machine_start, walked, scan_of, bellman, beats, evaluate_on, consider_on, consider}
use Rattle.model.specs.Rounds.{taken_if, others_from, traverse, raise_on, settle, backup, backups, run_from, run_from_with, goes_on_with}
use Rattle.model.specs.Carried.{counts}
use Rattle.model.specs.Solution.{Solution, solve_questions}
use Rattle.model.specs.declared.Kind.TheVariants.{Plain, Finishing}
use Rattle.guarantee.specs.Graphs.{clear_entry}
use Rattle.guarantee.specs.Sound.{Allowed}
use Rattle.guarantee.specs.Backups.{machine_of}
use Rattle.guarantee.proofs.Guarantee.{plan_gives_up_when_cheaper, Met, starts, walks, backs_up, row_values_fit, run_values_fit}
use Rattle.guarantee.proofs.Guarantee.{built_on_bellman, gives_up_when_cheaper, row_beats_giving_up, earlier_pick_wins, row_order_wins}
use Rattle.guarantee.proofs.Guarantee.{remembered_low, skipped_not_picked, values_rise, values_high, picks_held}
use Rattle.guarantee.proofs.Guarantee.{goals_unpicked, marks_are_reached, list_is_open_reached, list_holds_once}
use Rattle.guarantee.proofs.Guarantee.{least_at_most, least_is_one, run_goes_on_met}
use Rattle.guarantee.proofs.Instances.{problem_p, p_passes, computed, p_lent}

-- P's first round meets a backup of the start, the only state of the first walk
abbrev pub first_p : Machine
first_p = walked problem_p (machine_start problem_p (lent 3).values (lent 3).picks (lent 3).remembered)

pub p_met : Met problem_p (lent 3) (0 ∷ []) first_p
unfolding walk_with visit_state visit_outcomes next machine_start fill_to problem_of states_at rows_at sum_to u16_at u32_at
p_met = walks starts

-- and a run with another tolerance, as E8's second part has it, ends at a machine that is met
pub p_goes_on_met
    : Met problem_p (lent 3) []
    (machine_of (run_from problem_p 999 2 true 0 (machine_start problem_p (lent 3).values (lent 3).picks (lent 3).remembered)))
p_goes_on_met = run_goes_on_met problem_p (lent 3) 999 2 true 0 _ starts

pub p_bellman : (scan_of problem_p 0 first_p).best ≡ bellman problem_p (by_state first_p.values) 0
p_bellman = built_on_bellman file_p plan_rounds (lent 3) p_passes (p_lent plan_rounds (omega arith)) p_met

-- the value of row 0 there, and what is remembered of it; a scan by a memory of zeros; the start's value after the backup; what the tables
-- hold

p_rounds_go : solve_questions problem_p plan_rounds (lent 3) ≡ passes
p_rounds_go = p_lent plan_rounds (omega arith)

pub p_row_fits : row_value problem_p (by_state first_p.values) 0 < value_bound
unfolding problem_of states_at rows_at u16_at
p_row_fits = row_values_fit file_p plan_rounds (lent 3) p_passes p_rounds_go p_met 0 (leb-true _ _ refl)

-- of the finishing run with no round done, at the turn of the start
pub p_run_fits : row_value problem_p (by_state first_p.values) 0 < value_bound
unfolding walk_with visit_state visit_outcomes next run_from_with goes_on_with backups machine_start fill_to problem_of states_at rows_at sum_to u16_at u32_at
p_run_fits = run_values_fit file_p plan_rounds (lent 3) p_passes p_rounds_go Finishing 0 1 [] (0 ∷ []) refl 0 (leb-true _ _ refl)

pub p_remembered : get_or first_p.remembered 0 0 ≤ row_value problem_p (by_state first_p.values) 0
unfolding problem_of states_at rows_at u16_at
p_remembered = remembered_low file_p plan_rounds (lent 3) p_passes p_rounds_go p_met 0 (leb-true _ _ refl)

abbrev pub forgetful : Machine
forgetful =
    record {
      values = first_p.values;
      picks = first_p.picks;
      remembered = replicate 3 0;
      list = first_p.list;
      evaluations = 0;
      moved = false;
    }

pub p_forgets
    : ((scan_of problem_p 0 forgetful).best ≡ (scan_of problem_p 0 first_p).best)
    × ((scan_of problem_p 0 forgetful).pick ≡ (scan_of problem_p 0 first_p).pick)
p_forgets =
    skipped_not_picked file_p plan_rounds (lent 3) p_passes p_rounds_go p_met forgetful refl refl
    (λ r l. omega (arith, clear_entry 3 r))

pub p_rises : get_or first_p.values 0 0 ≤ get_or (backup problem_p problem_p.tolerance 0 first_p).values 0 0
p_rises = values_rise file_p plan_rounds (lent 3) p_passes p_rounds_go p_met problem_p.tolerance 0

pub p_holds
    : (get_or first_p.values 0 0 ≤ give_up_cost problem_p) × Allowed problem_p 0 (get_or first_p.picks 0 0)
    × (get_or first_p.picks 2 0 ≡ no_pick)
unfolding problem_of states_at u16_at
p_holds = (
  values_high file_p plan_rounds (lent 3) p_passes p_rounds_go p_met 0 (leb-true _ _ refl),
  picks_held file_p plan_rounds (lent 3) p_passes p_rounds_go p_met 0 (leb-true _ _ refl),
  goals_unpicked file_p plan_rounds (lent 3) p_passes p_rounds_go p_met 2 (leb-true _ _ refl) refl,
)

-- E1 on P with D 100: the start gives up, and its row 0 costs more than 100,000 under the values left
abbrev pub cheaply_p : Solution
cheaply_p = planned (penalty_p 100 0) 3

pub p_gives_up_at_100
    : give_up_cost (problem_of (penalty_p 100 0)) < row_value (problem_of (penalty_p 100 0)) (by_state cheaply_p.tables.values) 0
unfolding problem_of states_at rows_at sum_to u16_at u32_at
p_gives_up_at_100 =
    plan_gives_up_when_cheaper Plain (penalty_p 100 0) plan_rounds (lent 3) (counts 3 2 100000) requested_hold.1.1.1.1.1.0
    0 at_start_lem refl (ap (λ l. by_state l 0) requested_hold.1.1.1.1.1.1.0) 0 refl

-- in its second round, whose walk lists 1 and 0, state 1 gives up, and its row 2 costs more
abbrev pub second_cheap : Machine
second_cheap =
    let p = problem_of (penalty_p 100 0) in
    walked p (backup p p.tolerance 0 (walked p (machine_start p (lent 3).values (lent 3).picks (lent 3).remembered)))

pub cheap_met : Met (problem_of (penalty_p 100 0)) (lent 3) (1 ∷ 0 ∷ []) second_cheap
unfolding walk_with visit_state visit_outcomes next machine_start fill_to backup settle raise_on traverse others_from taken_if consider consider_on
    beats evaluate_on problem_of states_at rows_at outcomes_at outcomes_from seconds_on rate_seconds length_seconds sum_to u16_at u32_at row_value
    weighted_sum
cheap_met = walks (backs_up (problem_of (penalty_p 100 0)).tolerance {s = 0} {rest = []} (walks starts))

pub cheap_gives_up : give_up_cost (problem_of (penalty_p 100 0)) < row_value (problem_of (penalty_p 100 0)) (by_state second_cheap.values) 2
unfolding walk_with visit_state visit_outcomes next machine_start fill_to backup settle raise_on traverse others_from taken_if consider consider_on
    beats evaluate_on solve_questions problem_of states_at rows_at outcomes_at outcomes_from seconds_on rate_seconds length_seconds sum_to u16_at u32_at
    row_value weighted_sum
cheap_gives_up =
    gives_up_when_cheaper (penalty_p 100 0) plan_rounds (lent 3) computed.1 refl cheap_met refl 2 refl

-- and on a file whose one row costs exactly 1000 × D: the first backup picks it
abbrev pub first_tied : Machine
first_tied = walked (problem_of tied) (machine_start (problem_of tied) (lent 2).values (lent 2).picks (lent 2).remembered)

pub tied_met : Met (problem_of tied) (lent 2) (0 ∷ []) first_tied
unfolding walk_with visit_state visit_outcomes next machine_start fill_to problem_of states_at rows_at sum_to u16_at u32_at
tied_met = walks starts

pub tied_lent : solve_questions (problem_of tied) plan_rounds (lent 2) ≡ passes
unfolding solve_questions problem_of states_at rows_at u16_at u32_at
tied_lent = refl

pub tied_cheap : row_value (problem_of tied) (by_state first_tied.values) 0 ≤ give_up_cost (problem_of tied)
unfolding machine_start fill_to problem_of states_at rows_at outcomes_at outcomes_from seconds_on sum_to u16_at u32_at row_value weighted_sum
tied_cheap = leb-true _ _ refl

pub tied_taken : own_row (problem_of tied) 0 (scan_of (problem_of tied) 0 first_tied).pick ≡ true
unfolding problem_of states_at rows_at sum_to u16_at u32_at
tied_taken =
    row_beats_giving_up tied plan_rounds (lent 2) requested_hold.1.1.1.1.1.1.1.0 tied_lent tied_met 0 refl tied_cheap

-- and the second round, in which row 0 is the pick before, picks it again at the tie
abbrev pub second_tied : Machine
second_tied = walked (problem_of tied) (backup (problem_of tied) (problem_of tied).tolerance 0 first_tied)

pub tied_again : (scan_of (problem_of tied) 0 second_tied).pick ≡ 0
unfolding walk_with visit_state visit_outcomes next machine_start fill_to backup settle raise_on traverse others_from taken_if consider consider_on
    beats evaluate_on problem_of states_at rows_at outcomes_at outcomes_from seconds_on sum_to u16_at u32_at row_value weighted_sum
tied_again =
    earlier_pick_wins tied plan_rounds (lent 2) requested_hold.1.1.1.1.1.1.1.0 tied_lent
    (walks (backs_up (problem_of tied).tolerance tied_met)) refl (leb-true _ _ refl)

-- and on a file whose row 1 is cheaper at first: it is picked, and row 0, before it, costs more
abbrev pub first_later : Machine
first_later = walked (problem_of tied_later) (machine_start (problem_of tied_later) (lent 3).values (lent 3).picks (lent 3).remembered)

pub later_met : Met (problem_of tied_later) (lent 3) (0 ∷ []) first_later
unfolding walk_with visit_state visit_outcomes next machine_start fill_to problem_of states_at rows_at sum_to u16_at u32_at
later_met = walks starts

later_picks : ((scan_of (problem_of tied_later) 0 first_later).pick ≡ 1) × (get_or first_later.picks 0 0 ≡ no_pick)
unfolding machine_start fill_to traverse others_from taken_if consider consider_on beats evaluate_on problem_of states_at rows_at outcomes_at
    outcomes_from seconds_on sum_to u16_at u32_at row_value weighted_sum
later_picks = (refl, refl)

pub later_order
    : (scan_of (problem_of tied_later) 0 first_later).best < row_value (problem_of tied_later) (by_state first_later.values) 0
unfolding solve_questions problem_of states_at rows_at sum_to u16_at u32_at
later_order =
    row_order_wins tied_later plan_rounds (lent 3) computed.0 refl later_met
    (λ e. omega (arith, e, later_picks.0, later_picks.1)) 0 refl (omega (arith, later_picks.0))

-- The walk of P's answer marks the start and lists it, in place 1 alone; C, 100,000, is the cost of row 0, the start's pick, and the other
-- reached state's pick costs more

pub p_marked : get_or (walk problem_p (by_state picks_p)).marks 0 0 ≡ 1
unfolding problem_of u16_at u32_at
p_marked = (marks_are_reached file_p (by_state picks_p) p_passes 0).1 at_start_lem

pub p_listed : In 0 (walk problem_p (by_state picks_p)).list
unfolding problem_of states_at u16_at u32_at
p_listed = (list_is_open_reached file_p (by_state picks_p) p_passes 0).1 (at_start_lem, refl)

pub p_once : ◌≡◌ {A = ℕ} 1 1
unfolding walk_with visit_state visit_outcomes next problem_of states_at rows_at outcomes_at outcomes_from sum_to u16_at u32_at
p_once = list_holds_once file_p (by_state picks_p) p_passes 1 1 (leb-true _ _ refl) (leb-true _ _ refl) refl

pub p_least : least_cost problem_p (by_state picks_p) ≤ pick_cost problem_p (by_state picks_p) 0
unfolding problem_of states_at u16_at u32_at
p_least = least_at_most file_p (by_state picks_p) p_passes 0 at_start_lem refl

pub p_least_one
    : (s : ℕ) × Reached problem_p (by_state picks_p) s × (problem_p.goal s ≡ false)
    × (least_cost problem_p (by_state picks_p) ≡ pick_cost problem_p (by_state picks_p) s)
p_least_one = least_is_one file_p (by_state picks_p) p_passes
