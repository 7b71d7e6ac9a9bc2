-- The sections of a set form: what each puts, and that there is room for each after the ones before it.
-- The codes in 4 bytes each are the outcomes' bytes, and a file's set form has four sections, one after the other.
use mathlib.Core.Path.{◌≡◌, refl, sym, ◌∙◌, ap, ap₂}
use Prim.Native.Nat.{ℕ, zero, suc, ◌+◌, ◌*◌, ◌≤◌, ◌<◌}
use native.Mathlib.Nat.{eq-or-lt_of_le, le_of_suc-le-suc}
use native.Mathlib.Numerals.{add-one}
use native.Mathlib.Omega.{arith}
use mathlib.Core.Bool.{Bool, true, false}
use mathlib.Core.List.{List, ◌++◌, append-nil}
use mathlib.Core.Logic.{◌⊎◌, inl, inr}
use lib.Dec.{eqb}
use lib.ListN.{length, take, length-append}
use lib.Seq.{take-length}
use borrow.Author.Tests.{eq-eqb, ne_eqb}
use Rattle.std.specs.Int.{from_bool}
use Rattle.model.specs.Buffers.{copied}
use Rattle.model.specs.Bytes.{number_bytes}
use Rattle.model.specs.Encoding.{parts_to, settings_on, fourth_on, setting_number, setting_bytes, state_bytes, row_bytes, goal_byte}
use Rattle.model.specs.Encoding.{outcome_bytes, outcomes_to, encode}
use Rattle.model.specs.Limits.{thousandths}
use Rattle.model.specs.Problem.{Outcome}
use Rattle.model.specs.Questions.{passes, file_questions}
use Rattle.model.specs.Sections.{problem_of}
use Rattle.model.specs.SetForm.{in_set_form, set_form}
use Rattle.model.specs.TableFiles.{table_bytes, bytes32}
use Rattle.model.specs.Walk.{In}
use Rattle.guarantee.specs.Chances.{weight_high}
use Rattle.guarantee.specs.Encodings.{encode_length, settings_long}
use Rattle.guarantee.specs.Forms.{form_encodable}
use Rattle.guarantee.specs.ReadsBack.{number_length, bytes_append, bytes_next}
use Rattle.guarantee.specs.Totals.{total_high}
use Rattle.reading.specs.declared.settings.Settings.{Settings}
use Rattle.reading.specs.Laid.{SettingsOf}
use Rattle.writing.specs.declared.page.Page.{Page}
use Rattle.writing.specs.Pages.{Puts, Room, puts_more, puts_same, puts_rest, puts_whole, room_first, number_room}
use Rattle.writing.specs.Putting.{is_copied}
use Rattle.exchanging.specs.FormAsks.{form_of, row_codes, code_as}
use Rattle.exchanging.specs.declared.form.Form.{Form}
use Rattle.exchanging.proofs.Inserting.{codes_bytes}
use Rattle.exchanging.proofs.RowsGathered.{codes_size}

-- how long the form of so many states, rows and outcomes is
pub form_size
    : (f : List ℕ)
    → length (set_form f)
    ≡ 2 + 4 * setting_number (form_of f) + 2 + 6 * (problem_of f).states + 2 + 4 * (problem_of f).rows
    + 2 + 4 * outcomes_to (form_of f) (problem_of f).rows
unfolding set_form in_set_form
form_size f = encode_length (form_of f) ∙ omega arith

-- the settings, by whether a fourth is put

pub number_is : (f : List ℕ) {total : ℕ} → total ≡ (problem_of f).total → settings_on (eqb total thousandths) ≡ setting_number (form_of f)
unfolding setting_number in_set_form
number_is f e = ap (λ W. settings_on (eqb W thousandths)) e

module _ {f : List ℕ} {set : Settings} (s : SettingsOf f set) where
  settings_as
      : number_bytes 4 set.start
      ++ (number_bytes 4 set.tolerance ++ (number_bytes 4 set.penalty ++ fourth_on (eqb set.total thousandths) set.total))
      ≡ setting_bytes (form_of f)
  unfolding setting_bytes in_set_form
  settings_as =
      ap₂ ◌++◌ (ap (number_bytes 4) s.start_is)
      (ap₂ ◌++◌ (ap (number_bytes 4) s.tolerance_is)
      (ap₂ ◌++◌ (ap (number_bytes 4) s.penalty_is) (ap (λ W. fourth_on (eqb W thousandths) W) s.total_is)))

  pub three_settings
      : set.total ≡ thousandths
      → number_bytes 4 set.start ++ (number_bytes 4 set.tolerance ++ number_bytes 4 set.penalty) ≡ setting_bytes (form_of f)
  three_settings e =
      ap (λ l. number_bytes 4 set.start ++ (number_bytes 4 set.tolerance ++ l)) (sym (append-nil (number_bytes 4 set.penalty)))
      ∙ (rw (eq-eqb _ _ e) at settings_as)

  pub four_settings
      : (set.total ≡ thousandths → ⊥)
      → number_bytes 4 set.start
      ++ (number_bytes 4 set.tolerance ++ (number_bytes 4 set.penalty ++ number_bytes 4 set.total))
      ≡ setting_bytes (form_of f)
  four_settings e = rw (ne_eqb _ _ e) at settings_as

  -- there is room for the fourth
  pub four_room : (set.total ≡ thousandths → ⊥) → setting_number (form_of f) ≡ 4
  four_room e = sym (number_is f s.total_is) ∙ rw (ne_eqb _ _ e) refl

-- there is room for each setting after those before it, and for a fourth where there is one
module _ {a b : Page} (n x : ℕ) (room : Room a (2 + 4 * n)) (low : 3 ≤ n) (count : Puts a b (number_bytes 2 x)) where
  pub start_room : Room b 12
  start_room = omega (arith, number_room 2 x (4 * n) count room)

  pub total_room
      : n ≡ 4 → {c d e : Page} (start tolerance penalty : ℕ) → Puts b c (number_bytes 4 start) → Puts c d (number_bytes 4 tolerance)
      → Puts d e (number_bytes 4 penalty) → Room e 4
  total_room four start tolerance penalty p q r =
      number_room 4 penalty 4 r
      (number_room 4 tolerance 8 q (number_room 4 start 12 p (omega (arith, number_room 2 x (4 * n) count room))))

-- the byte of a goal, or of a state that is none
pub goal_is : {x : ℕ} (b : Bool) → x ≡ from_bool b → x ≡ goal_byte b
goal_is true e = e
goal_is false e = e

pub goal_low : {x : ℕ} (b : Bool) → x ≡ from_bool b → x < 256
goal_low true e = omega arith
goal_low false e = omega arith

-- there is room for each part where there is for all
pub parts_room : (g : ℕ → List ℕ) (i n : ℕ) → i < n → length (parts_to g i) + length (g i) ≤ length (parts_to g n)
unfolding parts_to
parts_room g i zero l = absurd (omega arith)
parts_room g i (suc n) l = go (eq-or-lt_of_le (le_of_suc-le-suc l)) (parts_room g i n)
  where
    size : length (parts_to g n ++ g n) ≡ length (parts_to g n) + length (g n)
    size = length-append (parts_to g n) (g n)

    go : (i ≡ n) ⊎ (i < n) → (i < n → length (parts_to g i) + length (g i) ≤ length (parts_to g n))
        → length (parts_to g i) + length (g i) ≤ length (parts_to g n ++ g n)
    go (inl e) next = rw e (omega (arith, size))
    go (inr m) next = omega (arith, size, next m)

-- putting the codes: they are the outcomes' bytes

small
    : (f : List ℕ) → file_questions f ≡ passes → (r : ℕ) → r < (problem_of f).rows → (o : Outcome) → In o ((form_of f).outcomes r)
    → (o.successor < 65536) × (o.weight < 65536)
unfolding in_set_form
small f h r l o i =
    let formed = (form_encodable f h).formed in (
      omega (arith, formed.successor_state r l o i, formed.states_high),
      omega (arith, weight_high ((form_of f).outcomes r) o i, formed.weights r l, total_high formed),
    )

codes_put : (table : List ℕ) (n : ℕ) → n ≤ length table → parts_to (code_as table) n ≡ bytes32 (take n table)
unfolding parts_to table_bytes
codes_put table zero h = refl
codes_put table (suc n) h =
    ap (λ l. l ++ code_as table n) (codes_put table n (omega arith)) ∙ sym (bytes_next 4 table n h)
    ∙ ap (λ k. bytes32 (take k table)) (add-one n)

rows_bytes
    : (f : List ℕ) → file_questions f ≡ passes → (k : ℕ) → k ≤ (problem_of f).rows
    → bytes32 (parts_to (row_codes f) k) ≡ parts_to (λ r. outcome_bytes ((form_of f).outcomes r)) k
unfolding parts_to table_bytes
rows_bytes f h zero l = refl
rows_bytes f h (suc k) l =
    bytes_append 4 (parts_to (row_codes f) k) (row_codes f k)
    ∙ ap₂ ◌++◌ (rows_bytes f h k (omega arith)) (codes_bytes ((form_of f).outcomes k) (small f h k (omega arith)))

-- the codes of all rows
module _ (f : List ℕ) {table : List ℕ} (passed : file_questions f ≡ passes) (coded : table ≡ parts_to (row_codes f) (problem_of f).rows) where
  pub all_coded : length table ≡ outcomes_to (form_of f) (problem_of f).rows
  all_coded = ap length coded ∙ codes_size f (problem_of f).rows

  pub codes_bytes_all : parts_to (code_as table) (length table) ≡ parts_to (λ r. outcome_bytes ((form_of f).outcomes r)) (problem_of f).rows
  codes_bytes_all =
      codes_put table (length table) (omega arith) ∙ ap bytes32 (take-length table ∙ coded)
      ∙ rows_bytes f passed (problem_of f).rows (omega arith)

-- how long a form is, by its counts and codes
pub form_adds_up
    : (x : Form)
    → length (set_form x.problem.file.now)
    ≡ 2 + 4 * settings_on (eqb (problem_of x.problem.file.now).total thousandths) + 2 + 6 * (problem_of x.problem.file.now).states
    + 2 + 4 * length x.counts.now + 2 + 4 * length x.codes.now
form_adds_up x =
    let f = x.problem.file.now in
    omega (arith, number_is f refl, x.counted.long, all_coded f x.passed x.coded, form_size f)

-- the form's four sections, in order
module _ (f : List ℕ) where
  abbrev pub settings_part : List ℕ
  settings_part = number_bytes 2 (setting_number (form_of f)) ++ setting_bytes (form_of f)

  abbrev pub states_part : List ℕ
  states_part = number_bytes 2 (problem_of f).states ++ parts_to (state_bytes (form_of f)) (problem_of f).states

  abbrev pub rows_part : List ℕ
  rows_part = number_bytes 2 (problem_of f).rows ++ parts_to (row_bytes (form_of f)) (problem_of f).rows

  abbrev pub outcomes_part : List ℕ
  outcomes_part =
      number_bytes 2 (outcomes_to (form_of f) (problem_of f).rows)
      ++ parts_to (λ r. outcome_bytes ((form_of f).outcomes r)) (problem_of f).rows

  pub form_parts : set_form f ≡ settings_part ++ (states_part ++ (rows_part ++ outcomes_part))
  unfolding set_form encode in_set_form
  form_parts = refl

  settings_size : length settings_part ≡ 2 + 4 * setting_number (form_of f)
  settings_size =
      length-append (number_bytes 2 (setting_number (form_of f))) (setting_bytes (form_of f))
      ∙ omega (arith, number_length 2 (setting_number (form_of f)), settings_long (form_of f))

  -- there is room for each section after the ones before it, on a page that was begun on a buffer as long as all
  module _ {out : List ℕ} (a : Page) (value : a.out.now ≡ out) (empty : a.at ≡ 0) (enough : length (set_form f) ≤ length out) where
    all_room : Room a (length (settings_part ++ (states_part ++ (rows_part ++ outcomes_part))))
    all_room = omega (arith, ap length value, ap length form_parts)

    pub settings_room : Room a (2 + 4 * setting_number (form_of f))
    settings_room = rw settings_size at (room_first a settings_part (states_part ++ (rows_part ++ outcomes_part)) all_room)

    module _ {b : Page} (p : Puts a b settings_part) where
      rest_room : Room b (length (states_part ++ (rows_part ++ outcomes_part)))
      rest_room = puts_rest settings_part (states_part ++ (rows_part ++ outcomes_part)) p all_room

      pub states_room : Room b (length states_part)
      states_room = room_first b states_part (rows_part ++ outcomes_part) rest_room

      module _ {c : Page} (q : Puts b c states_part) where
        last_room : Room c (length (rows_part ++ outcomes_part))
        last_room = puts_rest states_part (rows_part ++ outcomes_part) q rest_room

        pub rows_room : Room c (length rows_part)
        rows_room = room_first c rows_part outcomes_part last_room

        module _ {d : Page} (r : Puts c d rows_part) where
          pub outcomes_room : Room d (length outcomes_part)
          outcomes_room = puts_rest rows_part outcomes_part r last_room

          -- together they are the form
          pub all_put : {e : Page} → Puts d e outcomes_part → Puts a e (set_form f)
          all_put t = puts_same (sym form_parts) (puts_more p (puts_more q (puts_more r t)))

          pub form_put : {e : Page} → Puts d e outcomes_part → e.out.now ≡ copied (set_form f) out
          form_put t = is_copied (puts_whole value empty (all_put t) refl) enough

-- how long an item is

pub state_size : (f : List ℕ) (s : ℕ) → length (state_bytes (form_of f) s) ≡ 6
unfolding state_bytes
state_size f s = simp (length-append, number_length) (omega arith)

pub row_size : (f : List ℕ) (r : ℕ) → length (row_bytes (form_of f) r) ≡ 4
unfolding row_bytes
row_size f r = simp number_length (omega arith)

-- the codes, after their number, are the form's outcomes
pub outcomes_are
    : (f : List ℕ) {table : List ℕ} → file_questions f ≡ passes → table ≡ parts_to (row_codes f) (problem_of f).rows
    → number_bytes 2 (length table) ++ parts_to (code_as table) (length table) ≡ outcomes_part f
outcomes_are f passed coded = ap₂ (λ n l. number_bytes 2 n ++ l) (all_coded f passed coded) (codes_bytes_all f passed coded)
