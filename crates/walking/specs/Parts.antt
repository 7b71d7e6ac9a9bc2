-- Parts of outcomes, 4 bytes each: where they lead, one outcome at a time, and as parts that stand in the file.
use Rattle.std.specs.Prelude.{◌≡◌, refl, ℕ, zero, suc, ◌+◌, ◌-◌, ◌*◌, ◌/◌, ◌≤◌, ◌<◌, false}
use Rattle.std.specs.Prelude.{List, ◌∷◌, ◌++◌, length, take, drop}
use Rattle.std.proofs.Common.{sym, ◌∙◌, ap, ap₂, arith}
use Rattle.std.proofs.Common.{get_or-drop, get_or-take, length-append, length-take-le, length-drop}
use Rattle.std.proofs.Math.ListN.{get_or, get_or-append}
use Rattle.std.proofs.Math.Seq.{drop-append_seam}
use Rattle.model.specs.Bytes.{u16_at}
use Rattle.model.specs.Sections.{problem_of}
use Rattle.model.specs.Walk.{here, there}
use Rattle.reading.specs.Tests.{bytes_between}
use Rattle.walking.specs.Trails.{leads_from, leads, leads_in, Outcomes, OutcomesIn, Told}

pub u16_drop : (f : List ℕ) (at i : ℕ) → u16_at (drop at f) i ≡ u16_at f (at + i)
unfolding u16_at
u16_drop f at i =
    rw (get_or-drop at f i 0, get_or-drop at f (i + 1) 0)
    (ap (λ j. get_or f (at + i) 0 + 256 * get_or f j 0) (omega arith))

-- the successors that are read of a part of a list are those read of the list
leads_drop : (f : List ℕ) (at i k : ℕ) → leads_from (drop at f) i k ≡ leads_from f (at + i) k
unfolding leads_from
leads_drop f at i zero = refl
leads_drop f at i (suc k) =
    ap₂ ◌∷◌ (u16_drop f at i) (leads_drop f at (i + 4) k ∙ ap (λ j. leads_from f j k) (omega arith))

leads_take : (n : ℕ) (f : List ℕ) (i k : ℕ) → i + 4 * k ≤ n → leads_from (take n f) i k ≡ leads_from f i k
unfolding leads_from u16_at
leads_take n f i zero h = refl
leads_take n f i (suc k) h =
    let low : i < n = omega (arith, h) in
    let high : i + 1 < n = omega (arith, h) in
    ap₂ ◌∷◌
    (rw (get_or-take n f i 0 low, get_or-take n f (i + 1) 0 high) refl)
    (leads_take n f (i + 4) k (omega (arith, h)))

-- one outcome more: the first of a part, and the rest of it
pub leads_more : (x rest : List ℕ) → length x ≡ 4 → leads_in (x ++ rest) ≡ u16_at x 0 ∷ leads_in rest
unfolding leads_from u16_at
leads_more x rest one =
    let count : length (x ++ rest) / 4 ≡ suc (length rest / 4) = omega (arith, length-append x rest) in
    let low : 0 < length x = omega arith in
    let high : 1 < length x = omega arith in
    let left : drop 4 (x ++ rest) ≡ rest = ap (λ n. drop n (x ++ rest)) (sym one) ∙ drop-append_seam x rest in
    rw count
    (ap₂ ◌∷◌
    (rw (get_or-append x rest 0 0 low, get_or-append x rest 0 1 high) refl)
    (sym (leads_drop (x ++ rest) 4 0 (length rest / 4)) ∙ ap (λ l. leads_from l 0 (length rest / 4)) left))

module _ {f : List ℕ} (x rest : List ℕ) (o : OutcomesIn f (x ++ rest)) (one : length x ≡ 4) where
  pub outcome_state : u16_at x 0 < (problem_of f).states
  outcome_state = o.lead _ (rw (leads_more x rest one) here)

  pub outcomes_more : OutcomesIn f rest
  outcomes_more =
      record {
        whole = omega (arith, o.whole, length-append x rest);
        lead = λ t m. o.lead t (rw (leads_more x rest one) (there m));
      }

-- a part that stands in the file from a byte up to another leads where these bytes of the file do
module _ {f : List ℕ} {from to : ℕ} (o : Outcomes f from to) where
  part_long : length (bytes_between f from to) ≡ to - from
  part_long = length-take-le (to - from) (drop from f) (omega (arith, length-drop from f, o.inside))

  part_leads : leads_in (bytes_between f from to) ≡ leads f from to
  part_leads =
      let k = (to - from) / 4 in
      let inside = leads_take (to - from) (drop from f) 0 k (omega arith) in
      rw part_long (inside ∙ leads_drop f from 0 k ∙ ap (λ i. leads_from f i k) (omega arith))

  pub told : {graph : ℕ → List ℕ} {s : ℕ} → leads f from to ≡ graph s → (from < to → (problem_of f).goal s ≡ false)
      → Told f graph s (bytes_between f from to)
  told led clear =
      record {
        outcomes = record { whole = omega (arith, part_long, o.whole); lead = λ t i. o.lead t (rw part_leads at i) };
        led = part_leads ∙ led;
        no_goal = λ h. clear (omega (arith, h, part_long));
      }
