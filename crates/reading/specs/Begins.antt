-- Where the counts of the sections stand, found one after the other: each stands where the section before it ends.
use Rattle.std.specs.Prelude.{◌≡◌, ℕ, List}
use Rattle.model.specs.Sections.{section_end, states_at, rows_at, outcomes_at, file_end}

pub states_at-is : (f : List ℕ) (i : ℕ) → i ≡ section_end 4 f 0 → i ≡ states_at f
unfolding states_at
states_at-is f i e = e

pub rows_at-is : (f : List ℕ) (i j : ℕ) → j ≡ section_end 6 f i → i ≡ states_at f → j ≡ rows_at f
unfolding rows_at
rows_at-is f i j e a = rw (← a) e

pub outcomes_at-is : (f : List ℕ) (i j : ℕ) → j ≡ section_end 4 f i → i ≡ rows_at f → j ≡ outcomes_at f
unfolding outcomes_at
outcomes_at-is f i j e a = rw (← a) e

pub file_end-is : (f : List ℕ) (i j : ℕ) → j ≡ section_end 4 f i → i ≡ outcomes_at f → j ≡ file_end f
unfolding file_end
file_end-is f i j e a = rw (← a) e
