-- Table files: what was written reads back as the same table, and the front of a file has the front of its entries.
-- An entry hangs on its own bytes alone; the rest is counting.
use Rattle.std.specs.Prelude.{◌≡◌, refl, ℕ, zero, suc, ◌+◌, ◌*◌, ◌/◌, ◌%◌, ◌≤◌, ◌<◌, List, [], ◌∷◌, ◌++◌, length, get_or, take}
use Rattle.std.proofs.Common.{sym, ◌∙◌, ap, add-one, arith, append_assoc, append-nil, length-append, get_or-take, take-suc, take_all, length-take-le}
use Rattle.std.proofs.Math.Decide.{dec_le}
use Rattle.std.proofs.Math.Seq.{take-length}
use Rattle.std.proofs.lemmas.List.{take-append-le}
use Rattle.model.specs.Bytes.{u16_at, u32_at, number_bytes}
use Rattle.model.specs.Limits.{give_up, value_bound}
use Rattle.model.specs.TableFiles.{table_bytes, bytes16, bytes32, list_to, entries16, entries32}

-- lists of values

pub list_length : (g : ℕ → ℕ) (k : ℕ) → length (list_to g k) ≡ k
unfolding list_to
list_length g zero = refl
list_length g (suc k) = length-append (list_to g k) (g k ∷ []) ∙ omega (arith, list_length g k)

-- a front of a list of values is a shorter list
pub list_front : (g : ℕ → ℕ) (n k : ℕ) → n ≤ k → take n (list_to g k) ≡ list_to g n
unfolding list_to
list_front g n zero h = let z : n ≡ 0 = omega arith in rw z refl
list_front g n (suc k) h = go (dec_le n k) (list_front g n k)
  where
    go : Dec (n ≤ k) → (n ≤ k → take n (list_to g k) ≡ list_to g n) → take n (list_to g k ++ (g k ∷ [])) ≡ list_to g n
    go (yes l) ih = take-append-le n (list_to g k) (g k ∷ []) (omega (arith, list_length g k)) ∙ ih l
    go (no l) ih =
        let e : n ≡ suc k = omega arith in
        rw e (take_all (suc k) (list_to g k ++ (g k ∷ [])) (omega (arith, list_length g (suc k))))

list_same : (g h : ℕ → ℕ) (k : ℕ) → ((i : ℕ) → i < k → g i ≡ h i) → list_to g k ≡ list_to h k
unfolding list_to
list_same g h zero same = refl
list_same g h (suc k) same = rw (list_same g h k (λ i l. same i (omega arith)), same k (omega arith)) refl

list_take : (t : List ℕ) (k : ℕ) → k ≤ length t → list_to (λ i. get_or t i 0) k ≡ take k t
unfolding list_to
list_take t zero h = refl
list_take t (suc k) h = rw (list_take t k (omega arith)) (sym (take-suc t k 0 h))

-- a list of the entries of a table is the table
list_whole : (g : ℕ → ℕ) (t : List ℕ) → ((i : ℕ) → i < length t → g i ≡ get_or t i 0) → list_to g (length t) ≡ t
list_whole g t same = list_same g (λ i. get_or t i 0) (length t) same ∙ list_take t (length t) (omega arith) ∙ take-length t

-- the front of a file

pub u16_front : (m : ℕ) (b : List ℕ) (i : ℕ) → i + 2 ≤ m → u16_at (take m b) i ≡ u16_at b i
unfolding u16_at
u16_front m b i h = rw (get_or-take m b i 0 (omega arith), get_or-take m b (i + 1) 0 (omega arith)) refl

u32_front : (m : ℕ) (b : List ℕ) (i : ℕ) → i + 4 ≤ m → u32_at (take m b) i ≡ u32_at b i
unfolding u32_at
u32_front m b i h = rw (u16_front m b i (omega arith), u16_front m b (i + 2) (omega arith)) refl

pub entries16_front : (n : ℕ) (b : List ℕ) → entries16 (take (2 * n) b) ≡ take n (entries16 b)
unfolding entries16
entries16_front n b = go (dec_le (length b) (2 * n))
  where
    go : Dec (length b ≤ 2 * n) → entries16 (take (2 * n) b) ≡ take n (entries16 b)
    go (yes l) =
        rw (take_all (2 * n) b l)
        (sym (take_all n (list_to (λ i. u16_at b (2 * i)) (length b / 2)) (omega (arith, list_length (λ i. u16_at b (2 * i)) (length b / 2)))))
    go (no l) =
        let size : length (take (2 * n) b) / 2 ≡ n = omega (arith, length-take-le (2 * n) b (omega arith)) in
        rw size
        (list_same (λ i. u16_at (take (2 * n) b) (2 * i)) (λ i. u16_at b (2 * i)) n (λ i h. u16_front (2 * n) b (2 * i) (omega arith))
        ∙ sym (list_front (λ i. u16_at b (2 * i)) n (length b / 2) (omega arith)))

pub entries32_front : (n : ℕ) (b : List ℕ) → entries32 (take (4 * n) b) ≡ take n (entries32 b)
unfolding entries32
entries32_front n b = go (dec_le (length b) (4 * n))
  where
    go : Dec (length b ≤ 4 * n) → entries32 (take (4 * n) b) ≡ take n (entries32 b)
    go (yes l) =
        rw (take_all (4 * n) b l)
        (sym (take_all n (list_to (λ i. u32_at b (4 * i)) (length b / 4)) (omega (arith, list_length (λ i. u32_at b (4 * i)) (length b / 4)))))
    go (no l) =
        let size : length (take (4 * n) b) / 4 ≡ n = omega (arith, length-take-le (4 * n) b (omega arith)) in
        rw size
        (list_same (λ i. u32_at (take (4 * n) b) (4 * i)) (λ i. u32_at b (4 * i)) n (λ i h. u32_front (4 * n) b (4 * i) (omega arith))
        ∙ sym (list_front (λ i. u32_at b (4 * i)) n (length b / 4) (omega arith)))

-- what was written

pub number_length : (width x : ℕ) → length (number_bytes width x) ≡ width
unfolding number_bytes
number_length zero x = refl
number_length (suc width) x = ap suc (number_length width (x / 256))

-- a number in 4 bytes is its lower two bytes, and then its upper two
pub two_and_two : (x : ℕ) → number_bytes 2 x ++ number_bytes 2 (x / 65536) ≡ number_bytes 4 x
unfolding number_bytes
two_and_two x = let half : x / 65536 ≡ x / 256 / 256 = omega arith in rw half refl

pub bytes_length : (width : ℕ) (t : List ℕ) → length (table_bytes width t) ≡ width * length t
unfolding table_bytes
bytes_length width [] = omega arith
bytes_length width (x ∷ t) =
    length-append (number_bytes width x) (table_bytes width t) ∙ omega (arith, number_length width x, bytes_length width t)

-- the bytes of one table after another, of no entries, of one more, and of all

pub bytes_append : (width : ℕ) (a b : List ℕ) → table_bytes width (a ++ b) ≡ table_bytes width a ++ table_bytes width b
unfolding table_bytes
bytes_append width [] b = refl
bytes_append width (x ∷ a) b =
    ap (λ t. number_bytes width x ++ t) (bytes_append width a b)
    ∙ sym (append_assoc (number_bytes width x) (table_bytes width a) (table_bytes width b))

bytes_one : (width x : ℕ) → table_bytes width (x ∷ []) ≡ number_bytes width x
unfolding table_bytes
bytes_one width x = append-nil (number_bytes width x)

pub no_bytes : (width : ℕ) → table_bytes width [] ≡ []
unfolding table_bytes
no_bytes width = refl

module _ (width : ℕ) (table : List ℕ) where
  pub bytes_next
      : (i : ℕ) → i < length table
      → table_bytes width (take (i + 1) table) ≡ table_bytes width (take i table) ++ number_bytes width (get_or table i 0)
  bytes_next i l =
      let x = get_or table i 0 in
      rw (add-one i, take-suc table i 0 l, bytes_append width (take i table) (x ∷ []), bytes_one width x) refl

  pub bytes_all : table_bytes width (take (length table) table) ≡ table_bytes width table
  bytes_all = ap (table_bytes width) (take_all (length table) table (omega arith))

-- the entry after the first stands one entry further on
u16_next : (a b : ℕ) (f : List ℕ) (i : ℕ) → u16_at (a ∷ b ∷ f) (suc (suc i)) ≡ u16_at f i
unfolding u16_at
u16_next a b f i = let e : suc (suc i) + 1 ≡ suc (suc (i + 1)) = omega arith in rw e refl

u32_next : (a b c d : ℕ) (f : List ℕ) (i : ℕ) → u32_at (a ∷ b ∷ c ∷ d ∷ f) (suc (suc (suc (suc i)))) ≡ u32_at f i
unfolding u32_at
u32_next a b c d f i =
    let e : suc (suc (suc (suc i))) + 2 ≡ suc (suc (suc (suc (i + 2)))) = omega arith in
    rw (
      e,
      u16_next a b (c ∷ d ∷ f) (suc (suc i)),
      u16_next c d f i,
      u16_next a b (c ∷ d ∷ f) (suc (suc (i + 2))),
      u16_next c d f (i + 2),
    )
    refl

entry16 : (t : List ℕ) (i : ℕ) → i < length t → get_or t i 0 ≤ give_up → u16_at (bytes16 t) (2 * i) ≡ get_or t i 0
unfolding table_bytes number_bytes u16_at
entry16 [] i l h = absurd (omega arith)
entry16 (x ∷ t) zero l h = omega arith
entry16 (x ∷ t) (suc i) l h =
    let e : 2 * suc i ≡ suc (suc (2 * i)) = omega arith in
    rw e (u16_next (x % 256) (x / 256 % 256) (bytes16 t) (2 * i) ∙ entry16 t i (omega arith) h)

entry32 : (t : List ℕ) (i : ℕ) → i < length t → get_or t i 0 < value_bound → u32_at (bytes32 t) (4 * i) ≡ get_or t i 0
unfolding table_bytes number_bytes u32_at u16_at
entry32 [] i l h = absurd (omega arith)
entry32 (x ∷ t) zero l h = omega arith
entry32 (x ∷ t) (suc i) l h =
    let e : 4 * suc i ≡ suc (suc (suc (suc (4 * i)))) = omega arith in
    rw e
    (u32_next (x % 256) (x / 256 % 256) (x / 256 / 256 % 256) (x / 256 / 256 / 256 % 256) (bytes32 t) (4 * i)
    ∙ entry32 t i (omega arith) h)

-- "reading back what was written gives the same table"
pub read_back16 : (t : List ℕ) → ((i : ℕ) → i < length t → get_or t i 0 ≤ give_up) → entries16 (bytes16 t) ≡ t
unfolding entries16
read_back16 t fits =
    let size : length (bytes16 t) / 2 ≡ length t = omega (arith, bytes_length 2 t) in
    rw size (list_whole (λ i. u16_at (bytes16 t) (2 * i)) t (λ i l. entry16 t i l (fits i l)))

pub read_back32 : (t : List ℕ) → ((i : ℕ) → i < length t → get_or t i 0 < value_bound) → entries32 (bytes32 t) ≡ t
unfolding entries32
read_back32 t fits =
    let size : length (bytes32 t) / 4 ≡ length t = omega (arith, bytes_length 4 t) in
    rw size (list_whole (λ i. u32_at (bytes32 t) (4 * i)) t (λ i l. entry32 t i l (fits i l)))
