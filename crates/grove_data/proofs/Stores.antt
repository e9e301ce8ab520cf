-- Stores with the same names, numbers and workers are the same.
use Rattle.std.proofs.Common.{◌≡◌, ℕ, zero, suc, ◌+◌, ◌-◌, ◌*◌, ℤ, List, [], ◌∷◌, ◌++◌, length, take, drop, get_or, map}
use Rattle.std.proofs.Common.{Option, Some, refl, sym, ap, ap₂, arith, append_assoc, ◌∙◌}
use Rattle.std.specs.Prelude.{All, FitsSigned}
use Rattle.std.specs.Int.{w64, cast_signed}
use Rattle.std.specs.List.{slice_get}
use Rattle.std.proofs.lemmas.Int.{to_z-of_z}
use Rattle.std.proofs.lemmas.List.{length-append, length-map, length-drop, take_at, drop_at, take-append-drop}
use Rattle.std.proofs.lemmas.List.Elements.{All-head, All-tail}
use Rattle.grove_base.proofs.Lists.{read_at}
use Rattle.grove_tree.specs.Trees.{Rows, NodeRow}
use Rattle.grove_tree.specs.Weights.{unweighed, weights_of}
use Rattle.grove_tree.proofs.SameNames.{length-unweighed}
use Rattle.grove_store.specs.StoreStates.{StoreState, IsStore}
use Rattle.grove_data.specs.Numbers.{bits_of, numbers_of}
use Rattle.grove_data.specs.Parts.{HasForm}
use Rattle.grove_data.proofs.Splitting.{AreSame, same_numbers}

-- a record is known by its bits
bits_back : (records : List ℤ) → All (FitsSigned w64) records → map (cast_signed w64) (bits_of records) ≡ records
bits_back [] fit = refl
bits_back (z ∷ zs) fit = ap₂ (λ (x : ℤ) (xs : List ℤ). x ∷ xs)
    (to_z-of_z w64 z (All-head (FitsSigned w64) z zs fit))
    (bits_back zs (All-tail (FitsSigned w64) z zs fit))

same_records : (records others : List ℤ) → All (FitsSigned w64) records → All (FitsSigned w64) others
    → bits_of records ≡ bits_of others → records ≡ others
same_records records others fit fits same =
    sym (bits_back records fit) ∙ ap (map (cast_signed w64)) same ∙ bits_back others fits

abbrev row_with : Option ℕ → List ℕ → ℕ → NodeRow
row_with parent name weight = record { parent = parent; name = name; weight = weight }

same_row : (row other : NodeRow) → row.parent ≡ other.parent → row.name ≡ other.name → row.weight ≡ other.weight
    → row ≡ other
same_row row other parent name weight =
    ap (λ (p : Option ℕ). row_with p row.name row.weight) parent
    ∙ ap (λ (n : List ℕ). row_with other.parent n row.weight) name
    ∙ ap (λ (w : ℕ). row_with other.parent other.name w) weight

-- rows are known by their names and weights
pub same_rows : (rows others : Rows) → unweighed rows ≡ unweighed others → weights_of rows ≡ weights_of others
    → rows ≡ others
same_rows [] [] names same = refl
same_rows [] (other ∷ others) names same = absurd (cc)
same_rows (row ∷ rows) [] names same = absurd (cc)
same_rows (row ∷ rows) (other ∷ others) names same =
    let pair : ◌≡◌ {A = Option ℕ × List ℕ} (row.parent, row.name) (other.parent, other.name) = cc in
    let parent : row.parent ≡ other.parent = ap (λ (p : Option ℕ × List ℕ). p.0) pair in
    let name : row.name ≡ other.name = ap (λ (p : Option ℕ × List ℕ). p.1) pair in
    let weight : row.weight ≡ other.weight = cc in
    let rest : rows ≡ others = same_rows rows others (cc) (cc) in
    ap₂ (λ (r : NodeRow) (rs : Rows). r ∷ rs) (same_row row other parent name weight) rest

abbrev store_with : Rows → List ℤ → List ℕ → ℕ → ℕ → StoreState
store_with rows records waits workers rounds =
    record { rows = rows; records = records; waits = waits; workers = workers; rounds = rounds }

same_state : (a b : StoreState) → a.rows ≡ b.rows → a.records ≡ b.records → a.waits ≡ b.waits → a.workers ≡ b.workers
    → a.rounds ≡ b.rounds → a ≡ b
same_state a b rows records waits workers rounds =
    ap (λ (x : Rows). store_with x a.records a.waits a.workers a.rounds) rows
    ∙ ap (λ (x : List ℤ). store_with b.rows x a.waits a.workers a.rounds) records
    ∙ ap (λ (x : List ℕ). store_with b.rows b.records x a.workers a.rounds) waits
    ∙ ap (λ (x : ℕ). store_with b.rows b.records b.waits x a.rounds) workers
    ∙ ap (λ (x : ℕ). store_with b.rows b.records b.waits b.workers x) rounds

-- as many names, as many rows
pub same_length : (rows others : Rows) → unweighed rows ≡ unweighed others → length rows ≡ length others
same_length rows others names = sym (length-unweighed rows) ∙ ap length names ∙ length-unweighed others

-- the parts of a store's numbers
pub parts_same : (a b : StoreState) → IsStore a → IsStore b → length a.rows ≡ length b.rows
    → numbers_of a ≡ numbers_of b → AreSame (weights_of a.rows) (bits_of a.records) a.waits a.rounds
    (weights_of b.rows) (bits_of b.records) b.waits b.rounds
unfolding numbers_of
parts_same a b is other long same =
    same_numbers (weights_of a.rows) (bits_of a.records) a.waits a.rounds
    (weights_of b.rows) (bits_of b.records) b.waits b.rounds
    (length-map a.rows _ ∙ long ∙ sym (length-map b.rows _))
    (length-map a.records _ ∙ is.recorded ∙ long ∙ sym other.recorded ∙ sym (length-map b.records _))
    (is.waited ∙ long ∙ sym other.waited) same

pub same_store : (a b : StoreState) → IsStore a → IsStore b → All (FitsSigned w64) a.records
    → All (FitsSigned w64) b.records → unweighed a.rows ≡ unweighed b.rows → numbers_of a ≡ numbers_of b
    → a.workers ≡ b.workers → a ≡ b
same_store a b is other fit fits names numbers workers =
    let parts = parts_same a b is other (same_length a.rows b.rows names) numbers in
    same_state a b (same_rows a.rows b.rows names parts.first)
    (same_records a.records b.records fit fits parts.second) parts.third workers parts.last

-- how many numbers a store has
pub numbers_long : (store : StoreState) → IsStore store → length (numbers_of store) ≡ 3 * length store.rows + 1
unfolding numbers_of
numbers_long store is =
    let w : length (weights_of store.rows) ≡ length store.rows = length-map store.rows _ in
    let r : length (bits_of store.records) ≡ length store.rows = length-map store.records _ ∙ is.recorded in
    let h : length store.waits ≡ length store.rows = is.waited in
    omega (
      arith,
      w,
      r,
      h,
      length-append (weights_of store.rows ++ bits_of store.records ++ store.waits) (store.rounds ∷ []),
      length-append (weights_of store.rows ++ bits_of store.records) store.waits,
      length-append (weights_of store.rows) (bits_of store.records),
    )

last_at : (front : List ℕ) (last i d : ℕ) → i ≡ length front → get_or (front ++ last ∷ []) i d ≡ last
last_at [] last zero d at = refl
last_at [] last (suc i) d at = absurd (omega arith)
last_at (x ∷ front) last zero d at = absurd (omega arith)
last_at (x ∷ front) last (suc i) d at = last_at front last i d (omega arith)

-- the count of rounds stands last
rounds_last : (store : StoreState) → IsStore store → (i d : ℕ) → i ≡ 3 * length store.rows
    → get_or (numbers_of store) i d ≡ store.rounds
unfolding numbers_of
rounds_last store is i d at =
    let w : length (weights_of store.rows) ≡ length store.rows = length-map store.rows _ in
    let r : length (bits_of store.records) ≡ length store.rows = length-map store.records _ ∙ is.recorded in
    let h : length store.waits ≡ length store.rows = is.waited in
    last_at (weights_of store.rows ++ bits_of store.records ++ store.waits) store.rounds i d
    (omega (
      arith,
      w,
      r,
      h,
      at,
      length-append (weights_of store.rows ++ bits_of store.records) store.waits,
      length-append (weights_of store.rows) (bits_of store.records),
    ))

pub last_read : (store : StoreState) → IsStore store → (kept : List ℕ) → kept ≡ numbers_of store
    → slice_get kept (length kept - 1) ≡ Some store.rounds
last_read store is kept are =
    let long : length kept ≡ 3 * length store.rows + 1 = ap (λ (l : List ℕ). length l) are ∙ numbers_long store is in
    read_at kept (length kept - 1) store.rounds (omega arith)
    (sym (ap (λ (l : List ℕ). get_or l (length kept - 1) store.rounds) are
    ∙ rounds_last store is (length kept - 1) store.rounds (omega arith)))

-- the weights stand first
pub weights_first : (store : StoreState) (n : ℕ) → n ≡ length store.rows
    → take n (numbers_of store) ≡ weights_of store.rows
unfolding numbers_of
weights_first store n at =
    ap (take n) (regrouped (weights_of store.rows) (bits_of store.records) store.waits (store.rounds ∷ []))
    ∙ take_at (weights_of store.rows) (bits_of store.records ++ (store.waits ++ store.rounds ∷ [])) n
    (length-map store.rows _ ∙ sym at)
  where
    regrouped : (a b c d : List ℕ) → a ++ b ++ c ++ d ≡ a ++ (b ++ (c ++ d))
    regrouped a b c d = simp append_assoc

-- the records' bits stand second, and the waits third
pub behind_first : (store : StoreState) (n : ℕ) → n ≡ length store.rows
    → drop n (numbers_of store) ≡ bits_of store.records ++ (store.waits ++ store.rounds ∷ [])
unfolding numbers_of
behind_first store n at =
    ap (drop n) (regrouped (weights_of store.rows) (bits_of store.records) store.waits (store.rounds ∷ []))
    ∙ drop_at (weights_of store.rows) (bits_of store.records ++ (store.waits ++ store.rounds ∷ [])) n
    (length-map store.rows _ ∙ sym at)
  where
    regrouped : (a b c d : List ℕ) → a ++ b ++ c ++ d ≡ a ++ (b ++ (c ++ d))
    regrouped a b c d = simp append_assoc

pub waits_third : (store : StoreState) → IsStore store → (n : ℕ) → n ≡ length store.rows
    → take n (drop n (drop n (numbers_of store))) ≡ store.waits
waits_third store is n at =
    ap (λ (l : List ℕ). take n (drop n l)) (behind_first store n at)
    ∙ ap (take n) (drop_at (bits_of store.records) (store.waits ++ store.rounds ∷ []) n
    (length-map store.records _ ∙ is.recorded ∙ sym at))
    ∙ take_at store.waits (store.rounds ∷ []) n (is.waited ∙ sym at)

-- numbers are their first, second and third parts, and the last one
pub parts_of : (numbers : List ℕ) (n d : ℕ) → length numbers ≡ 3 * n + 1
    → take n numbers ++ take n (drop n numbers) ++ take n (drop n (drop n numbers))
    ++ get_or (drop n (drop n (drop n numbers))) 0 d ∷ [] ≡ numbers
parts_of numbers n d long =
    let rest = drop n numbers in
    let last = drop n (drop n rest) in
    let one : length last ≡ 1 =
    omega (arith, length-drop n numbers, length-drop n rest, length-drop n (drop n rest)) in
    ap (λ (l : List ℕ). take n numbers ++ take n rest ++ take n (drop n rest) ++ l) (single last d one)
    ∙ regrouped (take n numbers) (take n rest) (take n (drop n rest)) last
    ∙ ap (λ (l : List ℕ). take n numbers ++ (take n rest ++ l)) (take-append-drop n (drop n rest))
    ∙ ap (λ (l : List ℕ). take n numbers ++ l) (take-append-drop n rest) ∙ take-append-drop n numbers
  where
    regrouped : (a b c d : List ℕ) → a ++ b ++ c ++ d ≡ a ++ (b ++ (c ++ d))
    regrouped a b c d = simp append_assoc

    single : (xs : List ℕ) (d : ℕ) → length xs ≡ 1 → get_or xs 0 d ∷ [] ≡ xs
    single [] d one = absurd (omega arith)
    single (x ∷ []) d one = refl
    single (x ∷ y ∷ xs) d one = absurd (omega arith)

-- so many names and numbers are those of a store
pub form_of : (store : StoreState) → IsStore store
    → HasForm (length (unweighed store.rows)) (length (numbers_of store))
form_of store is = (
  omega (arith, length-unweighed store.rows, is.limits.few),
  omega (arith, length-unweighed store.rows, numbers_long store is),
)

-- numbers that are put together from a store's parts are its own
pub joined : (store : StoreState) (numbers w b h : List ℕ) (k : ℕ) → weights_of store.rows ≡ w
    → bits_of store.records ≡ b → store.waits ≡ h → store.rounds ≡ k → w ++ b ++ h ++ k ∷ [] ≡ numbers
    → numbers_of store ≡ numbers
unfolding numbers_of
joined store numbers w b h k first second third last whole =
    ap (λ (l : List ℕ). l ++ bits_of store.records ++ store.waits ++ store.rounds ∷ []) first
    ∙ ap (λ (l : List ℕ). w ++ l ++ store.waits ++ store.rounds ∷ []) second
    ∙ ap (λ (l : List ℕ). w ++ b ++ l ++ store.rounds ∷ []) third
    ∙ ap (λ (n : ℕ). w ++ b ++ h ++ n ∷ []) last ∙ whole
