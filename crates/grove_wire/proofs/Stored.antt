-- A tree's rows with its records, told by the nodes' numbers, and what they read as.
use Rattle.std.proofs.Common.{◌≡◌, ℕ, zero, suc, ◌+◌, ◌<◌, ◌≤◌, ◌^◌, ℤ, pos, negsuc, w64, List, [], ◌∷◌, ◌++◌, length, take, Option, Some, None, IfSome, inl, inr, refl, sym, ap, ◌∙◌, arith, lt-ltb}
use Rattle.std.specs.Prelude.{map, codes, Ok, slice_get, FitsSigned}
use Rattle.std.proofs.lemmas.Bool.{cases_eq}
use Rattle.std.proofs.lemmas.List.{map_push, take_all}
use Rattle.std.proofs.lemmas.Simd.{map-map}
use Rattle.serde_json.specs.Data.{Data, string, object, no_members, member}
use Rattle.serde_json.specs.View.{view}
use Rattle.serde_json.specs.declared.value.Value.{Value}
use Rattle.grove_base.specs.Numbers.{numbers_below}
use Rattle.grove_base.proofs.Lists.{item_there, take_next, map_length}
use Rattle.grove_tree.specs.Trees.{Rows, NodeRow, parent_of, name_of, weight_of}
use Rattle.grove_tree.specs.Rules.{AreTreeRows, tree_fault_of}
use Rattle.grove_tree.specs.declared.fault.TreeFault.{TreeFault}
use Rattle.grove_tree.proofs.Above.{parent_lt}
use Rattle.grove_tree.proofs.FaultlessRows.{faulty_refused}
use Rattle.grove_access.specs.Effects.{record_at}
use Rattle.grove_wire.specs.Forms as form
use Rattle.grove_wire.specs.Forms.{row_form, as_short}
use Rattle.grove_wire.specs.RowParts.{row_with}
use Rattle.grove_wire.specs.Writing.{number_data, count_data}
use Rattle.grove_wire.specs.Documents.{parent_data, row_data}
use Rattle.grove_wire.specs.declared.place.Part.TheVariants as part
use Rattle.grove_wire.specs.Outcomes.{of_form, each_from}
use Rattle.grove_wire.specs.Places.{whole_of}
use Rattle.grove_wire.specs.Reading.{items_in, tree_in}
use Rattle.grove_wire.proofs.Columns.{rows_in, records_in}
use Rattle.grove_wire.proofs.Each.{each_pushed, few_read}
use Rattle.grove_wire.proofs.Shorts.{short_is_read}
use Rattle.grove_wire.proofs.Turns.{row_in}

-- a list is its items by their numbers
listed_to : {A : Type 0} (xs : List A) (f : ℕ → A) → ((i : ℕ) (x : A) → slice_get xs i ≡ Some x → f i ≡ x) → (n : ℕ) → n ≤ length xs → map f (numbers_below n) ≡ take n xs
listed_to xs f is zero within = refl
listed_to xs f is (suc n) within =
    let there = item_there xs n (omega arith) in
    map_push f (numbers_below n) n ∙ ap (λ ys. ys ++ f n ∷ []) (listed_to xs f is n (omega arith))
    ∙ ap (λ y. take n xs ++ y ∷ []) (is n there.0 there.1) ∙ sym (take_next xs n there.0 there.1)

pub listed : {A : Type 0} (xs : List A) (f : ℕ → A) → ((i : ℕ) (x : A) → slice_get xs i ≡ Some x → f i ≡ x) → map f (numbers_below (length xs)) ≡ xs
listed xs f is = listed_to xs f is (length xs) (omega arith) ∙ take_all (length xs) xs (omega arith)

-- the row of a node, and its record
abbrev pub stored_row : Rows → List ℤ → ℕ → NodeRow × ℤ
stored_row rows records node = row_with (parent_of rows node) (name_of rows node) (weight_of rows node) (record_at records node)

abbrev pub stored_rows : Rows → List ℤ → ℕ → List (NodeRow × ℤ)
stored_rows rows records n = map (stored_row rows records) (numbers_below n)

row_there : (rows : Rows) (records : List ℤ) (i : ℕ) (row : NodeRow) → slice_get rows i ≡ Some row → (stored_row rows records i).0 ≡ row
row_there rows records i row is = rw is refl

record_there : (records : List ℤ) (i : ℕ) (x : ℤ) → slice_get records i ≡ Some x → record_at records i ≡ x
record_there [] i x is = absurd (cc)
record_there (y ∷ records) zero x is = cc
record_there (y ∷ records) (suc i) x is = record_there records i x is

rows_stored : (rows : Rows) (records : List ℤ) → rows_in (stored_rows rows records (length rows)) ≡ rows
rows_stored rows records =
    map-map (λ (row : NodeRow × ℤ). row.0) (stored_row rows records) (numbers_below (length rows)) ∙ listed rows (λ i. (stored_row rows records i).0) (row_there rows records)

records_stored : (rows : Rows) (records : List ℤ) → length records ≡ length rows → records_in (stored_rows rows records (length rows)) ≡ records
records_stored rows records same =
    map-map (λ (row : NodeRow × ℤ). row.1) (stored_row rows records) (numbers_below (length rows))
    ∙ ap (λ n. map (record_at records) (numbers_below n)) (sym same) ∙ listed records (record_at records) (record_there records)

-- rows that a tree can be built from have no fault
faultless_by : (rows : Rows) → AreTreeRows rows → (o : Option TreeFault) → tree_fault_of rows ≡ o → o ≡ None
faultless_by rows fit None is = refl
faultless_by rows fit (Some fault) is = absurd (faulty_refused rows fault is fit)

faultless : (rows : Rows) → AreTreeRows rows → tree_fault_of rows ≡ None
faultless rows fit = faultless_by rows fit (tree_fault_of rows) refl

-- ---- a row that is written

abbrev written_row : Option ℕ → List ℕ → ℤ → ℕ → Data
written_row parent name value weight = object
    (member (codes "name") (string name)
    (member (codes "parent") (parent_data parent)
    (member (codes "value") (number_data value)
    (member (codes "weight") (count_data weight) no_members))))

-- is read as itself
row_is_read : (parent : Option ℕ) (name : List ℕ) (value : ℤ) (weight : ℕ) → IfSome parent (λ p. p < 2 ^ 32) → FitsSigned w64 value → weight < 2 ^ 32
    → (place : ℕ) → row_in place (written_row parent name value weight) ≡ Ok (row_with parent name weight value)
unfolding row_form as_short
row_is_read None name (pos n) weight few fits light place = rw (short_is_read weight light, lt-ltb n (2 ^ 63) fits.sfits) refl
row_is_read None name (negsuc n) weight few fits light place = rw (short_is_read weight light) refl
row_is_read (Some parent) name (pos n) weight few fits light place = rw (short_is_read parent few, short_is_read weight light, lt-ltb n (2 ^ 63) fits.sfits) refl
row_is_read (Some parent) name (negsuc n) weight few fits light place = rw (short_is_read parent few, short_is_read weight light) refl

pub parent_few : (rows : Rows) → AreTreeRows rows → (node : ℕ) → node < length rows → (o : Option ℕ) → parent_of rows node ≡ o → IfSome o (λ p. p < 2 ^ 32)
parent_few rows fit node within None own = tt
parent_few rows (tree, limits) node within (Some parent) own = omega (arith, parent_lt rows tree node parent own, limits.few)

-- one more row is written
pub written_next : (items : List Value) (value : Value) (data_of : ℕ → Data) (n : ℕ) → map view items ≡ map data_of (numbers_below n) → view value ≡ data_of n
    → map view (items ++ value ∷ []) ≡ map data_of (numbers_below (n + 1))
written_next items value data_of n so_far next =
    let more : suc n ≡ n + 1 = omega arith in
    map_push view items value ∙ ap (λ ds. ds ++ view value ∷ []) so_far ∙ ap (λ d. map data_of (numbers_below n) ++ d ∷ []) next
    ∙ sym (map_push data_of (numbers_below n) n) ∙ ap (λ m. map data_of (numbers_below m)) more

-- and is one more that is read
pub reads_next : (rows : Rows) (records : List ℤ) → AreTreeRows rows → (items : List Value) (value : Value) (n : ℕ) → n < length rows → FitsSigned w64 (record_at records n) → view value ≡ row_data rows records n
    → each_from row_in 0 (map view items) ≡ Ok (stored_rows rows records n)
    → each_from row_in 0 (map view (items ++ value ∷ [])) ≡ Ok (stored_rows rows records (n + 1))
reads_next rows records fit items value n within fits is so_far =
    let more : suc n ≡ n + 1 = omega arith in
    let light : weight_of rows n < 2 ^ 32 = omega (arith, fit.1.light n) in
    let read : (place : ℕ) → row_in place (view value) ≡ Ok (stored_row rows records n) = λ place.
    ap (row_in place) is ∙ row_is_read (parent_of rows n) (name_of rows n) (record_at records n) (weight_of rows n)
    (parent_few rows fit n within (parent_of rows n) refl) fits light place in
    ap (λ ds. each_from row_in 0 ds) (map_push view items value)
    ∙ each_pushed row_in (view value) (stored_row rows records n) (map view items)
    (stored_rows rows records n) read so_far
    ∙ ap Ok (sym (map_push (stored_row rows records) (numbers_below n) n)) ∙ ap (λ m. Ok (stored_rows rows records m)) more

-- whose record is a number of 64 bits too
pub fits_next : (records : List ℤ) (n : ℕ) → ((node : ℕ) → node < n → FitsSigned w64 (record_at records node)) → FitsSigned w64 (record_at records n)
    → (node : ℕ) → node < n + 1 → FitsSigned w64 (record_at records node)
fits_next records n before here node small = elim (cases_eq node n) [
  | inl last ↦ rw last here
  | inr other ↦ before node (omega arith)
]

-- a document with these rows reads as the tree with its records
pub stored_tree : (rows : Rows) (records : List ℤ) → length records ≡ length rows → AreTreeRows rows → (n : ℕ) → n ≡ length rows → (d : Data) (ds : List Data) → form.items_of (codes "nodes") d ≡ Some ds
    → each_from row_in 0 ds ≡ Ok (stored_rows rows records n) → tree_in d ≡ Ok (rows, records)
unfolding tree_in items_in
stored_tree rows records same fit n all d ds nodes read =
    let stored : List (NodeRow × ℤ) = stored_rows rows records (length rows) in
    let many : length stored ≡ length rows =
    sym (map_length (λ (row : NodeRow × ℤ). row.0) stored) ∙ ap length (rows_stored rows records) in
    let few : length stored ≤ 4294967295 = omega (arith, fit.1.few) in
    let taken = few_read 4294967295 (of_form row_form) (whole_of part.Nodes) ds stored few
    (read ∙ ap (λ m. Ok (stored_rows rows records m)) all) in
    rw (nodes, taken, rows_stored rows records, records_stored rows records same, faultless rows fit) refl
