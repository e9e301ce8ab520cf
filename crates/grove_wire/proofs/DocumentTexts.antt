-- The text of a document of a tree: it has no float, isn't deep, is as short as a document has to be, and is read.
use Rattle.std.proofs.Common.{◌≡◌, ℕ, zero, suc, ◌+◌, ◌*◌, ◌/◌, ◌%◌, ◌<◌, ◌≤◌, ◌^◌, ℤ, pos, negsuc, w64, Bool, true, false, cond, List, [], ◌∷◌, ◌++◌, length, Option, Some, None, IfSome, refl, ap, arith, length-append}
use Rattle.std.specs.Prelude.{map, codes, Ok, slice_get, FitsSigned, IsUtf8, nat_lt}
use Rattle.std.proofs.lemmas.Bool.{and_parts, leb-true, le-ltb}
use Rattle.std.proofs.lemmas.Fmt.{length-decimal-le, length_signed_le}
use Rattle.std.specs.Char.{digit_char}
use Rattle.json.specs.Print.{escape_letter, escape_byte, escape, quoted}
use Rattle.serde_json.specs.Data.{Data, string, array, object, Members, no_members, member, depth, items_depth}
use Rattle.serde_json.specs.Read.{read}
use Rattle.serde_json.specs.View.{items_of}
use Rattle.serde_json.specs.Written.{has_float, comma_if, compact_text, items_text, members_text}
use Rattle.grove_base.specs.Numbers.{numbers_below}
use Rattle.grove_base.proofs.Counting.{numbers_length, numbers_got}
use Rattle.grove_tree.specs.Trees.{Rows, parent_of, name_of, weight_of}
use Rattle.grove_tree.specs.Rules.{AreTreeRows}
use Rattle.grove_access.specs.Effects.{record_at}
use Rattle.grove_wire.specs.Writing.{number_data, count_data}
use Rattle.grove_wire.specs.Documents.{parent_data, row_data, document_data, document_text}
use Rattle.grove_wire.specs.Reading.{value_of, version_in, document_of}
use Rattle.grove_wire.proofs.Documents.{value_read}
use Rattle.grove_wire.proofs.Floatless.{array_has_no_float}
use Rattle.grove_wire.proofs.Stored.{parent_few}

-- ---- no floats

row_by : (parent : Option ℕ) (name : List ℕ) (value : ℤ) (weight : ℕ) → has_float (object
    (member (codes "name") (string name)
    (member (codes "parent") (parent_data parent)
    (member (codes "value") (number_data value)
    (member (codes "weight") (count_data weight) no_members))))) ≡ false
row_by None name (pos n) weight = refl
row_by None name (negsuc n) weight = refl
row_by (Some parent) name (pos n) weight = refl
row_by (Some parent) name (negsuc n) weight = refl

pub document_has_no_float : (rows : Rows) (records : List ℤ) → has_float (document_data rows records) ≡ false
document_has_no_float rows records =
    rw (array_has_no_float (row_data rows records) (λ node. row_by (parent_of rows node) (name_of rows node) (record_at records node) (weight_of rows node)) (numbers_below (length rows))) refl

-- ---- few levels

parent_level : (parent : Option ℕ) → depth (parent_data parent) ≡ 0
parent_level None = refl
parent_level (Some parent) = refl

row_level : (rows : Rows) (records : List ℤ) (node : ℕ) → depth (row_data rows records node) ≤ 1
row_level rows records node = omega (arith, parent_level (parent_of rows node))

rows_level : (data_of : ℕ → Data) → ((node : ℕ) → depth (data_of node) ≤ 1) → (nodes : List ℕ) → items_depth (items_of (map data_of nodes)) ≤ 1
rows_level data_of few [] = omega arith
rows_level data_of few (node ∷ nodes) = omega (arith, few node, rows_level data_of few nodes)

pub document_level : (rows : Rows) (records : List ℤ) → depth (document_data rows records) ≤ 127
document_level rows records = omega (arith, rows_level (row_data rows records) (row_level rows records) (numbers_below (length rows)))

-- ---- few bytes

at_most_six : (a b : Bool) (x y z : List ℕ) → length x ≤ 6 → length y ≤ 6 → length z ≤ 6 → length (cond a x (cond b y z)) ≤ 6
at_most_six true b x y z hx hy hz = hx
at_most_six false true x y z hx hy hz = hy
at_most_six false false x y z hx hy hz = hz

byte_few : (x : ℕ) → length (escape_byte x) ≤ 6
unfolding escape_byte
byte_few x =
    at_most_six (nat_lt 0 (escape_letter x)) (nat_lt x 32) (92 ∷ escape_letter x ∷ []) (92 ∷ 117 ∷ 48 ∷ 48 ∷ digit_char (x / 16) ∷ digit_char (x % 16) ∷ []) (x ∷ [])
    (omega arith) (omega arith) (omega arith)

escape_few : (s : List ℕ) → length (escape s) ≤ 6 * length s
escape_few [] = omega arith
escape_few (x ∷ s) = omega (arith, length-append (escape_byte x) (escape s), byte_few x, escape_few s)

quoted_few : (s : List ℕ) → length (quoted s) ≤ 2 + 6 * length s
quoted_few s = omega (arith, length-append (escape s) (34 ∷ []), escape_few s)

comma_few : (later : Bool) → length (comma_if later) ≤ 1
comma_few true = omega arith
comma_few false = omega arith

-- a member takes its name, its value and four bytes beside
member_few : (later : Bool) (name : List ℕ) (d : Data) (ms : Members) (n : ℕ) → length (compact_text d) ≤ n
    → length (members_text later (member name d ms)) ≤ 4 + 6 * length name + n + length (members_text true ms)
member_few later name d ms n few =
    omega (
      arith,
      few,
      length-append (comma_if later) (quoted name ++ 58 ∷ (compact_text d ++ members_text true ms)),
      length-append (quoted name) (58 ∷ (compact_text d ++ members_text true ms)),
      length-append (compact_text d) (members_text true ms),
      comma_few later,
      quoted_few name,
    )

count_few : (n : ℕ) → n < 10 ^ 10 → length (compact_text (count_data n)) ≤ 20
count_few n small = omega (arith, length-decimal-le 10 n (omega arith) small (omega arith))

number_few : (z : ℤ) → FitsSigned w64 z → length (compact_text (number_data z)) ≤ 20
number_few (pos n) fits = omega (arith, length-decimal-le 19 n (omega arith) (omega (arith, fits.sfits)) (omega (arith, fits.sfits)))
number_few (negsuc n) fits = length_signed_le 19 (negsuc n) (omega (arith, fits.sfits)) (omega (arith, fits.sfits))

parent_text_few : (parent : Option ℕ) → IfSome parent (λ p. p < 2 ^ 32) → length (compact_text (parent_data parent)) ≤ 20
parent_text_few None small = omega arith
parent_text_few (Some parent) small = count_few parent (omega arith)

row_few : (name : List ℕ) (parent value weight : Data) → length name ≤ 32 → length (compact_text parent) ≤ 20 → length (compact_text value) ≤ 20 → length (compact_text weight) ≤ 20
    → length (compact_text (object (member (codes "name") (string name) (member (codes "parent") parent (member (codes "value") value (member (codes "weight") weight no_members)))))) ≤ 500
row_few name parent value weight named p v w =
    let fourth = member_few true (codes "weight") weight no_members 20 w in
    let third = member_few true (codes "value") value (member (codes "weight") weight no_members) 20 v in
    let second = member_few true (codes "parent") parent (member (codes "value") value (member (codes "weight") weight no_members)) 20 p in
    let first = member_few false (codes "name") (string name) (member (codes "parent") parent (member (codes "value") value (member (codes "weight") weight no_members))) 194 (omega (arith, quoted_few name)) in
    omega (arith, first, second, third, fourth)

each_few : (data_of : ℕ → Data) (nodes : List ℕ) (later : Bool) → ((i node : ℕ) → slice_get nodes i ≡ Some node → length (compact_text (data_of node)) ≤ 500)
    → length (items_text later (items_of (map data_of nodes))) ≤ 1 + 501 * length nodes
each_few data_of [] later few = omega arith
each_few data_of (node ∷ nodes) later few =
    omega (
      arith,
      length-append (comma_if later) (compact_text (data_of node) ++ items_text true (items_of (map data_of nodes))),
      length-append (compact_text (data_of node)) (items_text true (items_of (map data_of nodes))),
      comma_few later,
      few 0 node refl,
      each_few data_of nodes true (λ i other at. few (suc i) other at),
    )

name_few : (rows : Rows) → AreTreeRows rows → (node : ℕ) → node < length rows → length (name_of rows node) ≤ 32
name_few rows (tree, limits) zero within = omega (arith, ap (λ (l : List ℕ). length l) limits.unnamed_root)
name_few rows (tree, limits) (suc node) within =
    let (some, more) = and_parts _ _ (limits.names node within) in
    let (few, bytes) = and_parts _ _ more in
    leb-true (length (name_of rows (suc node))) 32 few

module _ (rows : Rows) (records : List ℤ) (fit : AreTreeRows rows) (fits : (node : ℕ) → node < length rows → FitsSigned w64 (record_at records node)) where
  node_few : (i node : ℕ) → slice_get (numbers_below (length rows)) i ≡ Some node → length (compact_text (row_data rows records node)) ≤ 500
  node_few i node at =
      let (same, below) = numbers_got (length rows) i node at in
      let within : node < length rows = omega arith in
      row_few (name_of rows node) (parent_data (parent_of rows node)) (number_data (record_at records node)) (count_data (weight_of rows node)) (name_few rows fit node within)
      (parent_text_few (parent_of rows node) (parent_few rows fit node within (parent_of rows node) refl)) (number_few (record_at records node) (fits node within))
      (count_few (weight_of rows node) (omega (arith, fit.1.light node)))

  -- a document may be twice as long
  pub document_few : length (document_text rows records) ≤ 4194304
  document_few =
      let nodes = array (items_of (map (row_data rows records) (numbers_below (length rows)))) in
      let some = each_few (row_data rows records) (numbers_below (length rows)) false node_few in
      let last = member_few true (codes "version") (count_data 1) no_members 20 (count_few 1 (omega arith)) in
      let first = member_few false (codes "nodes") nodes (member (codes "version") (count_data 1) no_members) 3000000 (omega (arith, some, numbers_length (length rows), fit.1.few)) in
      omega (arith, first, last)

-- ---- and so it is read

document_by : (rows : Rows) (records : List ℤ) (bytes : List ℕ) → length bytes ≤ 4194304 → value_of bytes ≡ Some (document_data rows records) → document_of bytes ≡ Ok (document_data rows records)
unfolding document_of version_in
document_by rows records bytes few is = rw (le-ltb 4194304 (length bytes) few, is) refl

pub document_opens : (rows : Rows) (records : List ℤ) (bytes : List ℕ) → IsUtf8 bytes → bytes ≡ document_text rows records → length (document_text rows records) ≤ 4194304
    → (depth (document_data rows records) ≤ 127 → read bytes ≡ Some (document_data rows records)) → document_of bytes ≡ Ok (document_data rows records)
document_opens rows records bytes valid is few reads =
    document_by rows records bytes (omega (arith, few, ap (λ (l : List ℕ). length l) is)) (value_read bytes (document_data rows records) valid (reads (document_level rows records)))
