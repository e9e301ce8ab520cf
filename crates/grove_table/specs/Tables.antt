-- A table of a tree: lines of a path, a weight and a value; and the trees with records that are of a table.
use Rattle.std.specs.Prelude.{◌≡◌, ◌≤◌, ◌<◌, ◌⊎◌, ℕ, ℤ, pos, List, [], ◌∷◌, ◌++◌, length, slice_get}
use Rattle.std.specs.Prelude.{Some, unwrap_or, string_bytes, codes}
use Rattle.std.specs.List.{AllZip}
use Rattle.std.specs.Str.Parse.{IsNumeral, digits_value, signed_digits_value, without_leading_plus}
use Rattle.std.specs.Str.Parse.{without_leading_sign}
use Rattle.csv.specs.Reading.{default_config, strip_bom, AreRecords}
use Rattle.csv.specs.Records.{field_at}
use Rattle.csv.specs.declared.parser.State.TheVariants as st
use Rattle.grove_tree.specs.Paths.{path_of}
use Rattle.grove_tree.specs.Trees.{Rows, weight_of, IsAbove}
use Rattle.grove_access.specs.Effects.{record_at}
use Rattle.grove_table.specs.declared.line.Line.{Line}
use Rattle.grove_table.specs.declared.tree_making.Absent.{Absent}
use Rattle.grove_table.specs.declared.tree_making.Absent.TheVariants.{Added}

-- ---- lines of a text

-- an empty field says weight 1, and any other a number from 1 to 1000
abbrev pub IsWeightIn : List ℕ → ℕ → Type 0
IsWeightIn [] weight = weight ≡ 1
IsWeightIn (byte ∷ bytes) weight = (weight ≡ digits_value 10 (without_leading_plus (byte ∷ bytes)))
    × IsNumeral 10 (without_leading_plus (byte ∷ bytes)) × (1 ≤ weight) × (weight ≤ 1000)

-- an empty field says value 0, and any other a number with its sign
abbrev pub IsValueIn : List ℕ → ℤ → Type 0
IsValueIn [] value = value ≡ pos 0
IsValueIn (byte ∷ bytes) value = (value ≡ signed_digits_value 10 (byte ∷ bytes))
    × IsNumeral 10 (without_leading_sign (byte ∷ bytes))

-- a line is what the fields of a row say: a path, a weight and a value; those that aren't there are empty
abbrev pub field_of : List (List ℕ) → ℕ → List ℕ
field_of fields place = unwrap_or (field_at fields place) []

pub record IsLine (fields : List (List ℕ)) (line : Line) : Type 0 where
  pub path : string_bytes line.path ≡ field_of fields 0
  pub weight : IsWeightIn (field_of fields 1) line.weight
  pub value : IsValueIn (field_of fields 2) line.value

-- the rows of a text of CSV, in which `#` begins a comment; a line feed behind the text ends its last line
abbrev pub AreRowsOf : List ℕ → List (List (List ℕ)) → Type 0
AreRowsOf text rows =
    AreRecords (record default_config { comment = Some 35 }) st.StartRecord (strip_bom (text ++ 10 ∷ [])) rows

-- the lines are the rows of a text; a first row may be a header
abbrev pub AreLinesOf : List ℕ → List Line → Type 0
AreLinesOf text lines = (rows : List (List (List ℕ))) × AreRowsOf text rows × (AllZip IsLine rows lines
    ⊎ ((header : List (List ℕ)) × (below : List (List (List ℕ))) × (rows ≡ header ∷ below)
    × (field_of header 0 ≡ codes "path") × AllZip IsLine below lines))

-- ---- the tree of lines

-- a node is a line's: it has its path, its weight and its value
pub record IsNodeOf (tree : Rows) (records : List ℤ) (line : Line) (node : ℕ) : Type 0 where
  pub within : node < length tree
  pub path : path_of tree node ≡ string_bytes line.path
  pub weight : weight_of tree node ≡ line.weight
  pub value : record_at records node ≡ line.value

-- a node is that of a line
abbrev pub IsOfLine : Rows → List ℤ → List Line → ℕ → Type 0
IsOfLine tree records lines node =
    (place : ℕ) × (line : Line) × (slice_get lines place ≡ Some line) × IsNodeOf tree records line node

-- or it is above the node of a line, with weight 1 and value 0, where such nodes are to be added
pub record IsAdded (absent : Absent) (tree : Rows) (records : List ℤ) (lines : List Line) (node : ℕ) : Type 0 where
  pub wanted : absent ≡ Added
  pub weight : weight_of tree node ≡ 1
  pub value : record_at records node ≡ pos 0
  pub above : (low : ℕ) × IsOfLine tree records lines low × IsAbove tree node low

-- a tree with its records is that of the lines: each line has its node, and each node comes from the lines
pub record IsTreeOf (absent : Absent) (lines : List Line) (tree : Rows) (records : List ℤ) : Type 0 where
  pub fits : length records ≡ length tree
  pub nodes : (place : ℕ) → place < length lines → (line : Line) → slice_get lines place ≡ Some line
      → (node : ℕ) × IsNodeOf tree records line node
  pub whole : (node : ℕ) → node < length tree → IsOfLine tree records lines node
      ⊎ IsAdded absent tree records lines node
