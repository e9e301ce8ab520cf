-- Which fault a table is refused for: that of the first line that breaks a rule, and of its rules the first.
use Rattle.std.specs.Prelude.{◌≡◌, ◌<◌, ◌⊎◌, ◌==◌, ◌&&◌, ◌||◌, ⊤, ℕ, ℤ, pred, suc, nat_lt, Bool, true, IsUtf8}
use Rattle.std.specs.Prelude.{List, [], ◌∷◌, ◌++◌, length, take, map, flat_map, fold, slice_get, slice_index, Some}
use Rattle.std.specs.Prelude.{string_bytes, codes, bytes_eq, if◌then◌else◌}
use Rattle.std.specs.List.{list_all, list_any}
use Rattle.grove_base.specs.Numbers.{last_below, passing_below}
use Rattle.grove_tree.specs.Paths.{or_slash}
use Rattle.grove_tree.specs.Rules.{is_name}
use Rattle.grove_access.specs.Effects.{fits}
use Rattle.grove_table.specs.declared.fault.LineFault.{LineFault}
use Rattle.grove_table.specs.declared.fault.Reason.{Reason}
use Rattle.grove_table.specs.declared.fault.Reason.TheVariants.{BadHeader, BadFields, NotText, BadName, TooDeep}
use Rattle.grove_table.specs.declared.fault.Reason.TheVariants.{BadWeight, BadValue, TwiceNamed, NoParent, TooMany}
use Rattle.grove_table.specs.declared.fault.TableFault.{TableFault}
use Rattle.grove_table.specs.declared.fault.TableFault.TheVariants as fault
use Rattle.grove_table.specs.declared.line.Line.{Line}
use Rattle.grove_table.specs.declared.tree_making.Absent.{Absent}
use Rattle.grove_table.specs.declared.tree_making.Absent.TheVariants.{Refused}
use Rattle.grove_table.specs.Tables.{AreRowsOf, IsValueIn, IsWeightIn, field_of}

-- the least place at which something is so
abbrev pub IsFirst : (ℕ → Type 0) → ℕ → Type 0
IsFirst P place = P place × ((before : ℕ) → before < place → ¬ P before)

-- ---- rows that are no lines

-- a path has these names, each after a slash, or none after a slash alone
abbrev pub IsPathWith : List (List ℕ) → List ℕ → Type 0
IsPathWith names path = (path ≡ or_slash (flat_map (λ name. 47 ∷ name) names)) × (list_all is_name names ≡ true)

-- the rules for the fields of a row, in the order in which they count
abbrev pub row_rules : List Reason
row_rules = BadFields ∷ NotText ∷ BadName ∷ TooDeep ∷ BadWeight ∷ BadValue ∷ []

-- fields break a rule
abbrev pub Breaks : List (List ℕ) → Reason → Type 0
Breaks fields BadFields = 3 < length fields
Breaks fields NotText = (place : ℕ) × ¬ IsUtf8 (field_of fields place)
Breaks fields BadName = (names : List (List ℕ)) → ¬ IsPathWith names (field_of fields 0)
Breaks fields TooDeep = (names : List (List ℕ)) × IsPathWith names (field_of fields 0) × (32 < length names)
Breaks fields BadWeight = (weight : ℕ) → ¬ IsWeightIn (field_of fields 1) weight
Breaks fields BadValue = (value : ℤ) → fits value ≡ true → ¬ IsValueIn (field_of fields 2) value
Breaks fields BadHeader = ⊥
Breaks fields TwiceNamed = ⊥
Breaks fields NoParent = ⊥
Breaks fields TooMany = ⊥

-- what a fault is about: the path, the weight or the value
abbrev pub about_of : List (List ℕ) → Reason → List ℕ
about_of fields BadName = field_of fields 0
about_of fields TooDeep = field_of fields 0
about_of fields BadWeight = field_of fields 1
about_of fields BadValue = field_of fields 2
about_of fields _ = []

-- fields break none of the rules
abbrev pub KeepsAll : List (List ℕ) → List Reason → Type 0
KeepsAll fields [] = ⊤
KeepsAll fields (rule ∷ rules) = ¬ Breaks fields rule × KeepsAll fields rules

abbrev pub IsFaultless : List (List ℕ) → Type 0
IsFaultless fields = KeepsAll fields row_rules

-- or they break this one first
abbrev pub IsFirstBroken : List (List ℕ) → Reason → Type 0
IsFirstBroken fields rule = (front back : List Reason) × (row_rules ≡ front ++ rule ∷ back)
    × KeepsAll fields front × Breaks fields rule

abbrev pub IsNoLine : List (List ℕ) → LineFault → Type 0
IsNoLine fields fault = IsFirstBroken fields fault.reason × (string_bytes fault.about ≡ about_of fields fault.reason)

-- the first row that does
abbrev pub IsRowRefused : List (List (List ℕ)) → LineFault → Type 0
IsRowRefused rows fault = (place : ℕ) × (fields : List (List ℕ)) × (slice_get rows place ≡ Some fields)
    × IsNoLine fields fault
    × ((before : ℕ) (other : List (List ℕ)) → before < place → slice_get rows before ≡ Some other → IsFaultless other)

-- no row does
abbrev pub AreFaultless : List (List (List ℕ)) → Type 0
AreFaultless rows = (place : ℕ) (fields : List (List ℕ)) → slice_get rows place ≡ Some fields → IsFaultless fields

-- a row that begins with `path` is a header, and its fields are called path, weight and value, or the first of these
abbrev pub IsHeader : List (List ℕ) → Type 0
IsHeader fields = field_of fields 0 ≡ codes "path"

abbrev pub IsWellNamed : List (List ℕ) → Type 0
IsWellNamed fields = (place : ℕ) → place < length fields
    → slice_get (codes "path" ∷ codes "weight" ∷ codes "value" ∷ []) place ≡ Some (field_of fields place)

-- rows below a header, or all rows where the first is none
abbrev pub AreBelow : List (List (List ℕ)) → List (List (List ℕ)) → Type 0
AreBelow rows below = ((header : List (List ℕ)) × (rows ≡ header ∷ below) × IsHeader header × IsWellNamed header)
    ⊎ ((below ≡ rows) × ((first : List (List ℕ)) → slice_get rows 0 ≡ Some first → ¬ IsHeader first))

-- the rows are refused for their header
abbrev pub IsHeaderRefused : List (List (List ℕ)) → LineFault → Type 0
IsHeaderRefused rows fault = (header : List (List ℕ)) × (slice_get rows 0 ≡ Some header) × IsHeader header
    × ¬ IsWellNamed header × (fault.reason ≡ BadHeader) × (string_bytes fault.about ≡ [])

-- a text has a header that is well named, if one, and its other rows break no rule
abbrev pub IsTextFaultless : List ℕ → Type 0
IsTextFaultless text = (rows : List (List (List ℕ))) × AreRowsOf text rows × (below : List (List (List ℕ)))
    × AreBelow rows below × AreFaultless below

-- or it is refused for its header, or for a row below
abbrev pub IsTextRefused : List ℕ → TableFault → Type 0
IsTextRefused text fault.Memory = ⊤
IsTextRefused text (fault.Line fault) = (rows : List (List (List ℕ))) × AreRowsOf text rows
    × (IsHeaderRefused rows fault ⊎ ((below : List (List (List ℕ))) × AreBelow rows below × IsRowRefused below fault))
IsTextRefused text fault.Empty = ⊥
IsTextRefused text fault.Unlike = ⊥

-- ---- lines that aren't a tree's

-- a line has the path
abbrev pub HasPath : List Line → List ℕ → Type 0
HasPath lines path = (place : ℕ) × (line : Line) × (slice_get lines place ≡ Some line) × (string_bytes line.path ≡ path)

-- a slash stands at the place
abbrev pub is_slash_at : List ℕ → ℕ → Bool
is_slash_at path place = slice_index path place == 47

-- the path of a parent: what stands before the last slash, or the root's where that is nothing
abbrev pub parent_path : List ℕ → List ℕ
parent_path path = or_slash (take (pred (last_below (length path) (is_slash_at path))) path)

-- the path of a node above, or of the node, ends before the place: the root's is the first slash
abbrev pub ends_path : List ℕ → ℕ → Bool
ends_path path place = nat_lt 0 place && ((place == 1) || ((place == length path) || is_slash_at path place))

-- the paths of the nodes above the node of a path, from the root down, and its own
abbrev pub paths_to : List ℕ → List (List ℕ)
paths_to path = map (λ place. take place path) (passing_below (suc (length path)) (ends_path path))

-- paths with one more, unless it is among them
abbrev pub with_path : List (List ℕ) → List ℕ → List (List ℕ)
with_path paths path = if list_any (λ other. bytes_eq other path) paths then paths else paths ++ path ∷ []

-- the paths of the nodes that lines need, in the order in which lines mention them
abbrev pub needed : List Line → List (List ℕ)
needed lines = fold with_path [] (flat_map (λ line. paths_to (string_bytes line.path)) lines)

-- the line has the path of an earlier one
abbrev pub IsRepeated : List Line → ℕ → Type 0
IsRepeated lines place =
    (line : Line) × (slice_get lines place ≡ Some line) × HasPath (take place lines) (string_bytes line.path)

-- with the line more nodes are needed than a tree has
abbrev pub IsBeyond : List Line → ℕ → Type 0
IsBeyond lines place = 4096 < length (needed (take (suc place) lines))

abbrev pub IsSpare : List Line → ℕ → Type 0
IsSpare lines place = IsRepeated lines place ⊎ IsBeyond lines place

-- no line has the path of the line's parent
abbrev pub IsOrphan : List Line → ℕ → Type 0
IsOrphan lines place = (line : Line) × (slice_get lines place ≡ Some line)
    × ¬ HasPath lines (parent_path (string_bytes line.path))

-- the line at a place is refused for this, and this is what the fault is about
abbrev pub IsLineRefused : Absent → List Line → ℕ → Reason → List ℕ → List ℕ → Type 0
IsLineRefused absent lines place TwiceNamed path about =
    IsRepeated lines place × IsFirst (IsSpare lines) place × (about ≡ path)
IsLineRefused absent lines place TooMany path about =
    IsBeyond lines place × IsFirst (IsSpare lines) place × (about ≡ path)
IsLineRefused absent lines place NoParent path about =
    (absent ≡ Refused) × IsFirst (IsOrphan lines) place × (about ≡ parent_path path)
    × ((other : ℕ) → other < length lines → ¬ IsSpare lines other)
IsLineRefused absent lines place _ path about = ⊥

-- lines are refused for having none, or for the first that is spare, or else for the first that is an orphan
abbrev pub AreLinesRefused : Absent → List Line → TableFault → Type 0
AreLinesRefused absent lines fault.Empty = lines ≡ []
AreLinesRefused absent lines (fault.Line fault) = (place : ℕ) × (line : Line) × (slice_get lines place ≡ Some line)
    × (fault.number ≡ line.number)
    × IsLineRefused absent lines place fault.reason (string_bytes line.path) (string_bytes fault.about)
AreLinesRefused absent lines fault.Unlike = ⊤
AreLinesRefused absent lines fault.Memory = ⊤
