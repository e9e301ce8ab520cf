-- What is asked of the rows that a tree is built from, and the first rule that they break.
use Rattle.std.specs.Prelude.{◌≡◌, ℕ, zero, suc, ◌≤◌, ◌<◌, ◌==◌, nat_lt, nat_le, Bool, false, not, ◌&&◌, ◌||◌, List, []}
use Rattle.std.specs.Prelude.{length, Option, Some, None, is_none, bytes_eq, IsTrue, if◌then◌else◌}
use Rattle.std.specs.List.{list_all}
use Rattle.std.specs.Option.{option_or}
use Rattle.grove_base.specs.Numbers.{any_below}
use Rattle.grove_tree.specs.Trees.{Rows, IsTree, parent_of, name_of, weight_of, depth_of, is_at, is_above}
use Rattle.grove_tree.specs.declared.fault.TreeFault.{TreeFault}
use Rattle.grove_tree.specs.declared.fault.TreeFault.TheVariants.{Empty, TooMany, BadParent, TooDeep, BadName}
use Rattle.grove_tree.specs.declared.fault.TreeFault.TheVariants.{TwiceNamed, BadWeight}

-- a letter from a to z, a digit, an underscore or a dash
abbrev pub is_name_byte : ℕ → Bool
is_name_byte byte = (nat_le 97 byte && nat_le byte 122)
    || ((nat_le 48 byte && nat_le byte 57) || ((byte == 95) || (byte == 45)))

-- a name has 1 to 32 such bytes
abbrev pub is_name : List ℕ → Bool
is_name name = nat_lt 0 (length name) && (nat_le (length name) 32 && list_all is_name_byte name)

-- how many rows a tree has at most, how deep they lie and how much they weigh
abbrev pub most_rows : ℕ
most_rows = 4096

abbrev pub deepest : ℕ
deepest = 32

abbrev pub heaviest : ℕ
heaviest = 1000

-- the rules of one row, as tests

-- a parent is told, and is the row before or above that row
abbrev pub is_on_the_way : Rows → ℕ → Option ℕ → Bool
is_on_the_way rows before None = false
is_on_the_way rows before (Some parent) = is_above rows parent before

-- the first row has no parent, and every other row's parent is the row before it or above that row
abbrev pub is_well_placed : Rows → ℕ → Bool
is_well_placed rows zero = is_none (parent_of rows zero)
is_well_placed rows (suc before) = is_on_the_way rows before (parent_of rows (suc before))

-- the root has no name, and every other row has one
abbrev pub is_well_named : Rows → ℕ → Bool
is_well_named rows zero = bytes_eq (name_of rows zero) []
is_well_named rows (suc before) = is_name (name_of rows (suc before))

-- two parents are told, and are the same
abbrev pub share_parent : Option ℕ → Option ℕ → Bool
share_parent None other = false
share_parent (Some parent) other = is_at parent other

-- another row has the same parent and the same name
abbrev pub is_twin : Rows → ℕ → ℕ → Bool
is_twin rows row other = share_parent (parent_of rows row) (parent_of rows other)
    && bytes_eq (name_of rows other) (name_of rows row)

abbrev pub is_weight : ℕ → Bool
is_weight weight = nat_le 1 weight && nat_le weight heaviest

-- the first rule that a row breaks
abbrev pub row_fault : Rows → ℕ → Option TreeFault
row_fault rows row =
    if not (is_well_placed rows row) then Some (BadParent row)
    else if nat_lt deepest (depth_of rows row) then Some (TooDeep row)
    else if not (is_well_named rows row) then Some (BadName row)
    else if any_below row (is_twin rows row) then Some (TwiceNamed row)
    else if not (is_weight (weight_of rows row)) then Some (BadWeight row)
    else None

-- the first fault among the first n rows
abbrev pub rows_fault : Rows → ℕ → Option TreeFault
rows_fault rows zero = None
rows_fault rows (suc n) = option_or (rows_fault rows n) (row_fault rows n)

-- the first fault of rows, out of memory aside
abbrev pub tree_fault_of : Rows → Option TreeFault
tree_fault_of rows =
    if length rows == 0 then Some Empty
    else if nat_lt most_rows (length rows) then Some TooMany
    else rows_fault rows (length rows)

-- the limits of a tree's rows
pub record IsWithinLimits (rows : Rows) : Type 0 where
  pub few : length rows ≤ most_rows
  pub shallow : (node : ℕ) → depth_of rows node ≤ deepest
  pub unnamed_root : name_of rows 0 ≡ []
  pub names : (node : ℕ) → suc node < length rows → IsTrue (is_name (name_of rows (suc node)))
  pub differ : (first second parent : ℕ) → parent_of rows first ≡ Some parent → parent_of rows second ≡ Some parent
      → name_of rows first ≡ name_of rows second → first ≡ second
  pub weighty : (node : ℕ) → node < length rows → 1 ≤ weight_of rows node
  pub light : (node : ℕ) → weight_of rows node ≤ heaviest

-- rows that a tree can be built from
abbrev pub AreTreeRows : Rows → Type 0
AreTreeRows rows = IsTree rows × IsWithinLimits rows
