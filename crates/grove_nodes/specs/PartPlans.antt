-- For the proofs alone: how plans over a part get the numbers of the whole tree, and why there is none.
use Rattle.std.specs.Prelude.{ℕ, List, slice_get, option_map, unwrap_or}
use Rattle.grove_tree.specs.Rules.{AreTreeRows}
use Rattle.grove_tree.specs.Trees.{Rows}
use Rattle.grove_tree.specs.declared.fault.TreeFault.{TreeFault}
use Rattle.grove_tree.specs.declared.fault.TreeFault.TheVariants as tree
use Rattle.grove_access.specs.declared.fault.ListFault.{ListFault}
use Rattle.grove_access.specs.declared.fault.ListFault.TheVariants as list
use Rattle.grove_nodes.specs.declared.part.PartNode.{PartNode}
use Rattle.grove_nodes.specs.declared.part_planning.PartFault.{PartFault}
use Rattle.grove_nodes.specs.declared.part_planning.PartFault.TheVariants.{Refused, Memory}
use Rattle.grove_nodes.specs.Parts.{HaveShapeOf, IsNoTask}
use Rattle.grove_nodes.specs.Planning.{place_of}

-- the number that a node of the part has in the whole tree
abbrev pub number_in : List PartNode → ℕ → ℕ
number_in part place = unwrap_or (option_map (λ node. node.number) (slice_get part place)) place

-- there is no task over the part, or a growth was refused
abbrev pub IsNoPart : List PartNode → List ℕ → List ℕ → PartFault → Type 0
IsNoPart part places lengths (Refused place) = IsNoTask part places lengths place
IsNoPart part places lengths Memory = Unit {0}

abbrev pub IsNoTree : List PartNode → PartFault → Type 0
IsNoTree part (Refused place) = (rows : Rows) → HaveShapeOf part rows → ¬ AreTreeRows rows
IsNoTree part Memory = Unit {0}

abbrev pub list_fault : ListFault → PartFault
list_fault list.Memory = Memory
list_fault fault = Refused (place_of fault)

abbrev pub tree_fault : TreeFault → PartFault
tree_fault tree.Empty = Refused 0
tree_fault tree.TooMany = Refused 4096
tree_fault (tree.BadParent row) = Refused row
tree_fault (tree.TooDeep row) = Refused row
tree_fault (tree.BadName row) = Refused row
tree_fault (tree.TwiceNamed row) = Refused row
tree_fault (tree.BadWeight row) = Refused row
tree_fault tree.Memory = Memory
