-- Lists of accesses, seen by their nodes and their lengths.
use Rattle.std.specs.Prelude.{◌≡◌, ℕ, ◌<◌, Bool, nat_le, ◌&&◌, List, length, slice_get, Some, map}
use Rattle.grove_tree.specs.Trees.{Rows}
use Rattle.grove_access.specs.declared.access.Access.{Access}

-- the nodes that the accesses name, in order
abbrev pub nodes_of : List Access → List ℕ
nodes_of accesses = map (λ access. access.node) accesses

-- how many slots each of them takes
abbrev pub lengths_of : List Access → List ℕ
lengths_of accesses = map (λ access. access.length) accesses

-- each node of the list is below a number
abbrev pub AreBelow : ℕ → List ℕ → Type 0
AreBelow n nodes = (access node : ℕ) → slice_get nodes access ≡ Some node → node < n

-- each node of the list is a node of the tree
abbrev pub AreNodes : Rows → List ℕ → Type 0
AreNodes rows nodes = AreBelow (length rows) nodes

abbrev pub longest : ℕ
longest = 1000

-- an access may take from 1 to 1000 slots
abbrev pub is_length : ℕ → Bool
is_length slots = nat_le 1 slots && nat_le slots longest
