-- What `/metrics` says.
use Rattle.std.specs.Prelude.{◌≡◌, ℕ, List, [], ◌++◌, codes, flat_map, length, slice_index, Option, None, Some}
use Rattle.std.specs.Borrow.{Bor}
use Rattle.grove_base.specs.Numbers.{numbers_below}
use Rattle.grove_gauge.specs.Counts.{counts_text}
use Rattle.grove_gauge.specs.Expositions.{head_text, labelled_text}
use Rattle.grove_gauge.specs.declared.counts.Counts.{Counts}
use Rattle.grove_gauge.specs.declared.families.Family.{Family}
use Rattle.grove_gauge.specs.declared.families.Family.TheVariants.{NodeWaits, NodeWeight}
use Rattle.grove_store.specs.StoreStates.{StoreState}
use Rattle.grove_tree.specs.Paths.{path_of}
use Rattle.grove_tree.specs.Trees.{Rows, weight_of}

abbrev pub node_text : Family → Rows → ℕ → ℕ → List ℕ
node_text f tree node value = labelled_text f (codes "path") (path_of tree node) value

-- the waits at each node, in preorder
abbrev pub waits_text : Rows → List ℕ → List ℕ
waits_text tree waits = head_text NodeWaits
    ++ flat_map (λ node. node_text NodeWaits tree node (slice_index waits node)) (numbers_below (length tree))

-- the weight of each node
abbrev pub weights_text : Rows → List ℕ
weights_text tree = head_text NodeWeight
    ++ flat_map (λ node. node_text NodeWeight tree node (weight_of tree node)) (numbers_below (length tree))

abbrev pub nodes_text : Rows → List ℕ → List ℕ
nodes_text tree waits = waits_text tree waits ++ weights_text tree

-- what is said of the nodes, if there is a copy of the store
abbrev pub nodes_of : Option (Bor StoreState) → List ℕ
nodes_of None = []
nodes_of (Some store) = nodes_text store.now.rows store.now.waits

-- the text of some counts, and then the nodes
abbrev pub IsMetricsText : Option (Bor StoreState) → List ℕ → Type 0
IsMetricsText store text = (counts : Counts) × (text ≡ counts_text counts ++ nodes_of store)
