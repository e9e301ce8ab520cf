-- Lists by the nodes and the lengths of their accesses.
use Rattle.std.specs.Prelude.{◌≡◌, ℕ, ◌<◌, ◌≤◌, ◌⊎◌, List, length, slice_get, Some}
use Rattle.grove_tree.specs.Trees.{Rows}
use Rattle.grove_access.specs.declared.fault.ListFault.{ListFault}
use Rattle.grove_access.specs.declared.fault.ListFault.TheVariants.{TooLong, NoNode, BadLength, Memory}

-- an access stands at the place, by its node or by its length
abbrev pub StandsAt : List ℕ → List ℕ → ℕ → Type 0
StandsAt nodes lengths place = (place < length nodes) ⊎ (place < length lengths)

-- why nodes and lengths are no list over the tree; out of memory is no reason
abbrev pub IsListFault : Rows → List ℕ → List ℕ → ListFault → Type 0
IsListFault rows nodes lengths TooLong = StandsAt nodes lengths 64
IsListFault rows nodes lengths (NoNode place) =
    StandsAt nodes lengths place × ((node : ℕ) → slice_get nodes place ≡ Some node → length rows ≤ node)
IsListFault rows nodes lengths (BadLength place) =
    StandsAt nodes lengths place × ((slots : ℕ) → slice_get lengths place ≡ Some slots → (slots < 1) ⊎ (1000 < slots))
IsListFault rows nodes lengths Memory = Unit {0}
