-- For the proofs alone: what is asked for fits the tree, what a line says never is out of memory, and of the tree it goes
-- by the names alone.
use Rattle.std.specs.Prelude.{◌≡◌, ◌≢◌, ℕ, ◌≤◌, length, List, Ok, Err}
use Rattle.std.specs.List.{All}
use Rattle.grove_tree.specs.Trees.{Rows}
use Rattle.grove_tree.specs.Weights.{unweighed}
use Rattle.grove_access.specs.ListFaults.{AreListed}
use Rattle.grove_wire.specs.declared.fault.WireFault.TheVariants.{Memory}
use Rattle.grove_wire.specs.Requests.{Asked, Plan, Check, Batch, request_of}
use Rattle.grove_wire.specs.Writing.{PlanFits, FlowFits}

-- what is asked for is within its limits, and its nodes are nodes of the tree
abbrev pub AskedFits : Rows → Asked → Type 0
AskedFits rows (Plan list) = AreListed rows list
AskedFits rows (Check list plan flow) = AreListed rows list × PlanFits rows plan × FlowFits rows flow
AskedFits rows (Batch lists) = (length lists ≤ 256) × All (AreListed rows) lists
AskedFits rows _ = Unit {0}

abbrev pub RequestsFit : Type 0
RequestsFit = (rows : Rows) (line : List ℕ) (asked : Asked) → request_of rows line ≡ Ok asked → AskedFits rows asked

abbrev pub ReadingNeedsNoRoom : Type 0
ReadingNeedsNoRoom = (rows : Rows) (line : List ℕ) → request_of rows line ≢ Err Memory

-- what a line asks for depends on the names of the tree's nodes, and not on their weights
abbrev pub ReadingGoesByNames : Type 0
ReadingGoesByNames = (rows others : Rows) (line : List ℕ) → unweighed rows ≡ unweighed others
    → request_of rows line ≡ request_of others line
