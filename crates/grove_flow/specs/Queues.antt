-- For the proofs alone (of `solve`): what stands in a queue.
use Rattle.std.specs.Prelude.{◌≢◌, ℕ, ◌<◌, map, length}
use Rattle.std.specs.BinaryHeap.{heap_items, heap_len}
use Rattle.std.specs.List.{Contains}
use Rattle.grove_flow.specs.declared.network.Network.{Network}
use Rattle.grove_flow.specs.declared.queue.Queue.{Queue}
use Rattle.grove_flow.specs.declared.state.State.{State}
use Rattle.grove_flow.specs.declared.tree.Tree.{Tree}
use Rattle.grove_flow.specs.Networks.{arc_at}
use Rattle.grove_flow.specs.Trees.{IsLive}

-- an arc stands in the queue with a key
abbrev pub HasEntry : Queue → ℕ → ℕ → Type 0
HasEntry queue key arc = Contains (map (λ e. e.0) (heap_items queue.heap)) (key, arc)

abbrev pub entries_of : Queue → ℕ
entries_of queue = heap_len queue.heap

-- the queue names arcs alone
abbrev pub NamesArcsAlone : Network → Queue → Type 0
NamesArcsAlone network queue = (key i : ℕ) → HasEntry queue key i → i < length network.arcs.items

-- each arc that leads on stands in the queue
abbrev pub AreQueued : Network → State → Tree → Queue → Type 0
AreQueued network state tree queue = (i key : ℕ) → IsLive network state tree i key → HasEntry queue key i

-- each that leads on past a variable
abbrev pub AreQueuedPast : ℕ → Network → State → Tree → Queue → Type 0
AreQueuedPast v network state tree queue =
    (i key : ℕ) → IsLive network state tree i key → (arc_at network.arcs.items i).from ≢ v
    → (arc_at network.arcs.items i).to ≢ v → HasEntry queue key i
