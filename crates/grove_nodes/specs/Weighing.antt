-- What calls that find a node, or weigh all of them anew, leave.
use Rattle.std.specs.Prelude.{◌≡◌, ◌≢◌, ℕ, ◌<◌, ◌==◌, not, List, length, map, Some, None}
use Rattle.grove_base.specs.Numbers.{count_below}
use Rattle.grove_tree.specs.Paths.{node_at}
use Rattle.grove_tree.specs.Trees.{Rows, weight_of}
use Rattle.grove_meter.specs.Waits.{reweighed}
use Rattle.grove_nodes.specs.declared.status.Status.{Status}
use Rattle.grove_nodes.specs.declared.status.Status.TheVariants as status
use Rattle.grove_nodes.specs.Numbered.{Begins}

-- the number of the path's node is told, or no node has the path
abbrev pub FindsNode : Rows → List ℕ → ℕ → ℕ → Status → Type 0
FindsNode rows path before after status.Done = node_at rows path ≡ Some after
FindsNode rows path before after status.Refused = (node_at rows path ≡ None) × (after ≡ before)
FindsNode rows path before after _ = ⊥

abbrev pub weights_in : Rows → List ℕ
weights_in rows = map (λ row. row.weight) rows

-- a caller's buffer for weights, and its count of weights, before a call and after it
pub record WeightBuffer : Type 0 where
  pub before : List ℕ
  pub after : List ℕ
  pub count_before : ℕ
  pub count_after : ℕ

-- each node has its new weight by its waits, and all are told if there is any room for them
pub record IsReweighed (waits : List ℕ) (old new : Rows) (buffer : WeightBuffer) : Type 0 where
  pub weights : new ≡ reweighed waits old
  pub changed : buffer.count_after
      ≡ count_below (length old) (λ node. not (weight_of new node == weight_of old node))
  pub told : 0 < length buffer.before → Begins (weights_in new) buffer.before buffer.after

abbrev pub Reweighs : List ℕ → Rows → Rows → WeightBuffer → Status → Type 0
Reweighs waits old new buffer status.Done = IsReweighed waits old new buffer
Reweighs waits old new buffer status.Refused = (length waits ≢ length old) × (new ≡ old)
    × (buffer.after ≡ buffer.before) × (buffer.count_after ≡ buffer.count_before)
Reweighs waits old new buffer status.Room = (0 < length buffer.before) × (length buffer.before < length old)
    × (new ≡ old) × (buffer.after ≡ buffer.before) × (buffer.count_after ≡ length old)
Reweighs waits old new buffer _ = ⊥
