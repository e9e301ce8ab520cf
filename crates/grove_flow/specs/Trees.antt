-- For the proofs alone: the tree of what a search has reached, and the arcs that lead on from it. The places stand
-- still while the search runs. It serves the proof of `solve` alone.
use Rattle.std.specs.Prelude.{◌≡◌, ℕ, ◌<◌, ◌≤◌, ◌⊎◌, List, length, slice_index, ℤ, pos, ◌+ℤ◌}
use Rattle.grove_flow.specs.declared.network.Arc.{Arc}
use Rattle.grove_flow.specs.declared.network.Network.{Network}
use Rattle.grove_flow.specs.declared.state.State.{State}
use Rattle.grove_flow.specs.declared.tree.Tree.{Tree}
use Rattle.grove_flow.specs.Networks.{arc_at, place}
use Rattle.grove_flow.specs.States.{IsState}

abbrev pub IsStateOf : Network → State → Type 0
IsStateOf network state = IsState network.needs.items network.arcs.items state.amounts.items state.places.items
    state.excess.items state.unmet.items

-- tables for n variables
pub record IsTreeOf (n : ℕ) (tree : Tree) : Type 0 where
  pub ranks : length tree.ranks.items ≡ n
  pub vias : length tree.vias.items ≡ n
  pub rooms : length tree.rooms.items ≡ n
  pub entries : length tree.entries.items ≡ n

-- distances that cannot overflow
abbrev pub AreEarly : Tree → Type 0
AreEarly tree = (v : ℕ) → 0 < slice_index tree.ranks.items v → slice_index tree.entries.items v ≤ 36028797018963968

-- a tree of a search over this state, where each arc's key can be found
pub record IsSearchTree (network : Network) (state : State) (tree : Tree) : Type 0 where
  pub state_of : IsStateOf network state
  pub tree_of : IsTreeOf (length network.needs.items) tree
  pub early : AreEarly tree

-- an arc leads on, and its key is the distance of its end
pub record IsKeyOn (arc : Arc) (places : List ℤ) (ranks entries : List ℕ) (key : ℕ) : Type 0 where
  pub leaves : 0 < slice_index ranks arc.from
  pub arrives : slice_index ranks arc.to ≡ 0
  pub key_is : place places arc.from +ℤ arc.least +ℤ pos key ≡ place places arc.to +ℤ pos (slice_index entries arc.from)

-- an arc with an amount leads on to where it begins
pub record IsKeyBack (arc : Arc) (amount : ℕ) (ranks entries : List ℕ) (key : ℕ) : Type 0 where
  pub leaves : 0 < slice_index ranks arc.to
  pub arrives : slice_index ranks arc.from ≡ 0
  pub some : 0 < amount
  pub key_is : key ≡ slice_index entries arc.to

abbrev pub IsKey : Arc → ℕ → List ℤ → List ℕ → List ℕ → ℕ → Type 0
IsKey arc amount places ranks entries key = IsKeyOn arc places ranks entries key
    ⊎ IsKeyBack arc amount ranks entries key

-- the i-th arc leads on, at a key
pub record IsLive (network : Network) (state : State) (tree : Tree) (i key : ℕ) : Type 0 where
  pub within : i < length network.arcs.items
  pub is : IsKey (arc_at network.arcs.items i) (slice_index state.amounts.items i) state.places.items tree.ranks.items
      tree.entries.items key

-- The places that a search which raises at once would have, when it has gone so far: what was reached earlier is raised
-- by more.
pub record AreRaisedTo (distance : ℕ) (ranks entries : List ℕ) (places raised : List ℤ) : Type 0 where
  pub size : length raised ≡ length places
  pub entered : (v : ℕ) → 0 < slice_index ranks v → slice_index entries v ≤ distance
  pub moved : (v : ℕ) → 0 < slice_index ranks v → place raised v +ℤ pos (slice_index entries v)
      ≡ place places v +ℤ pos distance
  pub still : (v : ℕ) → slice_index ranks v ≡ 0 → place raised v ≡ place places v
