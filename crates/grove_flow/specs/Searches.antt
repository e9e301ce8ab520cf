-- For the proofs alone (of `solve`): what a search keeps.
use Rattle.std.specs.Prelude.{◌≡◌, ℕ, List, length, slice_index, ℤ}
use Rattle.grove_flow.specs.declared.network.Network.{Network}
use Rattle.grove_flow.specs.declared.search.Search.{Search}
use Rattle.grove_flow.specs.declared.state.State.{State}
use Rattle.grove_flow.specs.declared.tree.Tree.{Tree}
use Rattle.grove_flow.specs.Fans.{AreFans}
use Rattle.grove_flow.specs.Queues.{AreQueued, NamesArcsAlone}
use Rattle.grove_flow.specs.Reaches.{IsGrown}
use Rattle.grove_flow.specs.Trees.{AreRaisedTo, IsStateOf, IsTreeOf}

-- before a search and after it
pub record IsReady (network : Network) (search : Search) : Type 0 where
  pub tree : IsTreeOf (length network.needs.items) search.tree
  pub fans : AreFans network search.fans

-- In a search: it was a search that raises at once, had the places been raised. The last variable is the farthest.
pub record IsGrowing (network : Network) (state : State) (tree : Tree) (source count last : ℕ) : Type 0 where
  pub tree_of : IsTreeOf (length network.needs.items) tree
  pub raised : List ℤ
  pub raised_to : AreRaisedTo (slice_index tree.entries.items last) tree.ranks.items tree.entries.items
      state.places.items raised
  pub grown : IsGrown network.needs.items network.arcs.items state.amounts.items raised state.excess.items
      state.unmet.items tree.ranks.items tree.vias.items tree.rooms.items source count last
  pub first : slice_index tree.entries.items source ≡ 0

pub record IsSearched (network : Network) (state : State) (search : Search) (source count last : ℕ) : Type 0 where
  pub state_of : IsStateOf network state
  pub fans : AreFans network search.fans
  pub growing : IsGrowing network state search.tree source count last
  pub queued : AreQueued network state search.tree search.queue
  pub within : NamesArcsAlone network search.queue
