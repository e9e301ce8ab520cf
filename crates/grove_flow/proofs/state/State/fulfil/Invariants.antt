use Rattle.std.proofs.Common.{◌≡◌, ◌<◌, ℕ, slice_index}
use Rattle.grove_flow.specs.Trees.{IsStateOf}
use Rattle.grove_flow.specs.Searches.{IsReady}
use Rattle.grove_flow.proofs.state.State.fulfil.Given as goal

abbrev pub invariant-loop-source : goal.invariant-loop-source
invariant-loop-source l = record {
  state : IsStateOf l.network l.self;
  ready : IsReady l.network l.search;
  given : (v : ℕ) → v < l.source → slice_index l.self.excess.items v ≡ 0;
}
