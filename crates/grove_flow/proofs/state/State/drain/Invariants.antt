use Rattle.std.proofs.Common.{◌≡◌, ◌≢◌, ℕ, slice_index}
use Rattle.grove_flow.specs.Trees.{IsStateOf}
use Rattle.grove_flow.specs.Searches.{IsReady}
use Rattle.grove_flow.proofs.state.State.drain.Given as goal

abbrev pub invariant-loop-self : goal.invariant-loop-self
invariant-loop-self l = record {
  state : IsStateOf l.network l.self;
  ready : IsReady l.network l.search;
  others : (v : ℕ) → v ≢ l.source → slice_index l.self.excess.items v ≡ slice_index l.initial.self.excess.items v;
}

abbrev pub decreases-loop-self : goal.decreases-loop-self
decreases-loop-self l = slice_index l.self.excess.items l.source
