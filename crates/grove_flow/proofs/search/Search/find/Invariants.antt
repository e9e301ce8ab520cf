use Rattle.std.proofs.Common.{◌-◌, length}
use Rattle.grove_flow.specs.Searches.{IsSearched}
use Rattle.grove_flow.proofs.search.Search.find.Given as goal

abbrev pub invariant-loop-self : goal.invariant-loop-self
invariant-loop-self l = IsSearched l.network l.state l.self l.source l.count l.last

abbrev pub decreases-loop-self : goal.decreases-loop-self
decreases-loop-self l = length l.state.places.items - l.count
