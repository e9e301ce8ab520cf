use Rattle.std.proofs.Common.{◌≡◌}
use Rattle.grove_access.specs.Lists.{nodes_of, lengths_of}
use Rattle.grove_access.specs.Slots.{slots_before}
use Rattle.grove_span.specs.Ways.{HaveSlots, TellsOf}
use Rattle.grove_span.proofs.visit.visits_of.Given as goal

abbrev pub invariant-loop-number : goal.invariant-loop-number
invariant-loop-number l = record {
  tells : TellsOf (nodes_of l.list) l.number l.node l.visits;
  slots : HaveSlots (lengths_of l.list) l.visits;
  before : l.before ≡ slots_before (lengths_of l.list) l.number;
}
