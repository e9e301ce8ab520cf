-- The forced nodes so far.
use Rattle.std.proofs.Common.{◌≡◌}
use Rattle.grove_base.specs.Numbers.{passing_below}
use Rattle.grove_access.specs.Lists.{nodes_of}
use Rattle.grove_access.specs.Forced.{is_forced}
use Rattle.grove_proof.proofs.span.forced_nodes.Given as goal

abbrev pub invariant-loop-number : goal.invariant-loop-number
invariant-loop-number l = l.span.items ≡ passing_below l.number (is_forced l.tree (nodes_of l.list))
