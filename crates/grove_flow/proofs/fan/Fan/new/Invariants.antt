use Rattle.std.proofs.Common.{length}
use Rattle.grove_flow.specs.Fans.{AreLinked}
use Rattle.grove_flow.proofs.fan.Fan.new.Given as goal

abbrev pub invariant-loop-i : goal.invariant-loop-i
invariant-loop-i l = AreLinked l.i l.end l.network.arcs.items (length l.network.needs.items) l.last.items l.before.items
