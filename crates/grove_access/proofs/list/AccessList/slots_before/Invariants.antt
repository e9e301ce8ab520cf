use Rattle.std.proofs.Common.{◌≡◌}
use Rattle.grove_access.specs.Lists.{lengths_of}
use Rattle.grove_access.specs.Slots.{slots_before}
use Rattle.grove_access.proofs.list.AccessList.slots_before.Given as goal

abbrev pub invariant-loop-earlier : goal.invariant-loop-earlier
invariant-loop-earlier l = l.slots ≡ slots_before (lengths_of l.self) l.earlier
