use Rattle.std.proofs.Common.{◌≡◌}
use Rattle.grove_core.specs.Carried.{after_steps}
use Rattle.grove_core.proofs.machine.Core.take_entries.Given as goal

abbrev pub invariant-loop-entry : goal.invariant-loop-entry
invariant-loop-entry l = l.self ≡ after_steps l.initial.self l.carry.txn l.entry-index
