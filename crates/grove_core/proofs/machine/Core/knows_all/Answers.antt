use Rattle.std.proofs.Common.{ℕ, refl}
use Rattle.grove_access.specs.declared.known.Known.{Known}
use Rattle.grove_core.specs.CarriedTests.{Knows}
use Rattle.grove_core.proofs.CarriedEntries.{each_of}
use Rattle.grove_core.proofs.machine.Core.knows_all.Goals as goal

pub returns : goal.returns
returns c = (λ _. each_of (λ (i : ℕ) (k : Known). Knows c.args.self.now c.args.txn k) c.args.known.now c.loop-item.item-index c.loop-item-test.false c.loop-item.invariant, λ _. refl)
