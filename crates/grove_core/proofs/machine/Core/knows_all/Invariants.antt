use Rattle.std.proofs.Common.{◌≡◌, ℕ, ◌<◌, Some}
use Rattle.std.specs.List.{slice_get}
use Rattle.grove_access.specs.declared.known.Known.{Known}
use Rattle.grove_core.specs.CarriedTests.{Knows}
use Rattle.grove_core.proofs.machine.Core.knows_all.Given as goal

abbrev pub invariant-loop-item : goal.invariant-loop-item
invariant-loop-item l = (i : ℕ) (k : Known) → i < l.item-index → slice_get l.known i ≡ Some k → Knows l.self l.txn k
