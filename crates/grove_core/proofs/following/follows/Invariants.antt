use Rattle.std.proofs.Common.{◌≡◌, ℕ, ◌+◌, ◌<◌, Some}
use Rattle.std.specs.List.{slice_get}
use Rattle.grove_access.specs.declared.entry.Entry.{Entry}
use Rattle.grove_core.specs.CarriedTests.{IsNext}
use Rattle.grove_core.proofs.following.follows.Given as goal

abbrev pub invariant-loop-ahead : goal.invariant-loop-ahead
invariant-loop-ahead l = (i : ℕ) (e : Entry) → i < l.ahead → slice_get l.entries i ≡ Some e → IsNext l.job.list l.job.plan (l.position + i) e
