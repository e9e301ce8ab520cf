use Rattle.std.proofs.Common.{◌≡◌, ℕ, ◌<◌}
use Rattle.grove_access.specs.Effects.{record_at}
use Rattle.grove_store.proofs.same.same_records.Given as goal

abbrev pub invariant-loop-number : goal.invariant-loop-number
invariant-loop-number l = (node : ℕ) → node < l.number → record_at l.records node ≡ record_at l.others node
