use Rattle.std.proofs.Common.{◌≡◌, ◌≤◌, ℕ, suc, length, slice_index}
use Rattle.grove_access.specs.Lists.{lengths_of}
use Rattle.grove_access.specs.Slots.{slots_before}
use Rattle.grove_build.proofs.places.slots_of.Given as goal

abbrev pub invariant-loop-access : goal.invariant-loop-access
invariant-loop-access l = record {
  size : length l.slots.items ≡ suc l.access;
  each : (gap : ℕ) → gap ≤ l.access → slice_index l.slots.items gap ≡ slots_before (lengths_of l.list) gap;
  before : l.before ≡ slots_before (lengths_of l.list) l.access;
}
