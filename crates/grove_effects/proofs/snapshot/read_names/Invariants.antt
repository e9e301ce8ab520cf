use Rattle.std.proofs.Common.{◌≡◌, ◌≤◌, ◌-◌, ◌++◌, length, All}
use Rattle.std.specs.List.{flat_map}
use Rattle.grove_effects.specs.Snapshots.{IsNamed, names_of, named_bytes}
use Rattle.grove_effects.proofs.snapshot.read_names.Given as goal

abbrev pub invariant-loop-alloc : goal.invariant-loop-alloc
invariant-loop-alloc l = (length l.names.items ≤ l.count) × All IsNamed (names_of l.names.items)
    × (l.bytes ≡ flat_map named_bytes (names_of l.names.items) ++ l.rest)

abbrev pub decreases-loop-alloc : goal.decreases-loop-alloc
decreases-loop-alloc l = l.count - length l.names.items
