use Rattle.std.proofs.Common.{◌≡◌, ◌++◌, length, take}
use Rattle.std.specs.List.{flat_map}
use Rattle.grove_effects.specs.Effects.{half}
use Rattle.grove_effects.specs.Snapshots.{names_of, named_bytes}
use Rattle.grove_effects.proofs.snapshot.push_names.Given as goal

abbrev pub invariant-loop-node : goal.invariant-loop-node
invariant-loop-node l = l.out.items
    ≡ l.fn.out.items ++ half (length l.names) ++ flat_map named_bytes (names_of (take l.node-index l.names))
