use Rattle.std.proofs.Common.{◌≡◌, drop}
use Rattle.grove_tree.specs.PathRests.{mark_from, mark_of}
use Rattle.grove_tree.proofs.marks.mark_of.Given as goal

abbrev pub invariant-loop-byte : goal.invariant-loop-byte
invariant-loop-byte l = mark_from l.mark (drop l.byte-index l.bytes) ≡ mark_of l.bytes
