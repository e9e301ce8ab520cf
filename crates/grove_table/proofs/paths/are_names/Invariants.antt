use Rattle.std.proofs.Common.{◌≡◌, ◌≤◌, drop}
use Rattle.grove_table.specs.PathScans.{are_names_after}
use Rattle.grove_table.proofs.paths.are_names.Given as goal

abbrev pub invariant-loop-byte : goal.invariant-loop-byte
invariant-loop-byte l = record {
  few : l.length ≤ 32;
  rest : are_names_after l.length (drop l.byte-index l.bytes) ≡ are_names_after 0 l.bytes;
}
