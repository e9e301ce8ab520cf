use Rattle.std.proofs.Common.{◌≡◌, take}
use Rattle.grove_access.specs.Lists.{nodes_of, lengths_of}
use Rattle.grove_nodes.proofs.listing.reads_of.Given as goal

abbrev pub invariant-loop-place : goal.invariant-loop-place
invariant-loop-place l = record {
  nodes : nodes_of l.reads.items ≡ take l.place l.nodes;
  lengths : lengths_of l.reads.items ≡ take l.place l.lengths;
}
