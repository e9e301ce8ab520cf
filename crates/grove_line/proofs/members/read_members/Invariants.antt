use Rattle.std.proofs.Common.{◌≡◌, length}
use Rattle.serde_json.specs.Data.{Members}
use Rattle.grove_line.proofs.TokenValues.{MembersSoFar}
use Rattle.grove_line.proofs.members.read_members.Given as goal

abbrev pub invariant-members : goal.invariant-members
invariant-members g l = record {
  so_far : Members;
  members : MembersSoFar l.depth l.fn.reader l.reader so_far;
  found : g.M.FromMembers.is_read l.fn.finder l.found so_far;
  tree : l.finder ≡ l.fn.finder;
}

abbrev pub decreases-members : goal.decreases-members
decreases-members g l = length l.reader
