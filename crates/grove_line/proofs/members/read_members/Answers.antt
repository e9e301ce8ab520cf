use Rattle.std.proofs.Common.{refl, sym, ◌∙◌, arith}
use Rattle.serde_json.specs.Data.{put, no_members}
use Rattle.grove_line.proofs.TokenValues as values
use Rattle.grove_line.proofs.members.read_members.Goals as goal

pub members-init : goal.members-init
members-init g c = record {
  so_far = no_members;
  members = values.members_begin c.args.depth c.args.reader.now;
  found = c.new-found.ensures c.args.finder.now;
  tree = refl;
}

pub returns-in_err-name-clause-unread : goal.returns-in_err-name-clause-unread
returns-in_err-name-clause-unread g c refused =
    values.members_no_name c.members.invariant.members c.in_err-name.ensures.value

pub returns-in_err-read_member-clause-unread : goal.returns-in_err-read_member-clause-unread
returns-in_err-read_member-clause-unread g c refused =
    values.members_stop c.members.invariant.members c.in-Some.name.now (grind arith)
    (c.read_member.ensures.unread (grind arith))

pub members-smaller : goal.members-smaller
members-smaller g c = grind (arith, values.member_shorter)

pub members-preserved : goal.members-preserved
members-preserved g c =
    let before = c.members.invariant in
    let read = c.in_ok-read_member.ensures.read in
    record {
      so_far = put c.in-Some.name.now read.whole before.so_far;
      members = values.members_turn before.members c.in-Some.name.now (grind arith) read;
      found = rw before.tree at (read.holds before.so_far (rw (sym before.tree) at before.found));
      tree = c.read_member.ensures.tree ∙ before.tree;
    }

pub returns-clause-read : goal.returns-clause-read
returns-clause-read g c =
    let before = c.members.invariant in
    (before.so_far, values.members_over before.members (grind arith), before.found)
