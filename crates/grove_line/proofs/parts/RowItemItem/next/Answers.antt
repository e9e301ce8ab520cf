use Rattle.std.proofs.Common.{sym, ◌∙◌}
use Rattle.grove_wire.proofs.FlatValues.{row_of_members}
use Rattle.grove_line.proofs.ObjectMembers.{no_row}
use Rattle.grove_line.proofs.TokenValues.{starts_weaker}
use Rattle.grove_line.proofs.parts.RowItemItem.next.Goals as goal

pub returns-in-Some-clause-read : goal.returns-in-Some-clause-read
returns-in-Some-clause-read c = starts_weaker (λ d found. let read = rw c.in-Some.is at found in rw read.1
    ((rw c.read_object.ensures.tree at c.row_on.ensures.read)
    ∙ sym (row_of_members c.args.finder.now c.args.place c.in-Some.members _ read.2)))
    c.in_ok-members.ensures.read

pub returns-in-None-clause-read : goal.returns-in-None-clause-read
returns-in-None-clause-read c = starts_weaker
    (λ d found. no_row c.args.finder.now c.args.place d (rw c.in-None.is at found)) c.in_ok-members.ensures.read
