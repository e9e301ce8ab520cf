-- A receipt that is refused is one of the desk, of another line or not after the one that was seen.
use Rattle.std.proofs.Common.{rules}
use Rattle.std.specs.Option.{option_copied}
use Rattle.grove_desk.specs.Histories.{IsDeskReceipt}
use Rattle.grove_desk.specs.Receipts.{IsForeignReceipt}
use Rattle.grove_desk.proofs.desk.Desk.checked.Goals as goal
use Rattle.grove_desk.proofs.desk.Desk.checked.Goals.{else-is_of-via-then-is_of+else-follows, else-is_of-via-else-is_of}

pub returns-else-is_of-clause-foreign : goal.returns-else-is_of-clause-foreign
returns-else-is_of-clause-foreign g c =
    let is : IsDeskReceipt g.K.Keeper.stands_for c.args.self.now.opening c.args.self.now.kept c.args.receipt =
    search rules in
    let foreign : IsForeignReceipt c.args.self.now.kept c.args.line.now (option_copied c.args.seen) c.args.receipt =
    elim c.else-is_of.branch [
      | else-is_of-via-then-is_of+else-follows w ↦ search rules
      | else-is_of-via-else-is_of w ↦ search rules
    ] in
    λ same. (c.args.receipt, is, foreign)
