use Rattle.std.proofs.Common.{ℕ, Option, sym, ◌∙◌, ap, arith}
use Rattle.grove_core.specs.CarriedTests.{is_owner}
use Rattle.grove_core.proofs.CoreReads.{seen, owner_there, last_seen}
use Rattle.grove_core.proofs.machine.Core.locked_last.Goals as goal

pub index-requires : goal.index-requires
index-requires c = grind (arith, owner_there, seen)

pub returns : goal.returns
returns c = λ yes'.
    last_seen (seen c.self.view_is c.self.invariant) c.args.txn c.args.node c.number.result c.requires c.number.ensures.is_it c.index.result.now c.index.ensures
    (sym (c.is_owner.ensures ∙ ap (λ (o : Option ℕ). is_owner o c.args.txn) c.last.ensures) ∙ yes')
