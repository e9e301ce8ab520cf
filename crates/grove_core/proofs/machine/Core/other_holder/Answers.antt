use Rattle.std.proofs.Common.{Some, None, sym, ◌∙◌, arith}
use Rattle.grove_core.proofs.CoreReads.{seen, owner_there, holder_seen}
use Rattle.grove_core.proofs.CoreSteps.{locked_within}
use Rattle.grove_core.proofs.machine.Core.other_holder.Goals as goal

pub index-requires : goal.index-requires
index-requires c =
    let core = seen c.self.view_is c.self.invariant in
    omega (arith, owner_there core c.args.node (locked_within core c.args.txn c.args.node c.requires))

pub returns-in-Some : goal.returns-in-Some
returns-in-Some c =
    let core = seen c.self.view_is c.self.invariant in
    let owns = holder_seen core c.args.node c.number.result (locked_within core c.args.txn c.args.node c.requires) c.number.ensures.is_it c.index.result.now c.index.ensures (Some c.in-Some.holder) (sym c.holder.ensures ∙ c.in-Some.is) in
    (c.if-holder-txn.true, owns.0)

pub returns-in_default : goal.returns-in_default
returns-in_default c =
    let core = seen c.self.view_is c.self.invariant in
    let owns = holder_seen core c.args.node c.number.result (locked_within core c.args.txn c.args.node c.requires) c.number.ensures.is_it c.index.result.now c.index.ensures (Some c.in-Some.holder) (sym c.holder.ensures ∙ c.in-Some.is) in
    λ u ne. owns.1 u (λ e. ne (e ∙ c.if-holder-txn.false))

pub returns-in_default-2 : goal.returns-in_default-2
returns-in_default-2 c =
    let core = seen c.self.view_is c.self.invariant in
    let owns = holder_seen core c.args.node c.number.result (locked_within core c.args.txn c.args.node c.requires) c.number.ensures.is_it c.index.result.now c.index.ensures None (sym c.holder.ensures ∙ c.in_default.is) in
    λ u ne. owns u
