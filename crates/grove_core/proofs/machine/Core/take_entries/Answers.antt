use Rattle.std.proofs.lemmas.Bool.{both_ways}
use Rattle.std.proofs.Common.{ℕ, List, sym, ◌∙◌, subst, arith}
use Rattle.grove_access.specs.declared.entry.Entry.{Entry}
use Rattle.grove_core.specs.CarriedTests.{Follows}
use Rattle.grove_core.specs.Kept.{past_of}
use Rattle.grove_core.specs.Runs.{list_of, plan_of, steps_done}
use Rattle.grove_core.proofs.CarriedEntries.{entry_next, steps_whole, batch_after, next_after, follows_test}
use Rattle.grove_core.proofs.machine.Core.take_entries.Goals as goal

pub returns-then-not-continues-clause-fits : goal.returns-then-not-continues-clause-fits
returns-then-not-continues-clause-fits c = grind (arith, both_ways, follows_test)

pub access-requires : goal.access-requires
access-requires c =
    entry_next c.args.self.now c.loop-entry.self c.args.carry.now c.txn-txn.result c.loop-entry.entry-index c.entry-item.result c.entries-entry-items.result.now
    (subst (λ (es : List Entry). Follows (list_of c.args.self.now.jobs c.txn-txn.result) (plan_of c.args.self.now.jobs c.txn-txn.result) (steps_done (past_of c.args.self.now) c.txn-txn.result) es)
    (c.entries.ensures ∙ sym c.entries-entry-items.ensures) (c.continues.ensures.0 c.if-not-continues.false))
    c.txn-txn.ensures.txn c.loop-entry-test.true c.entry-item.is c.loop-entry.invariant

pub returns-clause-follows : goal.returns-clause-follows
returns-clause-follows c = λ _.
    subst (λ (t : ℕ). Follows (list_of c.args.self.now.jobs t) (plan_of c.args.self.now.jobs t) (steps_done (past_of c.args.self.now) t) c.args.carry.now.entries) c.txn-txn.ensures.txn
    (subst (λ (es : List Entry). Follows (list_of c.args.self.now.jobs c.txn-txn.result) (plan_of c.args.self.now.jobs c.txn-txn.result) (steps_done (past_of c.args.self.now) c.txn-txn.result) es) c.entries.ensures
    (c.continues.ensures.0 c.if-not-continues.false))

pub returns-clause-added : goal.returns-clause-added
returns-clause-added c = λ _. steps_whole c.args.self.now c.loop-entry.self c.args.carry.now c.loop-entry.entry-index c.entries-entry-items.result.now c.entries-entry-items.ensures c.loop-entry-test.false c.loop-entry.auto.entry-index-end c.loop-entry.invariant

pub returns-clause-batch : goal.returns-clause-batch
returns-clause-batch c = batch_after c.args.self.now c.loop-entry.self c.args.carry.now.txn c.loop-entry.entry-index c.loop-entry.invariant

pub returns-clause-next : goal.returns-clause-next
returns-clause-next c = grind (arith, next_after, steps_whole)
