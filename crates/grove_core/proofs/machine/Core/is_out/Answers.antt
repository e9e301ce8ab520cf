use Rattle.std.proofs.Common.{ℕ, List, subst}
use Rattle.std.proofs.lemmas.Bool.{both_ways}
use Rattle.grove_access.specs.declared.known.Known.{Known}
use Rattle.grove_core.specs.CarriedTests.{KnowsAll}
use Rattle.grove_core.proofs.CarriedEntries.{knows_test, has_of}
use Rattle.grove_core.proofs.machine.Core.is_out.Goals as goal

pub returns-then-not-knows_all-clause-no : goal.returns-then-not-knows_all-clause-no
returns-then-not-knows_all-clause-no c = λ _ of.
    both_ways c.knows_all.result c.if-not-knows_all.true (c.knows_all.ensures.1 (knows_test c.args.self.now c.args.carry.now c.txn-txn.result c.known.result.now c.txn-txn.ensures.txn c.known.ensures c.txn-txn.ensures.sound.apart of))

pub has_all-requires-clause-knows : goal.has_all-requires-clause-knows
has_all-requires-clause-knows c =
    subst (λ (t : ℕ). KnowsAll c.args.self.now t c.args.carry.now.known) c.txn-txn.ensures.txn
    (subst (λ (ks : List Known). KnowsAll c.args.self.now c.txn-txn.result ks) c.known.ensures (c.knows_all.ensures.0 c.if-not-knows_all.false))

pub returns-clause-knows : goal.returns-clause-knows
returns-clause-knows c = λ _.
    subst (λ (t : ℕ). KnowsAll c.args.self.now t c.args.carry.now.known) c.txn-txn.ensures.txn
    (subst (λ (ks : List Known). KnowsAll c.args.self.now c.txn-txn.result ks) c.known.ensures (c.knows_all.ensures.0 c.if-not-knows_all.false))

pub returns-clause-no : goal.returns-clause-no
returns-clause-no c = λ is of. both_ways c.has_all.result is (c.has_all.ensures.1 (has_of c.args.self.now c.args.carry.now of))
