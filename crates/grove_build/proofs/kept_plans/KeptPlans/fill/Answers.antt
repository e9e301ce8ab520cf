use Rattle.std.proofs.Common.{arith}
use Rattle.std.proofs.lemmas.Slice.Zip.{AllZip-long}
use Rattle.grove_build.proofs.Missing.{among_fit}
use Rattle.grove_build.proofs.Filled.{all_kept}
use Rattle.grove_build.proofs.kept_plans.KeptPlans.fill.Goals as goal

pub plan_parts-requires-clause-fit : goal.plan_parts-requires-clause-fit
plan_parts-requires-clause-fit g c κs within =
    rw c.deref.ensures.value
    (among_fit c.args.tree.now c.in_ok-missing.missing.items c.args.lists.now c.in_ok-missing.ensures.missing.among
    c.requires.fit)

pub keep_each-requires-clause-each : goal.keep_each-requires-clause-each
keep_each-requires-clause-each g c = grind (arith, AllZip-long)

pub keep_each-requires-clause-room : goal.keep_each-requires-clause-room
keep_each-requires-clause-room g c = rw c.deref-2.ensures.value c.in_ok-missing.ensures.room

pub returns-in_err-missing-clause-settled : goal.returns-in_err-missing-clause-settled
returns-in_err-missing-clause-settled g c = c.missing_with_room.ensures.settled c.args.tree.now c.requires.settled

pub returns-in_err-planned-clause-settled : goal.returns-in_err-planned-clause-settled
returns-in_err-planned-clause-settled g c = c.missing_with_room.ensures.settled c.args.tree.now c.requires.settled

pub returns-clause-complete : goal.returns-clause-complete
returns-clause-complete g c = grind (arith, all_kept)

pub returns-clause-settled : goal.returns-clause-settled
returns-clause-settled g c =
    (rw c.deref-2.ensures.value at c.keep_each.ensures.settled) c.args.tree.now
    (rw c.deref.ensures.value at c.in_ok-planned.ensures)
    (c.missing_with_room.ensures.settled c.args.tree.now c.requires.settled)
