use Rattle.std.proofs.Common.{get_or, arith}
use Rattle.std.proofs.lemmas.List.{take_all}
use Rattle.std.proofs.lemmas.Option.{slice_get-get_or}
use Rattle.grove_core.specs.declared.event.Event.TheVariants.{Take}
use Rattle.grove_core.proofs.Replaying.{followed}
use Rattle.grove_core.proofs.machine.Core.follow.Goals as goal

pub loop-at-init : goal.loop-at-init
loop-at-init c = grind (arith)

pub returns-in-Err-clause-refused : goal.returns-in-Err-clause-refused
returns-in-Err-clause-refused c = grind (arith, slice_get-get_or)

pub loop-at-preserved : goal.loop-at-preserved
loop-at-preserved c =
    let next = followed c.args.self.now c.loop-at.self c.step.new.self c.args.events.now c.loop-at.at (get_or c.args.events.now c.loop-at.at (Take 0))
    (slice_get-get_or c.args.events.now c.loop-at.at (Take 0) c.loop-at-test.true) c.loop-at.invariant.history c.in_default.ensures.added c.in_default.ensures.accepted c.loop-at.invariant.run in
    record { history = next.0; run = next.1 }

pub returns-clause-done : goal.returns-clause-done
returns-clause-done c = grind (arith, take_all)
