use Rattle.std.proofs.Common.{refl, sym, ◌∙◌, ap, arith}
use Rattle.std.proofs.lemmas.Bool.{ltb-false}
use Rattle.grove_core.specs.Cores.{time_in}
use Rattle.grove_core.proofs.CoreReads.{found, seen}
use Rattle.grove_core.proofs.OrderByLevels.{no_lock_time}
use Rattle.grove_core.proofs.machine.Core.lock_time.Goals as goal

pub returns-in-Some : goal.returns-in-Some
returns-in-Some c =
    c.time_in.ensures ∙ ap (λ ls. time_in ls c.args.node) c.as_slice.ensures
    ∙ ((seen c.self.view_is c.self.invariant).come c.args.txn c.in-Some.progress.now (found c.deref.ensures.value refl (sym c.in-Some.ensures.lookup.0) c.in-Some.ensures.lookup.1)).times c.args.node c.requires

pub returns-in-None : goal.returns-in-None
returns-in-None c = grind (arith, ltb-false, no_lock_time, seen)
