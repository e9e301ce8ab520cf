use denote.Param.Send.{sendable}
use Rattle.std.proofs.Common.{inl, sym}
use Rattle.std.proofs.Crossing.{crosses}
use Rattle.grove.proofs.Printing.{on_err}
use Rattle.grove.proofs.Sharing.{Record-send}
use Rattle.grove.proofs.output.print.Goals as goal

pub returns-in_err-tell-in-Listen-clause-stopped : goal.returns-in_err-tell-in-Listen-clause-stopped
returns-in_err-tell-in-Listen-clause-stopped g c =
    rw c.in-Listen.is (rw (sym c.deref-in-Listen.ensures)
    (on_err c.from_residual-in_err-tell-in-Listen.result (inl c.in_err-tell-in-Listen.ensures.cut)))

pub serve-requires-send-K : goal.serve-requires-send-K
serve-requires-send-K g c κs within = search (sendable, crosses, Record-send) depth 80 fits 20000
