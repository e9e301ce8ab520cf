use Rattle.std.proofs.Common.{inl, inr, refl}
use Rattle.std.proofs.lemmas.Result.{IfOk-weaker}
use Rattle.grove.proofs.Printing.{on_err, on_err_weaker}
use Rattle.grove.proofs.command.obey.Goals as goal

pub returns-in-Do-clause-done : goal.returns-in-Do-clause-done
returns-in-Do-clause-done g c = rw c.in-Do.is c.do_command.ensures.done

pub returns-in-Do-clause-stopped : goal.returns-in-Do-clause-stopped
returns-in-Do-clause-stopped g c = rw c.in-Do.is c.do_command.ensures.stopped

pub returns-in-Resume-clause-done : goal.returns-in-Resume-clause-done
returns-in-Resume-clause-done g c =
    rw c.in-Resume.is (IfOk-weaker c.resume.result _ _ (λ status said. inl said) c.resume.ensures.done)

pub returns-in-Resume-clause-stopped : goal.returns-in-Resume-clause-stopped
returns-in-Resume-clause-stopped g c = rw c.in-Resume.is c.resume.ensures.stopped

pub returns-in-Data-clause-done : goal.returns-in-Data-clause-done
returns-in-Data-clause-done g c =
    rw c.in-Data.is (IfOk-weaker c.tell_file.result _ _ (λ status said. inl said) c.tell_file.ensures.done)

pub returns-in-Data-clause-stopped : goal.returns-in-Data-clause-stopped
returns-in-Data-clause-stopped g c = rw c.in-Data.is c.tell_file.ensures.stopped

pub returns-in-Ask-clause-done : goal.returns-in-Ask-clause-done
returns-in-Ask-clause-done g c = rw c.in-Ask.is (IfOk-weaker c.ask.result _ _ (λ status few. inl few) c.ask.ensures)

pub returns-in-Ask-clause-stopped : goal.returns-in-Ask-clause-stopped
returns-in-Ask-clause-stopped g c = rw c.in-Ask.is (on_err c.ask.result (inr refl))

pub returns-clause-done : goal.returns-clause-done
returns-clause-done g c =
    rw c.in-Save.is (IfOk-weaker c.save.result _ _ (λ status saved. inl saved) c.save.ensures.saved)

pub returns-clause-stopped : goal.returns-clause-stopped
returns-clause-stopped g c =
    rw c.in-Save.is (on_err_weaker c.save.result (λ kept. inr (refl, kept)) c.save.ensures.unprinted)
