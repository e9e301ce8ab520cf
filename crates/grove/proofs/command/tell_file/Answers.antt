use Rattle.std.proofs.Common.{inl, inr, refl, subst, sym}
use Rattle.std.proofs.KnownBytes.{Keeps-refl}
use Rattle.grove.specs.Answers.{Tells}
use Rattle.grove.specs.Outcomes.{TellsFile}
use Rattle.grove.proofs.Printing.{all_printed, all_stopped, on_err}
use Rattle.grove.proofs.command.tell_file.Goals as goal

pub returns-clause-done : goal.returns-clause-done
returns-clause-done g c =
    let tells = subst (Tells (TellsFile c.args.checks) 0) (sym c.with_hint.ensures) c.in_ok-answer.ensures in
    all_printed _ _ _ tells c.say.result _ _ c.say.ensures.printed

pub returns-clause-stopped : goal.returns-clause-stopped
returns-clause-stopped g c =
    let tells = subst (Tells (TellsFile c.args.checks) 0) (sym c.with_hint.ensures) c.in_ok-answer.ensures in
    all_stopped _ _ _ tells c.say.result _ _ _ c.say.ensures.stopped

pub returns-in_err-answer-clause-stopped : goal.returns-in_err-answer-clause-stopped
returns-in_err-answer-clause-stopped g c = on_err c.from_residual.result (inr (refl, inl (Keeps-refl _)))
