use Rattle.std.proofs.Common.{inl, inr, refl, subst, sym}
use Rattle.std.proofs.lemmas.Result.{IfOk-weaker}
use Rattle.std.proofs.KnownBytes.{Keeps-refl}
use Rattle.grove.specs.Answers.{IsAsGoodAs}
use Rattle.grove.proofs.Printing.{all_printed, all_stopped, on_err, tells_of}
use Rattle.grove.proofs.command.do_command.Goals as goal

pub returns-clause-done : goal.returns-clause-done
returns-clause-done g c =
    let good = subst (IsAsGoodAs c.args.command.now c.args.document (g.I.Source.remaining c.args.input.now))
    (sym c.deref.ensures.value) c.in_ok-bytes.ensures.read in
    let tells = tells_of c.args.command.now c.args.document _ c.deref.result.now c.in_ok-response.response.answer good
    c.in_ok-response.ensures in
    IfOk-weaker c.say.result _ _ (λ status said. inl said)
    (all_printed _ _ c.in_ok-response.response.answer tells c.say.result _ _ c.say.ensures.printed)

pub returns-clause-stopped : goal.returns-clause-stopped
returns-clause-stopped g c =
    let good = subst (IsAsGoodAs c.args.command.now c.args.document (g.I.Source.remaining c.args.input.now))
    (sym c.deref.ensures.value) c.in_ok-bytes.ensures.read in
    let tells = tells_of c.args.command.now c.args.document _ c.deref.result.now c.in_ok-response.response.answer good
    c.in_ok-response.ensures in
    all_stopped _ _ c.in_ok-response.response.answer tells c.say.result _ _ _ c.say.ensures.stopped

pub returns-in_err-bytes-clause-stopped : goal.returns-in_err-bytes-clause-stopped
returns-in_err-bytes-clause-stopped g c = on_err c.from_residual.result (inr (refl, inl (Keeps-refl _)))

pub returns-in_err-response-clause-stopped : goal.returns-in_err-response-clause-stopped
returns-in_err-response-clause-stopped g c =
    on_err c.from_residual-in_err-response.result (inr (refl, inl (Keeps-refl _)))
