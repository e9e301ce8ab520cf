use Rattle.std.proofs.Common.{ℕ, List, [], Option, refl, subst}
use Rattle.std.proofs.lemmas.Result.{err_from_is_err_and}
use Rattle.grove_session.specs.Sessions.{long_line_text}
use Rattle.grove_session.specs.Intakes.{IsHeldReplied}
use Rattle.grove_session.proofs.Answering.{fails_next, answers_next}
use Rattle.grove_session.proofs.Sending.{goes_nothing}
use Rattle.grove_session.proofs.intake.Intake.answer.Goals as goal

pub returns-in_err-line-clause-answered : goal.returns-in_err-line-clause-answered
returns-in_err-line-clause-answered g c =
    let p = err_from_is_err_and c.from_residual.result c.from_residual.ensures.1 in
    rw (p.1, p.2) ([], goes_nothing _ _ _, (refl, refl))

pub returns-in_err-reply-in-Some-clause-answered : goal.returns-in_err-reply-in-Some-clause-answered
returns-in_err-reply-in-Some-clause-answered g c =
    let e = c.from_residual-in_err-reply-in-Some in
    let p = err_from_is_err_and e.result e.ensures.1 in
    rw (p.1, p.2)
    ([], goes_nothing _ _ _, fails_next g.A.Answers.lawful _ _ _ _ c.in_err-reply-in-Some.ensures.err)

pub returns-clause-answered : goal.returns-clause-answered
returns-clause-answered g c =
    let h = c.send-in-None.ensures.sent in
    let told = subst (λ (line : Option (List ℕ)).
    IsHeldReplied g.A.Answers.lawful c.args.answers.now line long_line_text c.args.answers.now)
    (rw c.in-None.is at c.in_ok-line.ensures.ok) (refl, refl) in
    (h.0, h.1, answers_next g.A.Answers.lawful _ _ _ _ long_line_text _ _ h.0 _ told refl h.2)
