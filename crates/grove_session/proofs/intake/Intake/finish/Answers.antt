use Rattle.std.proofs.lemmas.Bool.{false≢true}
use Rattle.std.proofs.Common.{sym, ◌∙◌}
use Rattle.std.proofs.lemmas.Result.{err_from_is_err_and}
use Rattle.grove_session.proofs.Going.{finishes_with_last, finishes_in_part}
use Rattle.grove_session.proofs.Sending.{goes_whole, nothing_held}
use Rattle.grove_session.proofs.intake.Intake.finish.Goals as goal

pub returns-in_err-answer-clause-ends : goal.returns-in_err-answer-clause-ends
returns-in_err-answer-clause-ends g c =
    let h = c.in_err-answer.ensures.answered in
    let out = goes_whole _ _ _ _ _ _ h.0 h.1 c.requires.none_held
    (nothing_held _ _ c.answer.new.self.few_held c.in_err-answer.ensures.most_held) in
    let p = err_from_is_err_and c.from_residual.result c.from_residual.ensures.1 in
    rw (p.1, p.2) (
      h.0,
      out.0,
      out.1,
      finishes_in_part g.A.Answers.is_shared g.A.Answers.lawful _ _ c.args.self.now c.answer.new.self h.0 _
          (λ nothing. false≢true (sym c.if-is_empty.false ∙ c.is_empty.ensures.1 nothing)) h.2,
    )

pub returns-clause-ends : goal.returns-clause-ends
returns-clause-ends g c =
    let h = c.in_ok-answer.ensures.answered in
    let out = goes_whole _ _ _ _ _ _ h.0 h.1 c.requires.none_held
    (nothing_held _ _ c.answer.new.self.few_held c.in_ok-answer.ensures.most_held) in (
      h.0,
      out.0,
      out.1,
      finishes_with_last g.A.Answers.is_shared g.A.Answers.lawful _ _ c.args.self.now c.answer.new.self h.0
          (λ nothing. false≢true (sym c.if-is_empty.false ∙ c.is_empty.ensures.1 nothing)) h.2,
    )
