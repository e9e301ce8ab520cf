use Rattle.std.proofs.Common.{◌∙◌, true, subst}
use Rattle.grove_session.specs.Sessions.{SessionEnds}
use Rattle.grove_desk.specs.Hints.{CallerState, IsCallerReply}
use Rattle.grove_serve.proofs.watching.session_at.Goals as goal

pub returns : goal.returns
returns g c =
    let (input, out, consumed, appended, ends) = c.session.ensures.text in (
      input,
      out,
      c.session.new.answers,
      consumed,
      appended,
      subst (λ (before : CallerState). SessionEnds true IsCallerReply before c.session.result
          (g.I.Source.remaining c.session.new.source) input out c.session.new.answers)
          (c.together-visitor.ensures ∙ c.watched.ensures) ends,
    )
