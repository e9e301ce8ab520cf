use Rattle.std.proofs.Common.{◌∙◌, refl, subst, true}
use Rattle.grove_session.specs.Sessions.{SessionEnds}
use Rattle.grove_desk.specs.Hints.{CallerState, IsCallerReply}
use Rattle.grove_desk.proofs.Unhinted.{unhinted}
use Rattle.grove_desk.proofs.visit.desk_session.Goals as goal

pub returns-clause-text : goal.returns-clause-text
returns-clause-text g c =
    let (input, out, consumed, appended, ends) = c.session.ensures.text in
    let new = c.session.new.answers in
    let left = g.I.Source.remaining c.session.new.source in (
      input,
      out,
      new.visit,
      consumed,
      appended,
      unhinted _ new c.session.result left input out refl
          (subst (λ (before : CallerState). SessionEnds true IsCallerReply before c.session.result left input out new)
          (c.together-visit.ensures ∙ c.new.ensures) ends),
    )
