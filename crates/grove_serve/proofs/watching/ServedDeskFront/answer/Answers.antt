use Rattle.std.proofs.Common.{◌≡◌, true, subst}
use Rattle.grove_desk.specs.Desks.{DeskState}
use Rattle.grove_desk.specs.declared.told.Told.{Told}
use Rattle.grove_desk.specs.Hints.{caller, CallerState, IsCallerReply}
use Rattle.grove_page.specs.Pages.{ends_refused, is_refused, Visits, VisitsDesk}
use Rattle.grove_page.proofs.Refused.{answered}
use Rattle.grove_serve.proofs.watching.ServedDeskFront.answer.Goals as goal

pub returns : goal.returns
returns g c =
    let (out, holds, visits) = c.visit-ended.ensures in
    let Begins : CallerState → Type 0 = λ before.
    Visits true IsCallerReply before c.args.lines.now c.visit-ended.result out c.visit-ended.new.answers in
    let Tells : Told → Type 0 = λ told. c.new.result.is_refused ≡ ends_refused c.visit-ended.result told in
    let Answers : DeskState → Type 0 = λ desk.
    VisitsDesk (caller c.args.hints desk.opening) c.args.lines.now c.new.result.ended out
    × (c.new.result.is_refused ≡ is_refused c.new.result.ended out) in
    let both : Answers c.args.self.now = subst Answers c.self.view_is
    (answered c.args.hints c.self.inside.desk.now.opening c.args.lines.now c.visit-ended.result out
    c.visit-ended.new.answers c.new.result c.new.ensures.ended (subst Tells c.told.ensures c.new.ensures.refused)
    (subst Begins c.watched-visitor.ensures visits)) in (out, holds, both.0, both.1)
