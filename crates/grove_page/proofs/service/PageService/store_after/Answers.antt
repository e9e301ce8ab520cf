use Rattle.std.proofs.Common.{subst}
use Rattle.grove_desk.specs.Desks.{TellsLater}
use Rattle.grove_page.specs.Pages.{PageState}
use Rattle.grove_page.proofs.service.PageService.store_after.Goals as goal

pub returns : goal.returns
returns g c =
    let told = subst (λ (state : PageState). TellsLater state.opening c.args.after c.in_ok-snapshot_after.field-0)
    c.self.view_is c.in_ok-snapshot_after.ensures in
    c.store_of.ensures c.args.self.now.opening c.args.after told
