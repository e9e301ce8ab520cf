use Rattle.std.proofs.Common.{subst, [], ◌∷◌, ◌++◌}
use Rattle.grove_desk.specs.Histories.{Led}
use Rattle.grove_wire.specs.Documents.{document_text}
use Rattle.grove_store.specs.StoreStates.{StoreState}
use Rattle.grove_page.specs.Pages.{PageState}
use Rattle.grove_page.proofs.Told.{tells_store}
use Rattle.grove_page.proofs.service.PageService.tell_document.Goals as goal

pub returns-in-Ok : goal.returns-in-Ok
returns-in-Ok g c =
    let led = subst (λ (state : PageState). Led state.opening c.in-Ok.store) c.self.view_is c.in-Ok.ensures in
    tells_store (λ line. line.items) (λ (store : StoreState). document_text store.rows store.records ++ 10 ∷ [])
    c.args.self.now.opening c.in-Ok.store c.fill_line.result
    c.document_line.result c.fill_line.new.response led c.document_line.ensures c.fill_line.ensures.told
    c.fill_line.ensures.refused
