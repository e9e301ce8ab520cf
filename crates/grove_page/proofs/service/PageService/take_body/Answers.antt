use Rattle.std.proofs.Common.{◌≡◌, [], ◌∷◌, ◌++◌, codes, subst, OnOk}
use Rattle.http_header.specs.FieldValue.{FieldValue}
use Rattle.http_server.specs.Response.{fields_of}
use Rattle.grove_desk.specs.Hints.{caller}
use Rattle.grove_page.proofs.Ending.{ends_after}
use Rattle.grove_page.proofs.service.PageService.take_body.Goals as goal

pub returns-then-lines-gt-MOST_KEPT : goal.returns-then-lines-gt-MOST_KEPT
returns-then-lines-gt-MOST_KEPT g c =
    let old = c.take_lines.new.response in
    let new = c.add_header.new.self in
    let fields = subst (λ (value : FieldValue). OnOk c.add_header.result
    (fields_of new ≡ fields_of old ++ (codes "connection", value.bytes) ∷ [])) c.from_static.ensures
    c.add_header.ensures.headers in
    ends_after c.add_header.result (caller c.args.hints c.args.self.now.opening) c.args.lines.now old new
    c.if-lines-gt-MOST_KEPT.true
    c.in_ok-take_lines.ensures c.add_header.ensures.status fields c.add_header.ensures.body
