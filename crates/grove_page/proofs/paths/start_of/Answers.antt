use Rattle.std.proofs.Common.{◌∙◌, ap, codes, ◌++◌}
use Rattle.json.specs.Print.{quoted, print}
use Rattle.grove_page.proofs.NodeTexts.{start_written}
use Rattle.grove_page.proofs.paths.start_of.Goals as goal

pub returns : goal.returns
returns c =
    start_written c.deref.result.now c.new-writer.result.before c.into_inner-start.result.items
    c.extend_from_slice-2.new.self.items
    c.new-writer.result.tokens c.string.new.self.tokens
    (c.new-writer.ensures.before ∙ c.in_ok-extend_from_slice.ensures.items
    ∙ ap (λ text. text ++ codes "{\"path\":") c.in_ok-front.ensures.items) c.new-writer.ensures.tokens
    c.in_ok-string.ensures.ok
    (c.into_inner-start.ensures.items
    ∙ ap (λ text. text ++ print c.string.new.self.tokens) c.in_ok-string.ensures.room.0)
    c.in_ok-extend_from_slice-2.ensures.items
    ∙ ap (λ path. codes "{\"path\":" ++ (quoted path ++ codes ",\"record\":"))
    (c.deref.ensures ∙ c.in_ok-path.ensures.path)
