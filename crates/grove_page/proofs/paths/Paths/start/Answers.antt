use Rattle.std.proofs.Common.{◌≡◌, ◌<◌, length, ◌∙◌, ap, arith, rules}
use Rattle.grove_page.specs.NodeTexts.{entry_start}
use Rattle.grove_page.proofs.NodeTexts.{starts_many, start_at}
use Rattle.grove_page.proofs.paths.Paths.start.Goals as goal

pub index-requires : goal.index-requires
index-requires c =
    let many = starts_many (λ start. start.items) c.self.inside.starts.items c.self.inside.tree
    (length c.self.inside.tree) c.self.invariant in
    let long : length c.self.inside.tree ≡ length c.args.self.now = ap length c.self.view_is in
    search rules

pub returns : goal.returns
returns c =
    let rows = c.self.inside.tree in
    let long : length rows ≡ length c.args.self.now = ap length c.self.view_is in
    let few : c.number.result < length rows = omega (arith, c.number.ensures.is_it, c.requires) in
    c.as_slice.ensures.value
    ∙ start_at (λ start. start.items) c.self.inside.starts.items rows
    (length rows) c.number.result c.index.result.now c.self.invariant few c.index.ensures
    ∙ ap (entry_start rows) c.number.ensures.is_it
    ∙ ap (λ rows. entry_start rows c.args.node) c.self.view_is
