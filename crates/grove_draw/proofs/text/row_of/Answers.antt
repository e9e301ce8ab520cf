use Rattle.std.proofs.Common.{◌≡◌, ℕ, List, Some, append_assoc, slice_get, string_bytes}
use Rattle.grove_base.proofs.Lists.{read_at}
use Rattle.grove_draw.specs.declared.bar.Bar.{Bar}
use Rattle.grove_draw.proofs.WrittenRows.{if_ok}
use Rattle.grove_draw.proofs.text.row_of.Goals as goal

pub returns : goal.returns
returns c =
    let bar : Bar = c.index-bar.result.now in
    let drawn : List ℕ = string_bytes c.in_ok-drawn.drawn in
    let at : slice_get c.args.picture.now.bars.items c.args.place ≡ Some bar =
    read_at c.args.picture.now.bars.items c.args.place bar c.requires c.index-bar.ensures in
    if_ok c.format.result _ _ c.format.ensures.ok
    (λ text is. (bar, at, (drawn, c.saturating_sub-held.result, simp append_assoc is)))
