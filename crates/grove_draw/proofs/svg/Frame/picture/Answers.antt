use Rattle.std.proofs.Common.{List, ℕ, append_assoc, codes, rules, string_bytes}
use Rattle.grove_draw.specs.Scales.{x_of}
use Rattle.grove_draw.specs.Writings.{AreWritten, IsSvgRow, IsTotal}
use Rattle.grove_draw.proofs.WrittenRows.{if_ok}
use Rattle.grove_draw.proofs.svg.Frame.picture.Goals as goal

pub returns : goal.returns
returns c =
    let rows : AreWritten (IsSvgRow (x_of c.args.self.now)) c.args.picture.now.bars.items
    (string_bytes c.in_ok-rows.rows) =
    search rules in
    let total : List ℕ = string_bytes c.in_ok-total.total in
    let is_total : IsTotal (codes "</text>\n") c.args.picture.now total = search rules in
    if_ok c.format.result _ _ c.format.ensures.ok
    (λ text is. (
      string_bytes c.in_ok-scale.scale,
      string_bytes c.in_ok-rows.rows,
      total,
      rows,
      is_total,
      simp append_assoc is,
    ))
