use Rattle.std.proofs.Common.{append_assoc, string_bytes}
use Rattle.grove_draw.proofs.WrittenRows.{if_ok}
use Rattle.grove_draw.proofs.svg.Frame.total.Goals as goal

pub returns : goal.returns
returns c =
    if_ok c.format-3.result _ _ c.format-3.ensures.ok
    (λ text is. (string_bytes c.in_ok-front.front, simp append_assoc is))
