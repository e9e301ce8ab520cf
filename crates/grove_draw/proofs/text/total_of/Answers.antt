use Rattle.std.proofs.Common.{append_assoc, string_bytes}
use Rattle.grove_draw.proofs.WrittenRows.{if_ok}
use Rattle.grove_draw.proofs.text.total_of.Goals as goal

pub returns : goal.returns
returns c =
    if_ok c.format.result _ _ c.format.ensures.ok (λ text is. (string_bytes c.in_ok-front.front, simp append_assoc is))
