use Rattle.std.proofs.Common.{List, ℕ, append_assoc, codes, rules, string_bytes}
use Rattle.grove_draw.specs.Writings.{IsOwn, IsTextPicture}
use Rattle.grove_draw.proofs.WrittenRows.{if_ok}
use Rattle.grove_draw.proofs.text.text.Goals as goal

pub returns : goal.returns
returns c =
    let own : List ℕ = string_bytes c.in_ok-own.own in
    let settled : List ℕ = string_bytes c.in_ok-settled.settled in
    let end : List ℕ = string_bytes c.in_ok-end.end in
    let is_own : IsOwn (IsTextPicture (codes "the document's plan")) c.args.drawing.now.own own = search rules in
    let is_settled : IsTextPicture (codes "the settled plan") c.args.drawing.now.settled settled = search rules in
    if_ok c.format.result _ _ c.format.ensures.ok
    (λ text is. (own, settled, end, simp append_assoc is, is_own, is_settled))
