use Rattle.std.proofs.Common.{List, ℕ, append_assoc, string_bytes, subst}
use Rattle.grove_draw.specs.Writings.{IsShown}
use Rattle.grove_draw.proofs.WrittenRows.{if_ok}
use Rattle.grove_draw.proofs.svg.row_head.Goals as goal

pub returns : goal.returns
returns c =
    let path : List ℕ = string_bytes c.in_ok-path.path in
    let shown : IsShown (string_bytes c.args.bar.now.path) path =
    subst (λ (bytes : List ℕ). IsShown bytes path) c.deref.ensures c.in_ok-path.ensures in
    if_ok c.format.result _ _ c.format.ensures.ok (λ text is. (path, shown, simp append_assoc is))
