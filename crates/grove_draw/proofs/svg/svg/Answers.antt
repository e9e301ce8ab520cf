use Rattle.std.proofs.Common.{List, ℕ, append_assoc, rules, string_bytes}
use Rattle.grove_draw.specs.Scales.{x_of}
use Rattle.grove_draw.specs.Writings.{IsOwn, IsSvgPicture}
use Rattle.grove_draw.proofs.WrittenRows.{if_ok}
use Rattle.grove_draw.proofs.svg.svg.Goals as goal

pub returns : goal.returns
returns c =
    let x : ℕ → ℕ = x_of c.in_ok-frame.frame in
    let head : List ℕ = string_bytes c.in_ok-head.head in
    let own : List ℕ = string_bytes c.in_ok-own.own in
    let settled : List ℕ = string_bytes c.in_ok-settled.settled in
    let end : List ℕ = string_bytes c.in_ok-end.end.text in
    let is_own : IsOwn (IsSvgPicture x) c.args.drawing.now.own own = search rules in
    let is_settled : IsSvgPicture x c.args.drawing.now.settled settled = search rules in
    if_ok c.format.result _ _ c.format.ensures.ok
    (λ text is. (x, head, own, settled, end, simp append_assoc is, is_own, is_settled))
