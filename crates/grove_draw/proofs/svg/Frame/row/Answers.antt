use Rattle.std.proofs.Common.{◌≡◌, ◌-◌, ℕ, List, Some, append_assoc, rules, slice_get, string_bytes}
use Rattle.grove_base.proofs.Lists.{read_at}
use Rattle.grove_draw.specs.declared.bar.Bar.{Bar}
use Rattle.grove_draw.specs.Scales.{x_of}
use Rattle.grove_draw.specs.Writings.{IsRowHead, IsShape}
use Rattle.grove_draw.proofs.WrittenRows.{if_ok}
use Rattle.grove_draw.proofs.svg.Frame.row.Goals as goal

pub returns : goal.returns
returns c =
    let bar : Bar = c.index-bar.result.now in
    let x : ℕ → ℕ = x_of c.args.self.now in
    let at : slice_get c.args.picture.now.bars.items c.args.place ≡ Some bar =
    read_at c.args.picture.now.bars.items c.args.place bar c.requires c.index-bar.ensures in
    let head : List ℕ = string_bytes c.in_ok-head.head in
    let label : List ℕ = string_bytes c.in_ok-label.label in
    let shape : List ℕ = string_bytes c.in_ok-shape.shape in
    let rest : List ℕ = string_bytes c.in_ok-rest.rest in
    let tells : IsRowHead bar head = search rules in
    let shaped : IsShape (x bar.lock) (x bar.release - x bar.lock) shape = search rules in
    if_ok c.format.result _ _ c.format.ensures.ok
    (λ text is. (bar, at, (head, label, shape, rest, tells, shaped, simp append_assoc is)))
