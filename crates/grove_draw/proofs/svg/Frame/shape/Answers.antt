use Rattle.std.proofs.Common.{◌≡◌, ◌-◌, ℕ, append_assoc, string_bytes, subst}
use Rattle.grove_draw.specs.Scales.{x_of}
use Rattle.grove_draw.specs.Writings.{IsShape}
use Rattle.grove_draw.proofs.WrittenRows.{bar_shape, if_ok, stroke_shape}
use Rattle.grove_draw.proofs.svg.Frame.shape.Goals as goal

pub returns-then-width-eq0 : goal.returns-then-width-eq0
returns-then-width-eq0 c =
    let x : ℕ → ℕ = x_of c.args.self.now in
    let bar = c.args.bar.now in
    let width : x bar.release - x bar.lock ≡ c.saturating_sub-width.result = cc in
    if_ok c.format.result _ _ c.format.ensures.ok
    (λ text is. subst (λ (at : ℕ). IsShape at (x bar.release - x bar.lock) (string_bytes text)) c.x_of-x.ensures
    (stroke_shape c.x_of-x.result c.saturating_sub-width.result (x bar.release - x bar.lock)
    c.saturating_add-top.result c.saturating_add-end.result (string_bytes text) width c.if-width-eq0.true
    (simp append_assoc is)))

pub returns : goal.returns
returns c =
    let x : ℕ → ℕ = x_of c.args.self.now in
    let bar = c.args.bar.now in
    let width : x bar.release - x bar.lock ≡ c.saturating_sub-width.result = cc in
    if_ok c.format-2.result _ _ c.format-2.ensures.ok
    (λ text is. subst (λ (at : ℕ). IsShape at (x bar.release - x bar.lock) (string_bytes text)) c.x_of-x.ensures
    (bar_shape c.x_of-x.result c.saturating_sub-width.result (x bar.release - x bar.lock)
    c.saturating_add-top.result (string_bytes text) width c.if-width-eq0.false (simp append_assoc is)))
