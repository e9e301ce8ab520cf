use Rattle.std.proofs.Common.{◌≡◌, false, bytes_eq, sym, ap, ◌∙◌}
use Rattle.grove_line.specs.OnlyMember.{text_of}
use Rattle.grove_line.proofs.OnlyMember.{two_members, shapeless_put}
use Rattle.grove_line.proofs.only.Only.wanted.Goals as goal

pub returns-else-eq-clause-other : goal.returns-else-eq-clause-other
returns-else-eq-clause-other c none tree ms d only =
    let text = c.args.text.now in
    let known = rw c.in-One.is at only in
    let apart : bytes_eq text (text_of c.in-One.name) ≡ false =
    ap (bytes_eq text) (sym c.text.ensures) ∙ sym c.eq.ensures ∙ c.if-eq.false in
    rw known.1 (two_members text (text_of c.in-One.name) d known.0 apart)

pub returns-in-Other-clause-other : goal.returns-in-Other-clause-other
returns-in-Other-clause-other c none tree ms d only =
    shapeless_put c.args.text.now d ms (rw c.in-Other.is at only)
