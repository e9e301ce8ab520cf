use Rattle.std.proofs.Common.{sym, ◌∙◌}
use Rattle.grove_line.proofs.ObjectMembers.{latest_wanted, latest_other}
use Rattle.grove_line.proofs.parts.latest.Goals as goal

pub returns-then-eq : goal.returns-then-eq
returns-then-eq c ms d before is =
    latest_wanted c.args.name.now c.args.wanted.now ms d c.args.member (sym c.eq.ensures ∙ c.if-eq.true) is

pub returns-else-eq : goal.returns-else-eq
returns-else-eq c ms d before is =
    latest_other c.args.name.now c.args.wanted.now ms d c.args.before (sym c.eq.ensures ∙ c.if-eq.false) before
