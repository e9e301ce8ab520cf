use Rattle.std.proofs.Common.{ℕ, ◌∷◌, ap, ◌∙◌}
use Rattle.grove_tree.proofs.PathParts.{goes_cut, goes_not}
use Rattle.grove_tree.proofs.finding.after_name.Goals as goal

pub returns-in_default : goal.returns-in_default
returns-in_default c = λ rest. goes_not c.args.path.now c.args.name.now c.in_ok-slash.below.now c.in_ok-slash.slash.now c.in_ok-slash.ensures.cases.0 c.in_default.ensures.cases rest

pub returns-then-is_rest : goal.returns-then-is_rest
returns-then-is_rest c = (
  c.is_rest.ensures.0 c.if-is_rest.true,
  goes_cut c.args.path.now c.args.name.now c.in_ok-slash.below.now c.in-Some.rest.now (c.in_ok-slash.ensures.cases.0 ∙ ap (λ (byte : ℕ). byte ∷ c.in_ok-slash.below.now) c.if-slash-ne47.false) c.in-Some.ensures.cases.0 c.in-Some.ensures.cases.1,
)
