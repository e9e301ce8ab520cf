use Rattle.std.proofs.Common.{refl}
use Rattle.grove_wire.specs.Requests.{named_of}
use Rattle.grove_line.proofs.ObjectMembers.{unlike}
use Rattle.grove_line.proofs.only.Name.of.Goals as goal

pub returns-in_default-clause-unknown : goal.returns-in_default-clause-unknown
unfolding named_of
returns-in_default-clause-unknown c none tree d = rw (
  unlike _ _ c.in_default.not-plan,
  unlike _ _ c.in_default.not-check,
  unlike _ _ c.in_default.not-batch,
  unlike _ _ c.in_default.not-weights,
  unlike _ _ c.in_default.not-reweigh,
) refl
