use Rattle.std.proofs.Common.{arith}
use Rattle.std.proofs.lemmas.Bool.{eqb-true}
use Rattle.grove_access.proofs.CarriedNodes.{settle_on, settled_nothing}
use Rattle.std.proofs.lemmas.List.{nil_from_length}
use Rattle.grove_access.proofs.carrying.settle_all.Goals as goal

pub returns-then-is_empty-clause-items : goal.returns-then-is_empty-clause-items
returns-then-is_empty-clause-items c = grind (arith, eqb-true, nil_from_length, settled_nothing)

pub loop-place-preserved : goal.loop-place-preserved
loop-place-preserved c = grind (arith, settle_on)
