use Rattle.std.proofs.Common.{take}
use Rattle.std.specs.List.{AllZip}
use Rattle.grove_build.specs.Batches.{IsPlanned}
use Rattle.grove_build.proofs.parts.plan_each.Given as goal

abbrev pub invariant-loop-place : goal.invariant-loop-place
invariant-loop-place g l = AllZip (λ part planned. IsPlanned l.tree part.now planned) (take l.place l.parts) l.all.items
