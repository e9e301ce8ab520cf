use Rattle.std.proofs.Common.{arith}
use Rattle.std.proofs.lemmas.List.{take_all}
use Rattle.grove_build.proofs.Batched.{AllZip-next}
use Rattle.grove_build.proofs.parts.plan_each.Goals as goal

pub loop-place-preserved : goal.loop-place-preserved
loop-place-preserved g c = grind (arith, AllZip-next)

pub plan-requires : goal.plan-requires
plan-requires g c = grind (arith)

pub returns : goal.returns
returns g c = grind (arith, take_all)
