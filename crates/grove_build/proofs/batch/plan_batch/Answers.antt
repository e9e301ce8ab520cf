use Rattle.std.proofs.Common.{arith}
use Rattle.std.proofs.lemmas.Result.{IfOk-weaker}
use Rattle.grove_build.proofs.Filled.{copies_planned, copies_alike}
use Rattle.grove_build.proofs.NothingKept.{nothing_kept}
use Rattle.grove_build.proofs.batch.plan_batch.Goals as goal

pub fill-requires-clause-settled : goal.fill-requires-clause-settled
fill-requires-clause-settled g c κs within = grind (arith, nothing_kept)

pub returns-clause-planned : goal.returns-clause-planned
returns-clause-planned g c = grind (arith, IfOk-weaker, copies_planned)

pub returns-clause-alike : goal.returns-clause-alike
returns-clause-alike g c = grind (arith, IfOk-weaker, copies_alike)
