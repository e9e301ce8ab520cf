use Rattle.std.proofs.Common.{arith}
use Rattle.std.proofs.lemmas.Result.{IfOk-weaker}
use Rattle.grove_run.proofs.finished.Finished.places.Goals as goal

pub places_in-requires-clause-once : goal.places_in-requires-clause-once
places_in-requires-clause-once c = grind (arith)

pub returns : goal.returns
returns c = grind (arith, IfOk-weaker)
