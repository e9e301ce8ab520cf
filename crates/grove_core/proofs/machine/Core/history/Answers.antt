use Rattle.std.proofs.Common.{arith}
use Rattle.std.proofs.lemmas.List.{length-reverse}
use Rattle.grove_core.proofs.RunBounds.{history_bound}
use Rattle.grove_core.proofs.CoreReads.{seen}
use Rattle.grove_core.proofs.machine.Core.history.Goals as goal

pub returns-clause-few : goal.returns-clause-few
returns-clause-few c = grind (arith, history_bound, length-reverse, seen)
