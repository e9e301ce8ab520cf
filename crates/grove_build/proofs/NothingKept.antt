-- Where nothing is kept, there is no plan that could be wrong.
use Rattle.std.proofs.Common.{[]}
use Rattle.std.proofs.lemmas.Option.{none-some}
use Rattle.grove_tree.specs.Trees.{Rows}
use Rattle.grove_build.specs.KeptPlans.{AreSettledFor}

pub nothing_kept : (rows : Rows) → AreSettledFor rows []
nothing_kept rows place kept at list for = absurd (none-some kept at)
