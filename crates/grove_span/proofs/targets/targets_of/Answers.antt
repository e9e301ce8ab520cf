use Rattle.std.proofs.Common.{add-one, arith}
use Rattle.std.proofs.lemmas.List.{take_all}
use Rattle.grove_base.proofs.Lists.{take_next}
use Rattle.grove_access.proofs.Lists.{node_at, nodes_length}
use Rattle.grove_span.proofs.Ascending.{sorted_ascends}
use Rattle.grove_span.proofs.targets.targets_of.Goals as goal

pub loop-access-preserved : goal.loop-access-preserved
loop-access-preserved c = grind (arith, add-one, node_at, take_next)

pub returns : goal.returns
returns c = grind (arith, nodes_length, sorted_ascends, take_all)
