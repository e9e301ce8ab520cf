use Rattle.std.proofs.Common.{◌≡◌, take}
use Rattle.grove_cut.specs.CutTrees.{flow_at_origin}
use Rattle.grove_nodes.specs.PartPlans.{number_in}
use Rattle.grove_nodes.proofs.part.rows_numbered.Given as goal

abbrev pub invariant-loop-row : goal.invariant-loop-row
invariant-loop-row l = l.all.items ≡ flow_at_origin (number_in l.part) (take l.row-index l.rows)
