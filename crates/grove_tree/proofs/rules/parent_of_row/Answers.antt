use Rattle.std.proofs.Common.{sym}
use Rattle.grove_tree.proofs.OwnRows.{own_parent}
use Rattle.grove_tree.proofs.rules.parent_of_row.Goals as goal

pub returns : goal.returns
returns c = sym (own_parent _ _ _ c.index-rows-row.is c.requires)
