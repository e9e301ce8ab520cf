use Rattle.grove_access.specs.Lists.{nodes_of, lengths_of}
use Rattle.grove_span.proofs.ForcedWays.{IsSpannedTo}
use Rattle.grove_span.proofs.rows.forced_rows.Given as goal

-- the rows of the forced nodes up to the targets so far
abbrev pub invariant-loop-target : goal.invariant-loop-target
invariant-loop-target l = IsSpannedTo l.tree (nodes_of l.list)
    (lengths_of l.list) l.targets l.fn.top l.target-index l.listed.next l.listed.numbers.items l.listed.rows.items
