use Rattle.std.proofs.Common.{◌+◌, ◌*◌}
use Rattle.grove_span.proofs.rows.Listed.+listing.Given as goal

abbrev pub decreases-push_way : goal.decreases-push_way
decreases-push_way l = 2 * l.node + 1

abbrev pub decreases-push_above : goal.decreases-push_above
decreases-push_above l = 2 * l.node
