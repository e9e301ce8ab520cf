use Rattle.std.proofs.Common.{List, length, ◌≤◌}
use Rattle.serde_json.specs.Data.{Data}
use Rattle.grove_line.proofs.FewItems.{AreSeen}
use Rattle.grove_line.proofs.scalars.few_items.Given as goal

abbrev pub invariant-loop : goal.invariant-loop
invariant-loop l =
    (xs : List Data) × AreSeen l.depth l.fn.reader l.reader xs × (5 ≤ length xs)

abbrev pub decreases-loop : goal.decreases-loop
decreases-loop l = length l.reader
