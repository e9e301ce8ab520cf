use Rattle.std.proofs.Common.{◌≡◌, ◌++◌, false}
use Rattle.grove_base.specs.Numbers.{passing_below}
use Rattle.grove_page.specs.NodeLines.{is_told}
use Rattle.grove_page.specs.NodeTexts.{entries_text, has_some}
use Rattle.grove_page.proofs.nodes.Listing.write_nodes.Given as goal

-- the text of the nodes so far, and whether there are any
abbrev pub invariant-loop-number : goal.invariant-loop-number
invariant-loop-number l =
    (l.line.items ≡ l.fn.line.items ++ entries_text l.self.rows l.self.records l.self.waits false (passing_below l.number
    (is_told l.self.rows l.part)))
    × (l.later ≡ has_some (passing_below l.number (is_told l.self.rows l.part)))
