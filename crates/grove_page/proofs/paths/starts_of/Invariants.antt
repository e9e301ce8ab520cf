use Rattle.std.proofs.Common.{map}
use Rattle.grove_page.specs.NodeTexts.{AreStarts}
use Rattle.grove_page.proofs.paths.starts_of.Given as goal

abbrev pub invariant-loop-number : goal.invariant-loop-number
invariant-loop-number l = AreStarts l.tree l.number (map (λ start. start.items) l.starts.items)
