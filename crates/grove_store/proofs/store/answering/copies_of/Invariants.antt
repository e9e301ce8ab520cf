use Rattle.std.proofs.Common.{◌≡◌, map, take}
use Rattle.grove_store.proofs.store.answering.copies_of.Given as goal

abbrev pub invariant-loop-line : goal.invariant-loop-line
invariant-loop-line l = map (λ asked. asked.line) l.copies.items ≡ map (λ line. line.now) (take l.line-index l.lines)
