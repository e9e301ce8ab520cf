use Rattle.std.proofs.Common.{◌≡◌, take}
use Rattle.grove_draw.proofs.picture.accesses_of.Given as goal

abbrev pub invariant-loop-number : goal.invariant-loop-number
invariant-loop-number l = l.accesses.items ≡ take l.number l.list
