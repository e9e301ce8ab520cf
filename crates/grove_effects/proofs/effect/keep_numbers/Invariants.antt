use Rattle.std.proofs.Common.{ℕ, ◌<◌, get_or}
use Rattle.grove_effects.proofs.Putting.{AreKept}
use Rattle.grove_effects.proofs.effect.keep_numbers.Given as goal

abbrev pub invariant-loop-place : goal.invariant-loop-place
invariant-loop-place g l =
    AreKept l.fn.out.items l.first l.fn.kept l.place l.out.items l.kept
    × ((place : ℕ) → place < l.place → goal.F-post g l.number place (get_or l.kept place 0))
