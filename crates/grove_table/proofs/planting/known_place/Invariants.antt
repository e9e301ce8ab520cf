use Rattle.std.proofs.Common.{◌≡◌, ◌<◌, ℕ, Some, slice_get}
use Rattle.grove_table.specs.declared.planting.Sprout.{Sprout}
use Rattle.grove_table.proofs.planting.known_place.Given as goal

abbrev pub invariant-loop-place : goal.invariant-loop-place
invariant-loop-place l = (before : ℕ) (sprout : Sprout) → before < l.place → slice_get l.sprouts before ≡ Some sprout
    → sprout.path.now ≡ l.path → ⊥
