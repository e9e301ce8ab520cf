use Rattle.std.proofs.Common.{ℕ, ◌<◌, slice_index}
use Rattle.grove_gauge.specs.Scales.{most_of}
use Rattle.grove_gauge.proofs.scale.Scale.place_of.Given as goal

abbrev pub invariant-loop-place : goal.invariant-loop-place
invariant-loop-place l = (k : ℕ) → k < l.place → slice_index (most_of l.self) k < l.value
