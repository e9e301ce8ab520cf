use Rattle.std.proofs.Common.{◌≡◌, ◌<◌, ℕ, length, slice_index}
use Rattle.grove_flow.specs.Networks.{place}
use Rattle.grove_build.specs.Networks.{IsGap}
use Rattle.grove_build.proofs.places.gaps_of.Given as goal

abbrev pub invariant-loop-place : goal.invariant-loop-place
invariant-loop-place l = record {
  size : length l.gaps.items ≡ l.place-index;
  gaps : (v : ℕ) → v < l.place-index → IsGap l.slots (place l.places v) (slice_index l.gaps.items v);
}
