use Rattle.std.proofs.Common.{ℕ, ◌<◌}
use Rattle.grove_flow.specs.Networks.{IsModest, place}
use Rattle.grove_bench.proofs.networks.checking.are_modest.Given as goal

abbrev pub invariant-loop-place : goal.invariant-loop-place
invariant-loop-place l = (v : ℕ) → v < l.place-index → IsModest (place l.places v)
