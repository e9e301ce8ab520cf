use Rattle.std.proofs.Common.{ℕ, ◌<◌}
use Rattle.std.specs.Prelude.{◌≤ℤ◌}
use Rattle.grove_flow.specs.Networks.{place}
use Rattle.grove_bench.proofs.networks.checking.are_at_most.Given as goal

abbrev pub invariant-loop-place : goal.invariant-loop-place
invariant-loop-place l = (v : ℕ) → v < l.place-index → place l.places v ≤ℤ l.top
