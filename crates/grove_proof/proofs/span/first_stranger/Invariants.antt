-- The places so far agree.
use Rattle.std.proofs.Common.{◌≡◌, ℕ, ◌<◌}
use Rattle.std.specs.Prelude.{map}
use Rattle.std.specs.List.{slice_get}
use Rattle.grove_proof.specs.Flows.{node_of}
use Rattle.grove_proof.proofs.span.first_stranger.Given as goal

abbrev pub invariant-loop-place : goal.invariant-loop-place
invariant-loop-place l = (j : ℕ) → j < l.place → slice_get (map node_of l.rows) j ≡ slice_get l.span j
