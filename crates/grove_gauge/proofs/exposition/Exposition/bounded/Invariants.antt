use Rattle.std.proofs.Common.{◌≡◌, ◌++◌}
use Rattle.std.specs.Prelude.{flat_map}
use Rattle.grove_base.specs.Numbers.{numbers_below}
use Rattle.grove_gauge.specs.Expositions.{bound_text}
use Rattle.grove_gauge.proofs.exposition.Exposition.bounded.Given as goal

abbrev pub invariant-loop-place : goal.invariant-loop-place
invariant-loop-place l = l.self ≡ l.fn.self ++ flat_map (bound_text l.family l.buckets) (numbers_below l.place)
