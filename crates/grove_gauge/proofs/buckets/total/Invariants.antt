use Rattle.std.proofs.Common.{◌≡◌, sum, take}
use Rattle.grove_gauge.specs.Shares.{capped}
use Rattle.grove_gauge.proofs.buckets.total.Given as goal

abbrev pub invariant-loop-count : goal.invariant-loop-count
invariant-loop-count l = l.all ≡ capped (sum (take l.count-index l.counts))
