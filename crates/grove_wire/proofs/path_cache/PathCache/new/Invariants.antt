use Rattle.std.proofs.Common.{◌≡◌, replicate, None}
use Rattle.grove_wire.proofs.path_cache.PathCache.new.Given as goal

-- none is made so far
abbrev pub invariant-loop : goal.invariant-loop
invariant-loop l = l.made.items ≡ replicate l.counter None
