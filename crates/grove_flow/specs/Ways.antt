-- For the proofs alone (of `latest`): the order in which a sweep looks at the arcs.
use Rattle.std.specs.Prelude.{ℕ, ◌-◌}
use Rattle.grove_flow.specs.declared.settling.Way.{Way}
use Rattle.grove_flow.specs.declared.settling.Way.TheVariants.{Forward, Backward}

-- the arc of n that comes after k others
abbrev pub arc_on : Way → ℕ → ℕ → ℕ
arc_on Forward k n = k
arc_on Backward k n = n - 1 - k
