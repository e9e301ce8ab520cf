use Rattle.grove_flow.specs.Checks.{AreMet}
use Rattle.grove_flow.proofs.checking.are_met.Given as goal

abbrev pub invariant-loop-v : goal.invariant-loop-v
invariant-loop-v l = AreMet l.needs l.into l.out l.v
