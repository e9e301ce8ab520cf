use Rattle.grove_flow.proofs.Sending.{AreSummed}
use Rattle.grove_flow.proofs.checking.are_lawful.Given as goal

abbrev pub invariant-loop-i : goal.invariant-loop-i
invariant-loop-i l = AreSummed l.arcs l.amounts l.places l.most l.into l.out l.i
