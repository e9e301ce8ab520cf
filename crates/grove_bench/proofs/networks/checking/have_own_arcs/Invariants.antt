use Rattle.grove_flow.specs.Networks.{HasOwnArcs}
use Rattle.grove_bench.proofs.networks.checking.have_own_arcs.Given as goal

abbrev pub invariant-loop-k : goal.invariant-loop-k
invariant-loop-k l = HasOwnArcs l.k l.arcs
