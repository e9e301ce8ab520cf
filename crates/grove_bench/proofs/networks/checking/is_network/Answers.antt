use Rattle.std.proofs.Common.{◌/◌, length, arith, rules}
use Rattle.grove_bench.proofs.networks.checking.is_network.Goals as goal

pub returns : goal.returns
returns c own =
    record {
      rows = length c.args.needs.now / 2;
      size = omega (arith, c.if-count-eq0.false);
      weights = c.have_weights.ensures c.if-not-have_weights.false;
      base = search rules;
      arcs_of = c.are_arcs.ensures c.if-not-are_arcs.false;
      own = c.have_own_arcs.ensures own;
    }
