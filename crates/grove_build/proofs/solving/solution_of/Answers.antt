use Rattle.std.proofs.Common.{arith}
use Rattle.grove_access.specs.Lists.{nodes_of, lengths_of}
use Rattle.grove_build.proofs.Asked.{nodes_few, end_slots, is_network, is_start}
use Rattle.grove_build.proofs.solving.solution_of.Goals as goal

pub is_solution-requires : goal.is_solution-requires
is_solution-requires c =
    rw (c.requires.needs, c.requires.arcs) record {
      arcs = (is_network c.args.tree.now (nodes_of c.args.list.now) (lengths_of c.args.list.now) c.args.rows.now c.requires.span
          c.len-nodes.ensures.limits (nodes_few c.args.list.now c.len-accesses.ensures.few)).arcs_of;
    }

pub solve-requires-clause-network : goal.solve-requires-clause-network
solve-requires-clause-network c = grind (arith, is_network, nodes_few)

pub solve-requires-clause-start : goal.solve-requires-clause-start
solve-requires-clause-start c = grind (arith, end_slots, is_start, nodes_few)
