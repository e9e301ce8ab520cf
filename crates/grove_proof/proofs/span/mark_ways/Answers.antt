-- Each goal is a step of the lemmas on the accesses' ways.
use Rattle.std.proofs.Common.{◌≡◌, ℕ, length, sym, subst, arith}
use Rattle.grove_access.specs.Lists.{nodes_of}
use Rattle.grove_access.proofs.Lists.{node_at, nodes_length}
use Rattle.grove_proof.specs.Tables.{IsLowest}
use Rattle.grove_proof.proofs.ForcedMarks.{ways_step, ways_end}
use Rattle.grove_proof.proofs.span.mark_ways.Goals as goal

pub mark_way-requires-clause-within : goal.mark_way-requires-clause-within
mark_way-requires-clause-within c = c.requires.fits c.loop-access.access c.get.result.node (node_at c.args.list.now c.loop-access.access c.get.result c.get.ensures)

pub mark_way-requires-clause-above : goal.mark_way-requires-clause-above
mark_way-requires-clause-above c = grind (arith, node_at)

pub loop-access-preserved : goal.loop-access-preserved
loop-access-preserved c = grind (arith, node_at, nodes_length, ways_step)

pub returns-clause-complete : goal.returns-clause-complete
returns-clause-complete c =
    ways_end c.args.tree.now (nodes_of c.args.list.now) c.args.top c.loop-access.access c.loop-access.marks
    (subst (λ (n : ℕ). IsLowest c.args.tree.now (nodes_of c.args.list.now) n c.args.top) (sym (nodes_length c.args.list.now)) c.requires.lowest)
    c.loop-access.invariant (let e : length (nodes_of c.args.list.now) ≡ length c.args.list.now = nodes_length c.args.list.now in omega arith)
