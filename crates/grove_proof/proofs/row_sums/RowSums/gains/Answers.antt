-- What the tables say of the row at hand.
use Rattle.std.proofs.Common.{◌≡◌, ◌≤◌, length, Some, arith}
use Rattle.std.specs.List.{slice_get}
use Rattle.grove_access.specs.Lists.{nodes_of, lengths_of}
use Rattle.grove_access.proofs.Lists.{nodes_length}
use Rattle.grove_proof.specs.Tables.{AreVisits}
use Rattle.grove_base.proofs.Lists.{read_at}
use Rattle.grove_proof.proofs.SummedRows.{node_in, visits_read, end_few, gain_step, rows_in_tree}
use Rattle.grove_proof.proofs.row_sums.RowSums.gains.Goals as goal

pub index-requires : goal.index-requires
index-requires c = grind (arith, node_in, read_at)

pub slots_before-requires : goal.slots_before-requires
slots_before-requires c =
    let there : slice_get c.args.self.now.rows.now c.loop-row.row-index ≡ Some c.row-item.result = read_at c.args.self.now.rows.now c.loop-row.row-index c.row-item.result (omega arith) c.row-item.is in
    let are : AreVisits (nodes_of c.args.self.now.list.now) (length (nodes_of c.args.self.now.list.now)) c.row-item.result.node c.index.result.now =
    visits_read (nodes_of c.args.self.now.list.now) c.args.self.now.tree.now c.args.self.now.visits.items c.row-item.result.node c.number.result c.index.result.now c.requires.visits_right
    (rows_in_tree c.args.self.now.tree.now (nodes_of c.args.self.now.list.now) c.args.self.now.rows.now c.requires.listed c.loop-row.row-index c.row-item.result there)
    c.number.ensures.is_it c.index.ensures in
    let few : c.index.result.now.end ≤ length (nodes_of c.args.self.now.list.now) = end_few (nodes_of c.args.self.now.list.now) (length (nodes_of c.args.self.now.list.now)) c.row-item.result.node c.index.result.now are in
    omega (arith, nodes_length c.args.self.now.list.now)

pub loop-row-preserved : goal.loop-row-preserved
loop-row-preserved c =
    let there : slice_get c.args.self.now.rows.now c.loop-row.row-index ≡ Some c.row-item.result = read_at c.args.self.now.rows.now c.loop-row.row-index c.row-item.result (omega arith) c.row-item.is in
    let are : AreVisits (nodes_of c.args.self.now.list.now) (length (nodes_of c.args.self.now.list.now)) c.row-item.result.node c.index.result.now =
    visits_read (nodes_of c.args.self.now.list.now) c.args.self.now.tree.now c.args.self.now.visits.items c.row-item.result.node c.number.result c.index.result.now c.requires.visits_right
    (rows_in_tree c.args.self.now.tree.now (nodes_of c.args.self.now.list.now) c.args.self.now.rows.now c.requires.listed c.loop-row.row-index c.row-item.result there)
    c.number.ensures.is_it c.index.ensures in
    gain_step (nodes_of c.args.self.now.list.now) (lengths_of c.args.self.now.list.now) c.args.self.now.rows.now c.loop-row.row-index c.loop-row.total c.slots_before.result c.row-item.result c.index.result.now
    c.loop-row.invariant there are c.slots_before.ensures.slots c.slots_before.ensures.few (omega arith)
