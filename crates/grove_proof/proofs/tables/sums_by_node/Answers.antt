-- Each goal is a step of the lemmas on the sums so far.
use Rattle.std.proofs.Common.{◌≡◌, ◌<◌, length, Some, sym, ◌∙◌, arith}
use Rattle.std.specs.List.{slice_get}
use Rattle.grove_tree.proofs.Above.{parent_lt}
use Rattle.grove_base.proofs.Lists.{read_at}
use Rattle.grove_proof.proofs.TablesByNode.{sums_step, sums_skip}
use Rattle.grove_proof.proofs.tables.sums_by_node.Goals as goal
use Rattle.grove_proof.proofs.tables.sums_by_node.Goals.{in-Some, in_default}

pub index_mut-requires : goal.index_mut-requires
index_mut-requires c = grind (arith, parent_lt, read_at)

pub overflow_add-index_mut : goal.overflow_add-index_mut
overflow_add-index_mut c = grind (arith, parent_lt, read_at)

pub loop-row-preserved : goal.loop-row-preserved
loop-row-preserved c =
    let there : slice_get c.args.rows.now c.loop-row.row-index ≡ Some c.row-item.result = read_at c.args.rows.now c.loop-row.row-index c.row-item.result (omega arith) c.row-item.is in
    let within : c.row-item.result.node < length c.args.tree.now = c.requires.within c.loop-row.row-index c.row-item.result there in
    let size : length c.loop-row.table.items ≡ length c.args.tree.now = c.loop-row.invariant.size in
    elim c.match-parent.branch [
      | in-Some w ↦ grind (arith, parent_lt, read_at, sums_step)
      | in_default w ↦ rw w.table-is
          (sums_skip c.args.tree.now c.args.amount c.args.rows.now c.loop-row.row-index c.loop-row.table.items c.row-item.result c.loop-row.invariant there
          (sym c.parent.ensures ∙ w.in_default.is))
    ]
