-- The tables are what is asked of them.
use Rattle.std.proofs.Common.{◌≡◌, ℕ, ◌≤◌, length, sym, subst, arith}
use Rattle.grove_access.specs.Lists.{nodes_of}
use Rattle.grove_access.proofs.Lists.{nodes_length}
use Rattle.grove_proof.specs.Tables.{VisitsByNode}
use Rattle.grove_proof.proofs.SummedRows.{rows_in_tree}
use Rattle.grove_proof.proofs.row_sums.RowSums.new.Goals as goal

pub sums_by_node-requires-clause-within : goal.sums_by_node-requires-clause-within
sums_by_node-requires-clause-within c = rows_in_tree c.args.tree.now (nodes_of c.args.list.now) c.args.rows.now c.requires.listed

pub sums_by_node-requires-2-clause-within : goal.sums_by_node-requires-2-clause-within
sums_by_node-requires-2-clause-within c = rows_in_tree c.args.tree.now (nodes_of c.args.list.now) c.args.rows.now c.requires.listed

pub returns-clause-right : goal.returns-clause-right
returns-clause-right c = record {
  tree = c.requires.tree;
  fits = c.requires.fits;
  short = let few : length c.args.list.now ≤ 64 = c.in_ok-visits.ensures.short in let e : length (nodes_of c.args.list.now) ≡ length c.args.list.now = nodes_length c.args.list.now in omega arith;
  few = c.requires.few;
  listed = c.requires.listed;
  visits_right = subst (λ (n : ℕ). VisitsByNode c.args.tree.now (nodes_of c.args.list.now) n c.in_ok-visits.visits.items) (sym (nodes_length c.args.list.now)) c.in_ok-visits.ensures.visits;
  above_right = c.in_ok-above.ensures.sums;
  above_bounded = c.in_ok-above.ensures.bounded;
  held_right = c.in_ok-held.ensures.sums;
  held_bounded = c.in_ok-held.ensures.bounded;
}
