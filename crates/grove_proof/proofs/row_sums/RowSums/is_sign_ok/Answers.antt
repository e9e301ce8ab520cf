-- What the tables say of the row at the place.
use Rattle.std.proofs.Common.{◌≡◌, get_or, ◌∙◌, ap, arith}
use Rattle.std.proofs.lemmas.Option.{slice_get-get_or, get_or_from_slice_get}
use Rattle.grove_access.specs.Lists.{nodes_of}
use Rattle.grove_proof.specs.declared.flow.FlowRow.{FlowRow}
use Rattle.grove_proof.proofs.SummedRows.{node_in, visits_read, sign_made, rows_in_tree}
use Rattle.grove_proof.proofs.row_sums.RowSums.is_sign_ok.Goals as goal

pub index-visits-requires : goal.index-visits-requires
index-visits-requires c = grind (arith, node_in, slice_get-get_or)

pub returns : goal.returns
returns c = λ row there.
    let e : get_or c.args.self.now.rows.now c.args.place c.index-self-place.result ≡ row = get_or_from_slice_get c.args.self.now.rows.now c.args.place row c.index-self-place.result there in
    c.are_signs_ok.ensures ∙ sign_made c.args.self.now.tree.now (nodes_of c.args.self.now.list.now) c.args.self.now.rows.now
    (get_or c.args.self.now.rows.now c.args.place c.index-self-place.result) row c.args.place c.index-visits.result.now
    c.requires.right.tree c.requires.right.fits c.requires.right.listed there e
    (visits_read (nodes_of c.args.self.now.list.now) c.args.self.now.tree.now c.args.self.now.visits.items row.node c.number.result c.index-visits.result.now c.requires.right.visits_right
    (rows_in_tree c.args.self.now.tree.now (nodes_of c.args.self.now.list.now) c.args.self.now.rows.now c.requires.right.listed c.args.place row there)
    (c.number.ensures.is_it ∙ ap (λ (r : FlowRow). r.node) e) c.index-visits.ensures)
