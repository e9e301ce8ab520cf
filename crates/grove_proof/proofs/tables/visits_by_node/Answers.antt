-- Each goal is a step of the lemmas on the visits so far.
use Rattle.std.proofs.Common.{◌≡◌, ℕ, ◌+◌, length, ◌∙◌, ap, subst, arith, refl}
use Rattle.std.proofs.Math.ListN.{replicate}
use Rattle.grove_access.specs.Lists.{nodes_of}
use Rattle.grove_access.proofs.Lists.{node_at}
use Rattle.grove_proof.specs.Tables.{VisitsByNode}
use Rattle.grove_proof.proofs.TablesByNode.{read_same, first_kept, first_made, visits_start, visits_step}
use Rattle.grove_proof.proofs.tables.visits_by_node.Goals as goal

pub loop-access-init : goal.loop-access-init
loop-access-init c =
    let first : c.in_ok-table.table.items ≡ replicate c.len.result (record { first = 0; end = 0 }) = c.in_ok-table.ensures.items_if_clones_equal (λ y is. is) in
    let all : c.in_ok-table.table.items ≡ replicate (length c.args.tree.now) (record { first = 0; end = 0 }) = first ∙ ap (λ (n : ℕ). replicate n (record { first = 0; end = 0 })) c.len.ensures.number in
    rw all (visits_start c.args.tree.now (nodes_of c.args.list.now))

pub index_mut-visits-requires : goal.index_mut-visits-requires
index_mut-visits-requires c = grind (arith, node_at)

pub loop-access-preserved : goal.loop-access-preserved
loop-access-preserved c = rw c.number.ensures.is_it
    (visits_step c.args.tree.now (nodes_of c.args.list.now) c.loop-access.access c.get.result.node c.loop-access.table.items
    (record { first = c.if-visits-eq0.visits.first; end = c.loop-access.access + 1 }) c.requires.fits c.loop-access.invariant
    (node_at c.args.list.now c.loop-access.access c.get.result c.get.ensures)
    (λ old there.
    grind (arith, first_kept, first_made, read_same))
    refl)

pub returns-clause-visits : goal.returns-clause-visits
returns-clause-visits c =
    let e : c.loop-access.access ≡ length c.args.list.now = omega arith in
    subst (λ (n : ℕ). VisitsByNode c.args.tree.now (nodes_of c.args.list.now) n c.loop-access.table.items) e c.loop-access.invariant.at
