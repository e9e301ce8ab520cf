use Rattle.std.proofs.Common.{refl, arith}
use Rattle.std.proofs.lemmas.Option.{slice_get_read}
use Rattle.grove_build.specs.Networks.{row_arcs, arcs_from}
use Rattle.grove_build.proofs.Pushes.{pieces_more, all_pushed}
use Rattle.grove_build.proofs.network.network_of.Goals as goal

pub push_row-requires-clause-bounds : goal.push_row-requires-clause-bounds
push_row-requires-clause-bounds c = grind (arith, slice_get_read)

pub loop-k-preserved : goal.loop-k-preserved
loop-k-preserved c =
    pieces_more (arcs_from _) (row_arcs _) (λ k row rows. refl) c.args.rows.now c.loop-k.k c.index-rows-k.result c.index-rows-k.result
    c.loop-k.arcs.items _ _ c.loop-k-test.true c.index-rows-k.is c.loop-k.invariant c.in_ok-push_row.ensures

pub loop-k-init : goal.loop-k-init
loop-k-init c = rw c.in_ok-arcs.ensures.items refl

pub returns-clause-arcs : goal.returns-clause-arcs
returns-clause-arcs c =
    all_pushed (arcs_from _ c.loop-k.k) refl c.args.rows.now c.loop-k.k c.loop-k.arcs.items _ c.loop-k-test.false c.loop-k.invariant
