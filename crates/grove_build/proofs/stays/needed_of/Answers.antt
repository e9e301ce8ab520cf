use Rattle.std.proofs.Common.{refl, arith, length-set}
use Rattle.std.proofs.lemmas.Option.{slice_get_read}
use Rattle.std.proofs.lemmas.List.{length-replicate, get_or-replicate}
use Rattle.grove_build.proofs.Walks.{needed_set, needed_apart, needed_none}
use Rattle.grove_build.proofs.stays.needed_of.Goals as goal

pub loop-k-init : goal.loop-k-init
loop-k-init c = grind (arith, get_or-replicate, length-replicate)

pub index_mut-requires : goal.index_mut-requires
index_mut-requires c =
    let here = slice_get_read c.args.rows.now _ c.loop-k.k c.index-rows-k.result refl (omega arith) c.index-rows-k.is in
    omega (arith, c.requires.parents c.loop-k.k c.in-Some.parent c.index-rows-k.result here c.in-Some.is)

pub loop-k-preserved : goal.loop-k-preserved
loop-k-preserved c = grind (arith, length-set, needed_apart, needed_none, needed_set, slice_get_read)
