use Rattle.std.proofs.Common.{arith}
use Rattle.std.proofs.lemmas.Bool.{cases_lt}
use Rattle.std.proofs.lemmas.List.Sorted.{searched}
use Rattle.grove_build.proofs.places.gap_of.Goals as goal

pub unreachable-requires : goal.unreachable-requires
unreachable-requires c =
    let search = searched c.args.slots.now _ c.binary_search.result c.binary_search.ensures.position c.requires.rising in
    grind (arith, cases_lt)
