use Rattle.std.proofs.Common.{arith}
use Rattle.std.proofs.lemmas.Option.{slice_get-get_or, slice_get_within, get_or_from_slice_get}
use Rattle.std.proofs.lemmas.Bool.{cases_lt}
use Rattle.std.proofs.lemmas.List.Sorted.{searched}
use Rattle.grove_span.proofs.ForcedRows.{find_at, find_nowhere, reads_rise}
use Rattle.grove_span.proofs.rows.place_of.Goals as goal

pub returns-then-numbers-count : goal.returns-then-numbers-count
returns-then-numbers-count c = grind (arith, find_at, slice_get-get_or)

pub returns-in-Ok : goal.returns-in-Ok
returns-in-Ok c = grind (arith, find_at, reads_rise, searched, slice_get-get_or)

pub returns-in-Err : goal.returns-in-Err
returns-in-Err c =
    let search = searched c.args.numbers.now _ c.binary_search.result c.binary_search.ensures.position (reads_rise c.args.numbers.now c.requires.rising) in
    grind (arith, cases_lt, find_nowhere, get_or_from_slice_get, slice_get_within)
