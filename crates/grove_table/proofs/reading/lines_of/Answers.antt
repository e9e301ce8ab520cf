use Rattle.std.proofs.Common.{◌≡◌, ◌≤◌, ◌∙◌, ◌∷◌, ◌++◌, [], ap, add-one, map, slice_get, Some, suc, take, rules}
use Rattle.std.proofs.Common.{arith, length}
use Rattle.std.proofs.lemmas.List.{map-append}
use Rattle.csv.specs.Records.{fields_of}
use Rattle.grove_base.proofs.Lists.{get_map, map_length, read_at, take_next}
use Rattle.std.proofs.lemmas.Slice.Zip.{all_zipped_more}
use Rattle.grove_table.specs.Tables.{IsLine}
use Rattle.grove_table.specs.Rows.{AreRowsRefused}
use Rattle.grove_table.specs.Refusals.{IsFaultless}
use Rattle.grove_table.proofs.LookedAt.{kept_more}
use Rattle.grove_table.proofs.TextRefusals.{all_faultless, row_refuses}
use Rattle.grove_table.proofs.reading.lines_of.Goals as goal

pub loop-place-preserved : goal.loop-place-preserved
loop-place-preserved c =
    let rows = c.args.rows.now in
    let row = c.index-rows-place.result in
    let at : slice_get rows c.loop-place.place ≡ Some row =
    read_at rows c.loop-place.place row c.loop-place-test.true c.index-rows-place.is in
    let step : map fields_of (take (suc c.loop-place.place) rows)
    ≡ map fields_of (take c.loop-place.place rows) ++ fields_of row ∷ [] =
    ap (map fields_of) (take_next rows c.loop-place.place row at)
    ∙ map-append fields_of (take c.loop-place.place rows) (row ∷ []) in
    record {
      read = rw (add-one, c.in_ok-push.ensures.items, step)
          (all_zipped_more IsLine _ _ _ _ c.loop-place.invariant.read c.in_ok-line.ensures.line);
      kept = rw add-one
          (kept_more IsFaultless (map fields_of rows) c.loop-place.place (fields_of row) c.loop-place.invariant.kept
          (get_map fields_of rows c.loop-place.place row at) (search rules));
    }

pub returns-in_err-line-clause-refused : goal.returns-in_err-line-clause-refused
returns-in_err-line-clause-refused c =
    let rows = c.args.rows.now in
    let row = c.index-rows-place.result in
    let at : slice_get rows c.loop-place.place ≡ Some row =
    read_at rows c.loop-place.place row c.loop-place-test.true c.index-rows-place.is in
    let why : AreRowsRefused (map fields_of rows) c.in_err-line.field-0.0 =
    row_refuses (map fields_of rows) c.loop-place.place (fields_of row) c.in_err-line.field-0.0
    c.loop-place.invariant.kept (get_map fields_of rows c.loop-place.place row at) (search rules) in
    search (rules, why)

pub returns-clause-faultless : goal.returns-clause-faultless
returns-clause-faultless c =
    let rows = c.args.rows.now in
    let same : length (map fields_of rows) ≡ length rows = map_length fields_of rows in
    let all : length rows ≤ c.loop-place.place = omega arith in
    all_faultless (map fields_of rows) c.loop-place.place c.loop-place.invariant.kept (omega (arith, same, all))
