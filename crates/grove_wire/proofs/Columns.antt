-- Rows read in turn into two lists, one of rows and one of records.
use Rattle.std.proofs.Common.{◌≡◌, ℕ, ◌+◌, ◌<◌, ◌≤◌, List, [], ◌∷◌, ◌++◌, length, get_or, cond, refl, ap, sym}
use Rattle.std.proofs.Common.{append_assoc, append-nil}
use Rattle.std.specs.Prelude.{Result, Ok, Err, ℤ, map}
use Rattle.std.proofs.lemmas.Bool.{le-ltb}
use Rattle.serde_json.specs.Data.{Data}
use Rattle.serde_json.specs.View.{view}
use Rattle.serde_json.specs.declared.value.Value.{Value}
use Rattle.grove_base.proofs.Lists.{map_length}
use Rattle.grove_tree.specs.Trees.{Rows, NodeRow}
use Rattle.grove_wire.specs.declared.fault.WireFault.{WireFault}
use Rattle.grove_wire.specs.declared.fault.WireFault.TheVariants.{Limit}
use Rattle.grove_wire.specs.declared.place.Part.TheVariants as part
use Rattle.grove_wire.specs.Outcomes.{◌>>=◌, each_from}
use Rattle.grove_wire.specs.Places.{whole_of}
use Rattle.grove_wire.specs.Reading.{columns_of}
use Rattle.grove_wire.proofs.Each.{rest_read, rest_stops, rest_ends, rest_goes}
use Rattle.grove_wire.proofs.Turns.{row_in}

abbrev pub rows_in : List (NodeRow × ℤ) → Rows
rows_in rows = map (λ row. row.0) rows

abbrev pub records_in : List (NodeRow × ℤ) → List ℤ
records_in rows = map (λ row. row.1) rows

-- rows and records that were read before, and then those of the rest
abbrev pub with_columns : Rows → List ℤ → Result (List (NodeRow × ℤ)) WireFault → Result (Rows × List ℤ) WireFault
with_columns rows records rest = rest >>= λ others. Ok (rows ++ rows_in others, records ++ records_in others)

-- one more row at the ends is one more before the rest
with_columns-more : (rows : Rows) (records : List ℤ) (x : NodeRow × ℤ) (rest : Result (List (NodeRow × ℤ)) WireFault)
    → with_columns rows records (rest >>= λ others. Ok (x ∷ others)) ≡ with_columns (rows ++ x.0 ∷ []) (records ++ x.1 ∷ []) rest
with_columns-more rows records x (Ok others) = rw (append_assoc rows (x.0 ∷ []) (rows_in others), append_assoc records (x.1 ∷ []) (records_in others)) refl
with_columns-more rows records x (Err fault) = refl

-- before the first row the rest are all, of which there are few enough
pub columns_begin : (values : List Value) → length values ≤ 4294967295
    → with_columns [] [] (rest_read row_in values 0) ≡ columns_of (map view values)
columns_begin values few =
    let ds : List Data = map view values in
    let within : length ds ≤ 4294967295 = rw (map_length view values) few in
    let many : WireFault = Limit (whole_of part.Nodes) in
    ap (λ test. cond test (Err many) (each_from row_in 0 ds) >>= λ rows. Ok (rows_in rows, records_in rows))
    (sym (le-ltb 4294967295 (length ds) within))

-- what a loop has read so far, and then the rest
module _ (rows : Rows) (records : List ℤ) (values : List Value) (at : ℕ) where
  pub columns_stop : (value : Value) (fault : WireFault) → at < length values → value ≡ get_or values at value
      → row_in at (view value) ≡ Err fault
      → with_columns rows records (rest_read row_in values at) ≡ Err fault
  columns_stop value fault within is refused = rw (rest_stops row_in values at value fault within is refused) refl

  pub columns_end : length values ≤ at → with_columns rows records (rest_read row_in values at) ≡ Ok (rows, records)
  columns_end beyond = rw (rest_ends row_in values at beyond, append-nil rows, append-nil records) refl

  pub columns_go : (value : Value) (x : NodeRow × ℤ) → at < length values → value ≡ get_or values at value
      → row_in at (view value) ≡ Ok x
      → with_columns rows records (rest_read row_in values at)
      ≡ with_columns (rows ++ x.0 ∷ []) (records ++ x.1 ∷ []) (rest_read row_in values (at + 1))
  columns_go value x within is told =
      rw (rest_goes row_in values at value x within is told)
      (with_columns-more rows records x (rest_read row_in values (at + 1)))
