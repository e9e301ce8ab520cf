use Rattle.std.proofs.Common.{◌≡◌, ◌<◌, ◌∷◌, ◌++◌, [], ℕ, List, Some, map}
use Rattle.csv.specs.Reading.{Reached, Ready, source_of, strip_bom}
use Rattle.csv.specs.Records.{fields_of}
use Rattle.csv.specs.declared.parser.State.TheVariants as st
use Rattle.csv.specs.declared.reader.Trim.TheVariants as trim
use Rattle.grove_table.specs.Confirming.{known, table_config}
use Rattle.grove_table.proofs.rows.records_in.Given as goal

abbrev pub invariant-loop-row : goal.invariant-loop-row
invariant-loop-row l = (l.row-iterator.rdr.trim ≡ trim.None) × Ready l.row-iterator.rdr × (0 < l.row-iterator.left)
    × (l.row-iterator.rdr.config ≡ table_config) × (y : List ℕ) × (source_of known l.row-iterator.rdr ≡ Some y)
    × Reached table_config st.StartRecord (strip_bom (l.fn.text ++ 10 ∷ [])) (map fields_of l.rows.items)
    l.row-iterator.rdr.state y
