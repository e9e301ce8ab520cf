use Rattle.std.proofs.Common.{◌≡◌, ◌<◌, ℕ, List, Some, map, slice_get, take}
use Rattle.csv.specs.Records.{fields_of}
use Rattle.std.specs.List.{AllZip}
use Rattle.grove_table.specs.Tables.{IsLine}
use Rattle.grove_table.specs.Refusals.{IsFaultless}
use Rattle.grove_table.proofs.reading.lines_of.Given as goal

abbrev pub invariant-loop-place : goal.invariant-loop-place
invariant-loop-place l = record {
  read : AllZip IsLine (map fields_of (take l.place l.rows)) l.lines.items;
  kept : (before : ℕ) (fields : List (List ℕ)) → before < l.place
      → slice_get (map fields_of l.rows) before ≡ Some fields → IsFaultless fields;
}
