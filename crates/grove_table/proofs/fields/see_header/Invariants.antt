use Rattle.std.proofs.Common.{ℕ, ◌<◌}
use Rattle.csv.specs.Records.{fields_of}
use Rattle.grove_table.specs.Rows.{IsNamedAt}
use Rattle.grove_table.proofs.fields.see_header.Given as goal

abbrev pub invariant-loop-place : goal.invariant-loop-place
invariant-loop-place l = (place : ℕ) → place < l.place → IsNamedAt (fields_of l.row) place
