use Rattle.std.proofs.Common.{◌≡◌, take}
use Rattle.grove_tree.specs.Weights.{unweighed}
use Rattle.grove_tree.specs.BuiltRows.{rows_of}
use Rattle.grove_tree.proofs.likeness.have_same_names.Given as goal

abbrev pub invariant-loop-place : goal.invariant-loop-place
invariant-loop-place l = unweighed (rows_of (take l.place l.rows)) ≡ unweighed (rows_of (take l.place l.others))
