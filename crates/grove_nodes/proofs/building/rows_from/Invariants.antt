use Rattle.std.proofs.Common.{◌≡◌, length, take}
use Rattle.grove_tree.specs.BuiltRows.{rows_of}
use Rattle.grove_nodes.specs.Building.{AreNamedByNumber}
use Rattle.grove_nodes.specs.Shapes.{HaveShape}
use Rattle.grove_nodes.proofs.building.rows_from.Given as goal

abbrev pub invariant-loop-place : goal.invariant-loop-place
invariant-loop-place l = record {
  shape : HaveShape (take l.place l.parents) (take l.place l.weights) (rows_of l.rows.items);
  named : AreNamedByNumber (rows_of l.rows.items);
  many : length (rows_of l.rows.items) ≡ l.place;
}
