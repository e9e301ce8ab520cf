use Rattle.std.proofs.Common.{List, length}
use Rattle.serde_json.specs.Data.{Data}
use Rattle.grove_line.specs.ListReading.{IsReading}
use Rattle.grove_line.specs.TokenValues.{ItemsSoFar}
use Rattle.grove_line.proofs.list_read.read_inside.Given as goal

abbrev pub invariant-accesses : goal.invariant-accesses
invariant-accesses l = record {
  front : List Data;
  items : ItemsSoFar l.depth l.fn.reader l.reader front;
  reading : IsReading l.tree l.place front l.accesses;
}

abbrev pub decreases-accesses : goal.decreases-accesses
decreases-accesses l = length l.reader
