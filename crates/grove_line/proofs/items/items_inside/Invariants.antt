use Rattle.std.proofs.Common.{◌≡◌, ◌≤◌, List, length, vec_len}
use Rattle.serde_json.specs.Data.{Data}
use Rattle.grove_line.specs.ArrayItems.{outcome_of, Tally}
use Rattle.grove_line.specs.TokenValues.{ItemsSoFar}
use Rattle.grove_line.proofs.items.items_inside.Given as goal

abbrev pub invariant-items : goal.invariant-items
invariant-items g l = record {
  front : List Data;
  items : ItemsSoFar l.depth l.fn.reader l.reader front;
  tally : Tally (g.I.Item.reads l.fn.finder) l.most l.place front l.count (outcome_of l.all.items l.fault);
  few : vec_len l.all ≤ l.count;
  tree : l.finder ≡ l.fn.finder;
}

abbrev pub decreases-items : goal.decreases-items
decreases-items g l = length l.reader
