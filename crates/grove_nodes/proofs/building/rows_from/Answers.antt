use Rattle.std.proofs.Common.{arith}
use Rattle.grove_nodes.proofs.BuiltShapes.{next_shape, next_names, next_many}
use Rattle.grove_nodes.proofs.building.rows_from.Goals as goal

pub loop-place-preserved : goal.loop-place-preserved
loop-place-preserved c =
    let parents = c.args.parents.now in
    let weights = c.args.weights.now in
    let place = c.loop-place.place in
    let rows = c.loop-place.rows.items in
    let row = c.in_ok-row_from.field-0 in
    let after = c.push.new.self.items in
    let before = c.loop-place.invariant in
    let made = c.in_ok-row_from.ensures in
    let pushed = c.in_ok-push.ensures.items in record {
      shape = next_shape parents weights place rows row after before.many made pushed before.shape (omega arith)
          (omega arith);
      named = next_names parents weights place rows row after before.many made pushed before.named;
      many = next_many parents weights place rows row after before.many made pushed;
    }
