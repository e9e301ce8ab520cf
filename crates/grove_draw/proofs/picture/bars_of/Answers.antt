use Rattle.std.proofs.Common.{ap}
use Rattle.grove_access.specs.Lists.{lengths_of}
use Rattle.grove_draw.proofs.BarsBelow.{found_next, none_next}
use Rattle.grove_draw.proofs.picture.bars_of.Goals.{in-Some+in_ok-push, in_default}
use Rattle.grove_draw.proofs.picture.bars_of.Goals as goal

pub loop-number-preserved : goal.loop-number-preserved
loop-number-preserved c = elim c.match-branch-2.branch [
  | in-Some+in_ok-push w ↦
      rw w.bars-is (found_next c.args.tree.now (lengths_of c.args.list.now) c.args.plan.now c.loop-number.number c.new.result c.loop-number.bars.items w.push.new.self.items
      c.in_ok-bar.field-0 w.in-Some.bar c.loop-number.invariant c.new.ensures c.in_ok-bar.ensures.locked c.in_ok-bar.ensures.node c.in_ok-bar.ensures.bar w.in-Some.is w.in_ok-push.ensures.items)
  | in_default w ↦
      none_next c.args.tree.now (lengths_of c.args.list.now) c.args.plan.now c.loop-number.number c.new.result c.loop-number.bars.items c.match-branch-2.bars.items
      c.in_ok-bar.field-0 c.loop-number.invariant c.new.ensures c.in_ok-bar.ensures.locked w.in_default.is (ap (λ v. v.items) w.bars-is)
]
