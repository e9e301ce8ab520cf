use Rattle.std.proofs.Common.{arith, ap, ◌∙◌}
use Rattle.grove_tree.specs.Trees.{parent_of, name_of}
use Rattle.grove_data.proofs.Counting.{put_name}
use Rattle.grove_data.proofs.naming.names_of.Goals as goal

pub loop-number-preserved : goal.loop-number-preserved
loop-number-preserved c =
    put_name c.loop-number.names.items c.push.new.self.items _ c.args.tree.now c.loop-number.number
    (omega (arith, c.loop-number-test.true, c.len-number-end.ensures.number))
    (c.number_of-parent.ensures ∙ c.parent.ensures ∙ ap (parent_of c.args.tree.now) c.new-node.ensures)
    (c.in_ok-name.ensures ∙ ap (name_of c.args.tree.now) c.new-node.ensures) c.loop-number.invariant
    c.in_ok-push.ensures.items
