use Rattle.std.proofs.Common.{◌≡◌, ◌∙◌, sym, ap, rules}
use Rattle.grove_page.specs.NodeLines.{is_told}
use Rattle.grove_page.proofs.NodeTexts.{one_told, none_told}
use Rattle.grove_page.proofs.nodes.Listing.write_nodes.Goals as goal
use Rattle.grove_page.proofs.nodes.Listing.write_nodes.Goals.{then-is_told+in_ok-write_comma+in_ok-write_node, else-is_told}

pub loop-number-preserved : goal.loop-number-preserved
loop-number-preserved c =
    let rows = c.args.self.now.rows in
    let test = is_told rows c.args.part.now in
    let tree : c.tree-tree.result.now ≡ rows = search rules in
    let tells : is_told rows c.args.part.now c.new-node.result ≡ c.is_told.result =
    sym (ap (λ rs. is_told rs c.args.part.now c.new-node.result) tree) ∙ sym c.is_told.ensures in
    elim c.if-is_told.branch [
      | then-is_told+in_ok-write_comma+in_ok-write_node w ↦
          let (text, some) = one_told rows c.args.self.now.records c.args.self.now.waits test c.loop-number.number
          c.new-node.result c.loop-number.later
          c.args.line.now.items c.loop-number.line.items w.write_comma.new.line.items w.write_node.new.line.items
          c.new-node.ensures
          (tells ∙ w.if-is_told.true) c.loop-number.invariant.1 c.loop-number.invariant.0
          w.in_ok-write_comma.ensures w.in_ok-write_node.ensures in
          (ap (λ line. line.items) w.line-is ∙ text, w.later-is ∙ some)
      | else-is_told w ↦
          let (text, some) = none_told rows c.args.self.now.records c.args.self.now.waits test c.loop-number.number
          c.new-node.result c.loop-number.later
          c.args.line.now.items c.loop-number.line.items c.new-node.ensures
          (tells ∙ w.if-is_told.false) c.loop-number.invariant.1 c.loop-number.invariant.0 in
          (ap (λ line. line.items) w.line-is ∙ text, w.later-is ∙ some)
    ]
