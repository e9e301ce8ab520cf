-- Each goal is a step of the lemmas on what is above both nodes.
use Rattle.std.proofs.Common.{◌≡◌, ◌<◌, ◌≤◌, sym, ◌∙◌, arith}
use Rattle.grove_tree.proofs.Above.{parent_lt}
use Rattle.grove_proof.proofs.LowestCommon.{less_true, less_false, differs, agrees, has_a_parent, meet_right, meet_left, meet_end}
use Rattle.grove_proof.proofs.span.meet.Goals as goal

pub loop-right-smaller-in-Some : goal.loop-right-smaller-in-Some
loop-right-smaller-in-Some c = grind (arith, parent_lt)

pub loop-right-preserved-in-Some : goal.loop-right-preserved-in-Some
loop-right-preserved-in-Some c =
    meet_right c.args.tree.now c.args.first c.args.second c.loop-right.left c.loop-right.right c.in-Some.parent c.requires.tree c.loop-right.invariant
    (less_true c.loop-right.left c.loop-right.right c.lt.result c.lt.ensures c.if-lt.true) (sym c.parent.ensures ∙ c.in-Some.is)

pub unreachable-requires : goal.unreachable-requires
unreachable-requires c =
    let less : c.loop-right.left < c.loop-right.right = less_true c.loop-right.left c.loop-right.right c.lt.result c.lt.ensures c.if-lt.true in
    has_a_parent c.args.tree.now c.loop-right.right c.requires.tree c.loop-right.invariant.right_within (omega arith) (sym c.parent.ensures ∙ c.in-None.is)

pub loop-right-smaller : goal.loop-right-smaller
loop-right-smaller c = grind (arith, parent_lt)

pub loop-right-preserved : goal.loop-right-preserved
loop-right-preserved c =
    let le : c.loop-right.right ≤ c.loop-right.left = less_false c.loop-right.left c.loop-right.right c.lt.result c.lt.ensures c.if-lt.false in
    let ne : c.loop-right.left ≡ c.loop-right.right → ⊥ = differs c.loop-right.left c.loop-right.right c.ne.result c.ne.ensures c.loop-right-test.true in
    meet_left c.args.tree.now c.args.first c.args.second c.loop-right.left c.loop-right.right c.in-Some-parent.parent c.requires.tree c.loop-right.invariant (omega arith)
    (sym c.parent-else-lt.ensures ∙ c.in-Some-parent.is)

pub unreachable-requires-in-None-parent : goal.unreachable-requires-in-None-parent
unreachable-requires-in-None-parent c =
    let le : c.loop-right.right ≤ c.loop-right.left = less_false c.loop-right.left c.loop-right.right c.lt.result c.lt.ensures c.if-lt.false in
    let ne : c.loop-right.left ≡ c.loop-right.right → ⊥ = differs c.loop-right.left c.loop-right.right c.ne.result c.ne.ensures c.loop-right-test.true in
    has_a_parent c.args.tree.now c.loop-right.left c.requires.tree c.loop-right.invariant.left_within (omega arith) (sym c.parent-else-lt.ensures ∙ c.in-None-parent.is)

pub returns : goal.returns
returns c =
    meet_end c.args.tree.now c.args.first c.args.second c.loop-right.left c.loop-right.right c.loop-right.invariant
    (agrees c.loop-right.left c.loop-right.right c.ne.result c.ne.ensures c.loop-right-test.false)
