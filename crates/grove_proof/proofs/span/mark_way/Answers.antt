-- Each goal is a step of the lemmas on a marked way.
use Rattle.std.proofs.Common.{sym, ◌∙◌}
use Rattle.grove_tree.proofs.Above.{parent_lt}
use Rattle.grove_proof.proofs.LowestCommon.{differs, agrees}
use Rattle.grove_proof.proofs.ForcedMarks.{way_start, way_step, way_end, way_goes_on}
use Rattle.grove_proof.proofs.span.mark_way.Goals as goal

pub loop-top-init : goal.loop-top-init
loop-top-init c = way_start c.args.tree.now c.args.top c.args.from c.args.marks.now c.requires.tree c.requires.size c.requires.within c.requires.above

pub loop-top-smaller : goal.loop-top-smaller
loop-top-smaller c = parent_lt c.args.tree.now c.requires.tree c.loop-top.at c.in-Some.parent (sym c.parent.ensures ∙ c.in-Some.is)

pub loop-top-preserved : goal.loop-top-preserved
loop-top-preserved c =
    rw c.number.ensures.is_it
    (way_step c.args.tree.now c.args.top c.args.from c.loop-top.at c.in-Some.parent c.args.marks.now c.loop-top.marks c.requires.tree c.loop-top.invariant
    (differs c.loop-top.at c.args.top c.ne.result c.ne.ensures c.loop-top-test.true) (sym c.parent.ensures ∙ c.in-Some.is))

pub unreachable-requires : goal.unreachable-requires
unreachable-requires c =
    way_goes_on c.args.tree.now c.args.top c.args.from c.loop-top.at c.args.marks.now c.loop-top.marks c.loop-top.invariant
    (differs c.loop-top.at c.args.top c.ne.result c.ne.ensures c.loop-top-test.true) (sym c.parent.ensures ∙ c.in-None.is)

pub returns : goal.returns
returns c =
    rw c.number-2.ensures.is_it
    (way_end c.args.tree.now c.args.top c.args.from c.loop-top.at c.args.marks.now c.loop-top.marks c.requires.tree c.loop-top.invariant
    (agrees c.loop-top.at c.args.top c.ne.result c.ne.ensures c.loop-top-test.false))
