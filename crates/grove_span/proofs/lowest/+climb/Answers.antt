use Rattle.std.proofs.Common.{◌≡◌, ℕ, None, sym, ◌∙◌, subst, arith}
use Rattle.std.proofs.lemmas.Bool.{both_ways}
use Rattle.grove_tree.specs.Trees.{IsAbove, parent_of}
use Rattle.grove_tree.proofs.Above.{parent_lt, above_child, above_parent}
use Rattle.grove_span.proofs.LowestCommon.{top_above}
use Rattle.grove_span.proofs.lowest.+climb.Goals as goal

pub climb-requires : goal.climb-requires
climb-requires t c = grind (arith, parent_lt)

pub unreachable-requires : goal.unreachable-requires
unreachable-requires t c =
    let none : parent_of c.args.tree.now c.args.from ≡ None = sym c.parent.ensures ∙ c.in-None.is in
    both_ways c.is_above.result c.if-is_above.false
    (c.is_above.ensures.1 (top_above c.args.tree.now c.requires.tree c.args.from c.args.target c.requires.from c.requires.target none))

pub returns-clause-from : goal.returns-clause-from
returns-clause-from t c =
    above_child c.args.tree.now c.climb.result c.args.from c.in-Some.parent (sym c.parent.ensures ∙ c.in-Some.is) c.climb.ensures.from

pub returns-clause-lowest : goal.returns-clause-lowest
returns-clause-lowest t c = λ node over_from over_target.
    c.climb.ensures.lowest node
    (above_parent c.args.tree.now node c.args.from c.in-Some.parent (sym c.parent.ensures ∙ c.in-Some.is)
    (λ same. both_ways c.is_above.result c.if-is_above.false
    (c.is_above.ensures.1 (subst (λ (n : ℕ). IsAbove c.args.tree.now n c.args.target) same over_target))) over_from)
    over_target
