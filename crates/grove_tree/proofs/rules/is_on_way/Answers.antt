use Rattle.std.proofs.Common.{suc, ◌+◌, ◌<◌, ◌≤◌, sym, arith, eq-eqb, eqb-true}
use Rattle.grove_tree.specs.Trees.{IsAbove}
use Rattle.grove_tree.specs.BuiltRows.{rows_of}
use Rattle.grove_tree.proofs.Above.{up_le_from, above_child, above_self, above_parent, above_top}
use Rattle.grove_tree.proofs.rules.is_on_way.Goals as goal

pub loop-at-smaller : goal.loop-at-smaller
loop-at-smaller c = grind (arith)

pub loop-at-preserved : goal.loop-at-preserved
loop-at-preserved c =
    let own = sym c.in-Some.ensures in
    let less : c.in-Some.parent < c.loop-at.at = c.requires.rising c.loop-at.at c.in-Some.parent c.loop-at.invariant.0 own in (
      omega arith,
      (
        (λ way. above_parent _ _ _ _ own (λ e. omega arith) (c.loop-at.invariant.1.0 way)),
        (λ way. c.loop-at.invariant.1.1 (above_child _ _ _ _ own way)),
      ),
    )

pub returns-in-None : goal.returns-in-None
returns-in-None c = (
  (λ e. absurd (cc)),
  (λ way.
      absurd (omega (arith, above_top _ _ _ (sym c.in-None.ensures) (c.loop-at.invariant.1.0 way)))),
)

pub returns : goal.returns
returns c = (
  (λ e.
      grind (arith, above_self, eqb-true)),
  (λ way.
      let at_way : IsAbove (rows_of c.args.rows.now) c.args.high c.loop-at.at = c.loop-at.invariant.1.0 way in
      let le : c.args.high + at_way.0 ≤ c.loop-at.at =
      up_le_from _ (suc c.args.low) (λ v p lt own. c.requires.rising v p (omega arith) own) at_way.0 c.loop-at.at c.args.high (omega arith) at_way.1 in
      eq-eqb _ _ (omega arith)),
)
