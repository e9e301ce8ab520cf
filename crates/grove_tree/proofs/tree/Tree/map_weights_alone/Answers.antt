use Rattle.std.proofs.Common.{◌≡◌, List, ◌∙◌, ap}
use Rattle.std.proofs.lemmas.List.{with_items_is}
use Rattle.grove_tree.specs.declared.row.Row.{Row}
use Rattle.grove_tree.specs.BuiltRows.{rows_of}
use Rattle.grove_tree.specs.Weights.{with_weights}
use Rattle.grove_tree.specs.WeighedRows.{changes_from}
use Rattle.grove_tree.proofs.SameTree.{weighed_tree, weighed_depths, weights_counted}
use Rattle.grove_tree.proofs.tree.Tree.map_weights_alone.Goals as goal

pub invariant_of-self : goal.invariant_of-self
invariant_of-self g c =
    let f = g.U.Rule.gives c.args.rule.now in
    let is : rows_of c.weigh_alone.new.rows ≡ with_weights f (rows_of c.self.inside.rows.items) =
    rw (← c.deref_mut.ensures.value) c.weigh_alone.ensures.rows in
    rw (with_items_is c.self.inside.rows c.weigh_alone.new.rows (c.weigh_alone.auto.rows ∙ c.deref_mut.ensures.len)) (
      weighed_tree f c.self.inside.rows.items c.weigh_alone.new.rows is (rw c.self.view_is c.requires.weights) c.self.invariant.0,
      weighed_depths f c.self.inside.rows.items c.weigh_alone.new.rows _ is c.self.invariant.1,
    )

pub returns-clause-count : goal.returns-clause-count
returns-clause-count g c =
    let f = g.U.Rule.gives c.args.rule.now in
    let same = c.deref_mut.ensures.value in
    weights_counted f c.args.self.now _ c.weigh_alone.result
    (ap rows_of (with_items_is c.self.inside.rows c.weigh_alone.new.rows (c.weigh_alone.auto.rows ∙ c.deref_mut.ensures.len)) ∙ c.weigh_alone.ensures.rows
    ∙ ap (λ (r : List Row). with_weights f (rows_of r)) same ∙ ap (with_weights f) c.self.view_is)
    (c.weigh_alone.ensures.count ∙ ap (λ (r : List Row). changes_from f 0 (rows_of r)) same ∙ ap (changes_from f 0) c.self.view_is)
