use Rattle.std.proofs.Common.{◌≡◌, List, ap, sym, subst, ◌∙◌}
use Rattle.std.specs.Prelude.{All}
use Rattle.grove_tree.specs.Trees.{Rows}
use Rattle.grove_tree.specs.Weights.{unweighed}
use Rattle.grove_effects.specs.Snapshots.{Names, names_of, IsNamed}
use Rattle.grove_effects.specs.declared.snapshot.NodeName.{NodeName}
use Rattle.grove_data.proofs.Lengths.{names_put}
use Rattle.grove_data.proofs.Named.{names_fit}
use Rattle.grove_data.proofs.data.opening_of.Goals as goal

pub push_names-requires-clause-named : goal.push_names-requires-clause-named
push_names-requires-clause-named c =
    let is = c.tree.ensures.store in
    let named : names_of c.deref.result.now ≡ unweighed c.args.store.now.rows =
    ap (λ (l : List NodeName). names_of l) c.deref.ensures.value ∙ c.in_ok-names_of.ensures
    ∙ ap (λ (rows : Rows). unweighed rows) c.tree.ensures.rows in
    subst (λ (l : Names). All IsNamed l) (sym named) (names_fit c.args.store.now.rows is.tree is.limits).1

pub returns-clause-names : goal.returns-clause-names
returns-clause-names c =
    names_put c.deref.result.now c.new-names.result.items c.push_names.new.out.items _ c.new-names.ensures.items
    c.in_ok-push_names.ensures
    (ap (λ (l : List NodeName). names_of l) c.deref.ensures.value ∙ c.in_ok-names_of.ensures
    ∙ ap (λ (rows : Rows). unweighed rows) c.tree.ensures.rows)
