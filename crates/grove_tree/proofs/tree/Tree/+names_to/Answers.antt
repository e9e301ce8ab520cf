use Rattle.std.proofs.Common.{◌≡◌, ◌∷◌, [], Some, sym, ◌∙◌, subst, append_assoc, arith, string_bytes}
use Rattle.grove_tree.specs.Trees.{Rows, parent_of, name_of}
use Rattle.grove_tree.specs.Rules.{AreTreeRows}
use Rattle.grove_tree.proofs.Above.{parent_lt}
use Rattle.grove_tree.proofs.Names.{names_of, names_step}
use Rattle.grove_tree.proofs.OwnRows.{name_there}
use Rattle.grove_tree.proofs.tree.Tree.+names_to.Goals as goal

pub names_to-requires : goal.names_to-requires
names_to-requires t c = grind (arith, parent_lt)

pub returns-clause-names : goal.returns-clause-names
returns-clause-names t c =
    let tree = subst (λ (rows : Rows). AreTreeRows rows) c.self.view_is c.self.invariant.0 in
    let own : parent_of c.args.self.now c.args.node ≡ Some c.in-Some.parent = sym c.parent.ensures ∙ c.in-Some.is in
    let longer = names_step c.args.self.now tree.0 c.args.node c.in-Some.parent own in
    let named : name_of c.args.self.now c.args.node ≡ string_bytes c.index-row.result.now.name =
    name_there c.self.inside.rows.items c.args.self.now c.args.node _ _ c.self.view_is c.number.ensures.is_it c.index-row.ensures c.requires in
    rw (c.in_ok-push_str-2.ensures.bytes, c.in_ok-push_str.ensures.bytes, c.as_str.ensures.value, c.in_ok-names.ensures.names, longer, named)
    (append_assoc (names_of c.args.self.now c.in-Some.parent) (47 ∷ []) (string_bytes c.index-row.result.now.name))
