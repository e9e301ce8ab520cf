use Rattle.std.proofs.Common.{None, sym, ◌∙◌, ap, arith}
use Rattle.grove_tree.specs.Paths.{or_slash}
use Rattle.std.proofs.lemmas.Option.{IfSome_then}
use Rattle.grove_tree.proofs.Paths.{node_found, root_names, path_names, names_path, path_some}
use Rattle.grove_tree.proofs.tree.Tree.find.Goals as goal

pub returns-in-empty-clause-node : goal.returns-in-empty-clause-node
returns-in-empty-clause-node c = node_found c.args.self.now c.args.path.now None tt (λ node within is. absurd (path_some _ (is ∙ c.in-empty.is)))

pub returns-in-text-clause-only : goal.returns-in-text-clause-only
returns-in-text-clause-only c = grind (arith, root_names)

pub returns-in-text-clause-node : goal.returns-in-text-clause-node
returns-in-text-clause-node c = node_found c.args.self.now c.args.path.now c.find_names.result
    (IfSome_then c.find_names.result c.find_names.ensures.found
    (λ node found. (found.0, ap or_slash found.1 ∙ sym c.in-text.is))) (returns-in-text-clause-only c)

pub returns-in_default-clause-node : goal.returns-in_default-clause-node
returns-in_default-clause-node c = node_found c.args.self.now c.args.path.now c.find_names-in_default.result
    (IfSome_then c.find_names-in_default.result c.find_names-in_default.ensures.found
    (λ node found. (found.0, names_path c.args.self.now c.args.path.now node c.in_default.not-empty (found.1 ∙ c.as_bytes.ensures.value))))
    (λ node within is. c.find_names-in_default.ensures.only node within (path_names c.args.self.now c.args.path.now node c.in_default.not-text is ∙ sym c.as_bytes.ensures.value))
