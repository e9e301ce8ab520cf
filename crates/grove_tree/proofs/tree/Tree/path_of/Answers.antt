use Rattle.grove_tree.proofs.UniquePaths.{path_found}
use Rattle.grove_tree.proofs.tree.Tree.path_of.Goals as goal

pub returns-clause-found : goal.returns-clause-found
returns-clause-found c = path_found c.args.self.now c.names_to.ensures.tree.0 c.names_to.ensures.tree.1 c.args.node c.requires
