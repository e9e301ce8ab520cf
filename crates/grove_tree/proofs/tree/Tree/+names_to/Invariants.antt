use Rattle.grove_tree.proofs.tree.Tree.+names_to.Given as goal

abbrev pub decreases-names_to : goal.decreases-names_to
decreases-names_to l = l.node
