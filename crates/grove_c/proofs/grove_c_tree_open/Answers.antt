use Rattle.grove_c.proofs.grove_c_tree_open.Goals as goal

pub returns : goal.returns
returns c = c.open.ensures.tree c.args.document.now c.tree_opened.ensures
