use Rattle.std.proofs.Common.{[], ap, ◌∙◌}
use Rattle.grove_data.specs.Parts.{last_name}
use Rattle.grove_data.proofs.Counting.{name_made}
use Rattle.grove_data.proofs.Named.{path_ends}
use Rattle.grove_data.proofs.naming.name_of.Goals as goal

pub returns : goal.returns
returns c =
    name_made c.behind_slashes.result _ _ (ap (last_name []) (c.deref.ensures ∙ c.in_ok-path.ensures.path)
    ∙ path_ends c.args.tree.now c.requires.tree.0 c.requires.tree.1 c.args.node c.requires.within)
    c.behind_slashes.ensures
