use Rattle.std.proofs.Common.{◌≡◌, ◌∙◌}
use Rattle.grove_tree.specs.Paths.{path_of}
use Rattle.grove_wire.proofs.Slashes.{name_after, slash_there}
use Rattle.grove_wire.proofs.tree_values.name_of.Goals as goal

pub returns-in_ok-from_str-in-Some : goal.returns-in_ok-from_str-in-Some
returns-in_ok-from_str-in-Some c =
    let rows = c.args.tree.now in
    let is : c.as_str.result.now ≡ path_of rows c.args.node = cc (c.as_str.ensures.value, c.in_ok-path.ensures.path) in
    let split = c.in-Some.ensures.cases in
    c.in_ok-from_str-in-Some.ensures.ok
    ∙ name_after rows c.requires.rows.0 c.requires.rows.1 c.args.node c.requires.node c.as_str.result.now is c.in-Some._above.now c.in-Some.name.now split.0 split.1 split.2 split.3 split.4

pub returns-in-None : goal.returns-in-None
returns-in-None c =
    let rows = c.args.tree.now in
    let is : c.as_str.result.now ≡ path_of rows c.args.node = cc (c.as_str.ensures.value, c.in_ok-path.ensures.path) in
    absurd (slash_there rows c.requires.rows.0 c.requires.rows.1 c.args.node c.requires.node c.as_str.result.now is c.in-None.ensures.cases)
