use Rattle.std.proofs.Common.{◌≡◌, ◌++◌, length, ◌∙◌, ap, arith}
use Rattle.grove_tree.specs.Weights.{unweighed}
use Rattle.grove_tree.proofs.SameNames.{unweighed_same}
use Rattle.grove_store.specs.StoreStates.{StoreState}
use Rattle.grove_page.proofs.SamePaths.{start_same}
use Rattle.grove_page.proofs.nodes.Listing.write_start.Goals as goal

pub start-requires : goal.start-requires
start-requires c =
    let same = c.self.invariant c.in-Some.paths c.in-Some.is ∙ ap (λ (s : StoreState). unweighed s.rows) c.self.view_is in
    let long : length c.in-Some.paths.now ≡ length c.args.self.now.rows = (unweighed_same _ _ same).0 in
    omega (arith, c.requires)

pub returns-in_ok-extend_from_slice-in-Some : goal.returns-in_ok-extend_from_slice-in-Some
returns-in_ok-extend_from_slice-in-Some c =
    let same = c.self.invariant c.in-Some.paths c.in-Some.is ∙ ap (λ (s : StoreState). unweighed s.rows) c.self.view_is in
    c.in_ok-extend_from_slice-in-Some.ensures.items ∙ ap (λ text. c.args.line.now.items ++ text)
    (c.start.ensures ∙ start_same c.in-Some.paths.now c.args.self.now.rows same c.args.node)
