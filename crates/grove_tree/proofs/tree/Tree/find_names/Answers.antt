use Rattle.std.proofs.Common.{◌≡◌, ◌∙◌, ap, subst, arith}
use Rattle.grove_tree.specs.Trees.{Rows}
use Rattle.grove_tree.specs.Rules.{AreTreeRows}
use Rattle.grove_tree.specs.BuiltRows.{rows_of}
use Rattle.grove_tree.proofs.PathParts.{is_nil, not_nil}
use Rattle.grove_tree.proofs.PathDescent.{finding_root, finding_child, finding_stuck, finding_end}
use Rattle.grove_tree.proofs.tree.Tree.find_names.Goals as goal

pub loop-rest-init : goal.loop-rest-init
loop-rest-init c =
    let tree = subst (λ (rows : Rows). AreTreeRows rows) c.self.view_is c.self.invariant.0 in
    finding_root c.args.self.now c.args.names.now tree.0

pub returns-in_err-child-clause-only : goal.returns-in_err-child-clause-only
returns-in_err-child-clause-only c =
    let tree = subst (λ (rows : Rows). AreTreeRows rows) c.self.view_is c.self.invariant.0 in
    let same : rows_of c.deref.result.now ≡ c.args.self.now = ap rows_of c.deref.ensures.value ∙ c.self.view_is in
    λ node within is. absurd (finding_stuck c.args.self.now c.args.names.now c.loop-rest.rest.now c.loop-rest.at tree.0 c.loop-rest.invariant
    (not_nil c.loop-rest.rest.now c.loop-rest-test.ensures) (rw same at c.in_err-child.ensures) node within is)

pub loop-rest-preserved : goal.loop-rest-preserved
loop-rest-preserved c =
    let tree = subst (λ (rows : Rows). AreTreeRows rows) c.self.view_is c.self.invariant.0 in
    let same : rows_of c.deref.result.now ≡ c.args.self.now = ap rows_of c.deref.ensures.value ∙ c.self.view_is in
    finding_child c.args.self.now c.args.names.now c.loop-rest.rest.now c.in_ok-child.below.now c.loop-rest.at c.in_ok-child.child tree.0 tree.1 c.loop-rest.invariant
    (not_nil c.loop-rest.rest.now c.loop-rest-test.ensures) (rw same at c.in_ok-child.ensures)

pub returns-clause-only : goal.returns-clause-only
returns-clause-only c = grind (arith, finding_end, is_nil)
