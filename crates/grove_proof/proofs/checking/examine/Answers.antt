-- What the parts answer is the verdict.
use Rattle.std.proofs.Common.{◌≡◌, ℕ, List, sym, ◌∙◌, ap, subst}
use Rattle.std.specs.Prelude.{map}
use Rattle.grove_access.specs.Lists.{nodes_of, lengths_of}
use Rattle.grove_proof.specs.declared.flow.FlowRow.{FlowRow}
use Rattle.grove_proof.specs.Flows.{node_of}
use Rattle.grove_proof.specs.Faults.{IsFirstDifference}
use Rattle.grove_proof.proofs.Verdicts.{rows_verdict, verdict, say_same}
use Rattle.grove_proof.proofs.checking.examine.Goals as goal

pub returns-in-Some-clause-verdict : goal.returns-in-Some-clause-verdict
returns-in-Some-clause-verdict c =
    let differ : IsFirstDifference (map node_of c.args.flow.now) c.in_ok-span.span.items c.in-Some.place =
    subst (λ (xs : List FlowRow). IsFirstDifference (map node_of xs) c.in_ok-span.span.items c.in-Some.place) c.rows.ensures.rows
    (subst (λ (xs : List ℕ). IsFirstDifference (map node_of c.rows.result.now) xs c.in-Some.place) c.deref.ensures.value c.in-Some.ensures) in
    rows_verdict c.args.tree.now (nodes_of c.args.list.now) (lengths_of c.args.list.now) c.args.plan.now c.args.flow.now c.in_ok-span.span.items c.in-Some.place c.len-size.ensures.tree c.requires.fits
    c.in_ok-cost.ensures.legal c.in_ok-span.ensures differ

pub returns-clause-verdict : goal.returns-clause-verdict
returns-clause-verdict c =
    let same : map node_of c.args.flow.now ≡ c.in_ok-span.span.items = ap (map node_of) (sym c.rows.ensures.rows) ∙ (c.in_default.ensures ∙ c.deref.ensures.value) in
    verdict c.args.tree.now (nodes_of c.args.list.now) (lengths_of c.args.list.now) c.args.plan.now c.args.flow.now c.in_ok-span.span.items c.in_ok-cost.cost c.weigh.result c.len-size.ensures.tree c.requires.fits
    c.in_ok-cost.ensures.legal c.in_ok-span.ensures same c.in_ok-cost.ensures.cost
    (say_same c.in_ok-row_sums.row_sums.tree.now c.args.tree.now c.in_ok-row_sums.row_sums.list.now c.args.list.now c.in_ok-row_sums.row_sums.rows.now c.args.flow.now c.in_ok-cost.cost c.weigh.result
    c.weigh.ensures c.in_ok-row_sums.ensures.tree c.in_ok-row_sums.ensures.list (c.in_ok-row_sums.ensures.rows ∙ c.rows-2.ensures.rows))
