use Rattle.std.proofs.Common.{◌≡◌, ℕ, ◌<◌, ◌++◌, List, length, false, ap, ap₂, sym, ◌∙◌, subst, arith, get_or}
use Rattle.std.proofs.lemmas.Slice.Zip.{AllZip-long}
use Rattle.grove_base.proofs.Lists.{map_length}
use Rattle.grove_tree.specs.Trees.{weight_of}
use Rattle.grove_access.specs.Lists.{nodes_of, lengths_of}
use Rattle.grove_plan.specs.declared.step.Step.{Step}
use Rattle.grove_plan.specs.Plans.{cost}
use Rattle.grove_proof.specs.declared.flow.FlowRow.{FlowRow}
use Rattle.grove_proof.specs.Flows.{IsCertificate}
use Rattle.grove_span.specs.declared.row.SpanRow.{SpanRow}
use Rattle.grove_build.specs.Settled.{IsSettled}
use Rattle.grove_build.specs.Networks.{weights_of}
use Rattle.grove_build.specs.Stays.{is_needed, stays_from, rows_cost, stay_steps, stay_steps_below}
use Rattle.grove_build.proofs.Asked.{nodes_few, rows_of_span, weights_few, slots_few_each}
use Rattle.grove_build.proofs.Answered.{gaps_size, gaps_within, gaps_fit, stays_within, steps_settle, steps_certified, steps_cost, steps_few, stays_length}
use Rattle.grove_build.proofs.Links.{arcs_size}
use Rattle.grove_access.proofs.Lists.{nodes_length}
use Rattle.grove_build.proofs.planning.settle.Goals as goal

pub needed_of-requires-clause-few : goal.needed_of-requires-clause-few
needed_of-requires-clause-few c = grind (arith, nodes_few, rows_of_span)

pub needed_of-requires-clause-parents : goal.needed_of-requires-clause-parents
needed_of-requires-clause-parents c = grind (arith, nodes_few, rows_of_span)

pub needed_of-requires-clause-gaps : goal.needed_of-requires-clause-gaps
needed_of-requires-clause-gaps c = grind (arith, gaps_size, nodes_few)

pub stays_of-requires-clause-few : goal.stays_of-requires-clause-few
stays_of-requires-clause-few c = grind (arith, nodes_few, rows_of_span)

pub stays_of-requires-clause-gaps : goal.stays_of-requires-clause-gaps
stays_of-requires-clause-gaps c = grind (arith, gaps_size, nodes_few)

pub lay_out-requires-clause-few : goal.lay_out-requires-clause-few
lay_out-requires-clause-few c = grind (arith, nodes_few, rows_of_span, stays_length)

pub lay_out-requires-clause-within : goal.lay_out-requires-clause-within
lay_out-requires-clause-within c =
    let stays : c.deref-4.result.now ≡ stays_from c.args.solved.now.gaps.items c.in_ok-needed.needed.items 0 c.args.rows.now =
    c.deref-4.ensures.value ∙ (c.in_ok-stays.ensures ∙ ap₂ (λ g n. stays_from g n 0 c.args.rows.now) c.deref-2.ensures.value c.deref-3.ensures.value) in
    let number : c.len-accesses.result ≡ length (nodes_of c.args.list.now) = c.len-accesses.ensures.number ∙ sym (nodes_length c.args.list.now) in
    rw (stays, number) (stays_within c.args.tree.now (nodes_of c.args.list.now) (lengths_of c.args.list.now) c.args.rows.now c.args.solved.now.amounts.items c.args.solved.now.gaps.items c.requires.span c.requires.solved (nodes_few c.args.list.now c.len-accesses.ensures.few) c.in_ok-needed.needed.items)

pub flow_rows-requires : goal.flow_rows-requires
flow_rows-requires c = grind (arith, arcs_size)

pub cost_of-cost-requires-clause-few : goal.cost_of-cost-requires-clause-few
cost_of-cost-requires-clause-few c = grind (arith, map_length, nodes_few, rows_of_span)

pub cost_of-cost-requires-clause-light : goal.cost_of-cost-requires-clause-light
cost_of-cost-requires-clause-light c = grind (arith, weights_few)

pub cost_of-cost-requires-clause-gaps : goal.cost_of-cost-requires-clause-gaps
cost_of-cost-requires-clause-gaps c = grind (arith, gaps_size, map_length, nodes_few)

pub cost_of-cost-requires-clause-within : goal.cost_of-cost-requires-clause-within
cost_of-cost-requires-clause-within c = grind (arith, gaps_within, nodes_few)

pub cost_of-cost-requires-clause-own : goal.cost_of-cost-requires-clause-own
cost_of-cost-requires-clause-own c =
    let many : length c.args.weights.now ≡ length c.args.rows.now = ap length c.requires.weights ∙ map_length (λ (row : SpanRow). weight_of c.args.tree.now row.node) c.args.rows.now in
    rw c.deref-6.ensures.value (λ k lt. gaps_fit c.args.tree.now (nodes_of c.args.list.now) (lengths_of c.args.list.now) c.args.rows.now c.args.solved.now.amounts.items c.args.solved.now.gaps.items c.requires.span c.requires.solved (nodes_few c.args.list.now c.len-accesses.ensures.few) c.in_ok-flow.flow.items (rw c.deref-5.ensures.value at c.in_ok-flow.ensures) c.args.slots.now c.requires.slots k (omega arith))

pub cost_of-cost-requires-clause-end : goal.cost_of-cost-requires-clause-end
cost_of-cost-requires-clause-end c =
    λ gap. slots_few_each (lengths_of c.args.list.now) c.args.slots.now (length (nodes_of c.args.list.now)) c.requires.span.are_lengths c.requires.slots (nodes_few c.args.list.now c.len-accesses.ensures.few) gap

pub new-requires : goal.new-requires
new-requires c = grind (arith, nodes_few, nodes_length, rows_of_span, stays_length, steps_few)

pub new-requires-2 : goal.new-requires-2
new-requires-2 c = grind (arith, AllZip-long, nodes_few, rows_of_span)

pub returns : goal.returns
returns c =
    let stays : c.in_ok-stays.stays.items ≡ stays_from c.args.solved.now.gaps.items c.in_ok-needed.needed.items 0 c.args.rows.now =
    c.in_ok-stays.ensures ∙ ap₂ (λ g n. stays_from g n 0 c.args.rows.now) c.deref-2.ensures.value c.deref-3.ensures.value in
    let number : c.len-accesses.result ≡ length (nodes_of c.args.list.now) = c.len-accesses.ensures.number ∙ sym (nodes_length c.args.list.now) in
    let laid : c.in_ok-steps.steps.items ≡ stay_steps_below (stays_from c.args.solved.now.gaps.items c.in_ok-needed.needed.items 0 c.args.rows.now) (length (nodes_of c.args.list.now)) ++ stay_steps (stays_from c.args.solved.now.gaps.items c.in_ok-needed.needed.items 0 c.args.rows.now) (length (nodes_of c.args.list.now)) =
    c.in_ok-steps.ensures ∙ ap₂ (λ s n. stay_steps_below s n ++ stay_steps s n) (c.deref-4.ensures.value ∙ stays) number in
    let many : length c.args.weights.now ≡ length c.args.rows.now = ap length c.requires.weights ∙ map_length (λ (row : SpanRow). weight_of c.args.tree.now row.node) c.args.rows.now in
    let marked : (j : ℕ) → j < length c.args.rows.now → get_or c.in_ok-needed.needed.items j false ≡ is_needed c.args.rows.now c.args.solved.now.gaps.items (length c.args.rows.now) j =
    λ j lt. c.in_ok-needed.ensures.needed j lt ∙ ap (λ g. is_needed c.args.rows.now g (length c.args.rows.now) j) c.deref.ensures.value in
    let plan = c.new.ensures ∙ laid in
    let P : List Step → Type 0 = λ p. IsSettled c.args.tree.now (nodes_of c.args.list.now) (lengths_of c.args.list.now) p in
    let Q : List Step → Type 0 = λ p. IsCertificate c.args.tree.now (nodes_of c.args.list.now) (lengths_of c.args.list.now) c.in_ok-flow.flow.items (cost c.args.tree.now (lengths_of c.args.list.now) p) in
    let S : List FlowRow → Type 0 = λ f. IsCertificate c.args.tree.now (nodes_of c.args.list.now) (lengths_of c.args.list.now) f (cost c.args.tree.now (lengths_of c.args.list.now) c.new.result) in
    let priced : c.cost_of-cost.result ≡ rows_cost (weights_of c.args.tree.now c.args.rows.now) c.args.slots.now c.args.solved.now.gaps.items (length c.args.rows.now) =
    c.cost_of-cost.ensures
    ∙ (ap₂ (λ w g. rows_cost w c.args.slots.now g (length c.args.weights.now)) c.requires.weights c.deref-6.ensures.value
    ∙ ap (λ n. rows_cost (weights_of c.args.tree.now c.args.rows.now) c.args.slots.now c.args.solved.now.gaps.items n) many) in
    let settled : IsSettled c.args.tree.now (nodes_of c.args.list.now) (lengths_of c.args.list.now) c.new.result =
    subst P (sym plan) (steps_settle c.args.tree.now (nodes_of c.args.list.now) (lengths_of c.args.list.now)
    c.args.rows.now
    c.args.solved.now.amounts.items c.args.solved.now.gaps.items c.requires.span c.requires.solved
    (nodes_few c.args.list.now c.len-accesses.ensures.few) c.len-nodes.ensures.limits c.in_ok-flow.flow.items (rw c.deref-5.ensures.value at c.in_ok-flow.ensures) c.in_ok-needed.needed.items
    marked) in
    record {
      settled = settled;
      least = settled.least;
      priced = priced ∙ (steps_cost c.args.tree.now (nodes_of c.args.list.now) (lengths_of c.args.list.now)
          c.args.rows.now
          c.args.solved.now.amounts.items c.args.solved.now.gaps.items c.requires.span c.requires.solved
          (nodes_few c.args.list.now c.len-accesses.ensures.few) c.len-nodes.ensures.limits c.in_ok-flow.flow.items (rw c.deref-5.ensures.value at c.in_ok-flow.ensures) c.in_ok-needed.needed.items marked c.args.slots.now c.requires.slots ∙ ap (λ p. cost c.args.tree.now (lengths_of c.args.list.now) p) (sym plan));
      certificate = subst S (sym c.new-2.ensures) (subst Q (sym plan) (steps_certified c.args.tree.now (nodes_of c.args.list.now) (lengths_of c.args.list.now) c.args.rows.now
          c.args.solved.now.amounts.items c.args.solved.now.gaps.items c.requires.span c.requires.solved
          (nodes_few c.args.list.now c.len-accesses.ensures.few) c.len-nodes.ensures.limits c.in_ok-flow.flow.items (rw c.deref-5.ensures.value at c.in_ok-flow.ensures) c.in_ok-needed.needed.items marked));
    }
