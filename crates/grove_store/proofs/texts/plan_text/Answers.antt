use Rattle.std.proofs.Common.{sym, ap, subst, ◌∙◌}
use Rattle.grove_access.specs.Lists.{nodes_of, lengths_of}
use Rattle.grove_build.specs.Keeping.{AreTargetsOf}
use Rattle.grove_wire.proofs.LeastFits.{plan_fits, flow_fits}
use Rattle.grove_store.specs.Alone.{TellsPlan}
use Rattle.grove_store.specs.Parts.{IsTextOfReply}
use Rattle.grove_store.specs.Refusals.{is_refusal}
use Rattle.grove_store.proofs.Accepted.{planned_accepted}
use Rattle.grove_store.proofs.PlanTexts.{replies_for, found_replies, plan_accepted, planned_tells}
use Rattle.grove_store.proofs.texts.plan_text.Goals as goal

pub accepted-requires : goal.accepted-requires
accepted-requires c =
    let own : AreTargetsOf c.args.list.now c.in_ok-targets.targets.items =
    record { nodes = c.in_ok-targets.ensures.nodes; lengths = c.in_ok-targets.ensures.lengths } in
    ap is_refusal (c.in_ok-from_slice.ensures.items ∙ c.deref.ensures.value)
    ∙ plan_accepted c.args.tree.now c.args.list.now c.in-Some.text.now.items
    (found_replies _ _ _ _ _ c.requires.texts own c.in-Some.ensures.kept)

pub returns-in-Some-clause-text : goal.returns-in-Some-clause-text
returns-in-Some-clause-text c =
    let own : AreTargetsOf c.args.list.now c.in_ok-targets.targets.items =
    record { nodes = c.in_ok-targets.ensures.nodes; lengths = c.in_ok-targets.ensures.lengths } in
    subst (IsTextOfReply (TellsPlan c.args.tree.now c.args.list.now))
    (sym (c.accepted.ensures ∙ c.in_ok-from_slice.ensures.items ∙ c.deref.ensures.value))
    (found_replies _ _ _ _ _ c.requires.texts own c.in-Some.ensures.kept)

pub returns-in-Some-clause-plans : goal.returns-in-Some-clause-plans
returns-in-Some-clause-plans c = rw c.note_given.ensures c.requires.plans

pub returns-in_err-from_slice-clause-plans : goal.returns-in_err-from_slice-clause-plans
returns-in_err-from_slice-clause-plans c = rw c.note_given.ensures c.requires.plans

pub planned_text-requires-clause-plan : goal.planned_text-requires-clause-plan
planned_text-requires-clause-plan c =
    plan_fits c.args.tree.now (nodes_of c.args.list.now) (lengths_of c.args.list.now)
    c.in_ok-planned.planned.plan c.in_ok-planned.ensures.planned.least

pub planned_text-requires-clause-flow : goal.planned_text-requires-clause-flow
planned_text-requires-clause-flow c =
    let planned = c.in_ok-planned.planned in
    flow_fits c.args.tree.now (nodes_of c.args.list.now) (lengths_of c.args.list.now) planned.plan planned.flow _
    c.in_ok-planned.ensures.planned.least c.in_ok-planned.ensures.planned.certificate

pub returns-in_err-keep-clause-texts : goal.returns-in_err-keep-clause-texts
returns-in_err-keep-clause-texts c =
    let own : AreTargetsOf c.args.list.now c.in_ok-targets.targets.items =
    record { nodes = c.in_ok-targets.ensures.nodes; lengths = c.in_ok-targets.ensures.lengths } in
    c.keep.ensures c.args.tree.now c.requires.texts
    (replies_for _ _ _ _ own (planned_tells _ _ c.in_ok-planned.planned _ c.in_ok-planned.ensures.planned
    (c.in_ok-copy.ensures.items ∙ c.deref-2.ensures.value ∙ c.in_ok-text.ensures)))

pub accepted-requires-2 : goal.accepted-requires-2
accepted-requires-2 c =
    let planned = c.in_ok-planned.planned in
    ap is_refusal c.in_ok-text.ensures
    ∙ planned_accepted c.args.tree.now planned.cost planned.plan planned.flow

pub returns-clause-text : goal.returns-clause-text
returns-clause-text c = planned_tells _ _ c.in_ok-planned.planned _ c.in_ok-planned.ensures.planned
    (c.accepted-2.ensures ∙ c.in_ok-text.ensures)

pub returns-clause-texts : goal.returns-clause-texts
returns-clause-texts c =
    let own : AreTargetsOf c.args.list.now c.in_ok-targets.targets.items =
    record { nodes = c.in_ok-targets.ensures.nodes; lengths = c.in_ok-targets.ensures.lengths } in
    c.keep.ensures c.args.tree.now c.requires.texts
    (replies_for _ _ _ _ own (planned_tells _ _ c.in_ok-planned.planned _ c.in_ok-planned.ensures.planned
    (c.in_ok-copy.ensures.items ∙ c.deref-2.ensures.value ∙ c.in_ok-text.ensures)))
