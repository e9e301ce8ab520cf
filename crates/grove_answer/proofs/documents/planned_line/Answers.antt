use Rattle.std.proofs.Common.{◌≡◌, ◌++◌, ◌∙◌, ℕ, List, ap}
use Rattle.std.specs.Prelude.{codes, option_map, Ok, Some, string_bytes}
use Rattle.serde_json.specs.View.{view}
use Rattle.grove_access.specs.Lists.{nodes_of, lengths_of}
use Rattle.grove_plan.specs.Plans.{cost}
use Rattle.grove_wire.proofs.LeastFits.{plan_fits, flow_fits}
use Rattle.grove_wire.specs.Reading.{value_of}
use Rattle.grove_answer.specs.Outcomes.{claim_in}
use Rattle.grove_answer.specs.PlannedDocuments.{planned_document}
use Rattle.grove_answer.proofs.PlannedDocuments.{claims, planned_level}
use Rattle.grove_answer.proofs.documents.planned_line.Goals as goal

pub with_plan-requires-clause-plan : goal.with_plan-requires-clause-plan
with_plan-requires-clause-plan c =
    let task = c.args.task.now in
    plan_fits task.tree (nodes_of task.list) (lengths_of task.list) c.args.planned.now.plan c.requires.planned.least

pub with_plan-requires-clause-flow : goal.with_plan-requires-clause-flow
with_plan-requires-clause-flow c =
    let task = c.args.task.now in
    let planned = c.args.planned.now in
    flow_fits task.tree (nodes_of task.list) (lengths_of task.list) planned.plan planned.flow (cost task.tree (lengths_of task.list) planned.plan) c.requires.planned.least c.requires.planned.certificate

pub line_of-requires : goal.line_of-requires
line_of-requires c = rw c.in_ok-whole.ensures.value (planned_level c.args.task.now.tree c.args.planned.now.plan c.args.planned.now.flow (view c.args.document.now) c.requires.shallow)

pub returns : goal.returns
returns c =
    let task = c.args.task.now in
    let planned = c.args.planned.now in
    let d = view c.args.document.now in
    let whole = planned_document task.tree planned.plan planned.flow d in
    let said : (text : List ℕ) × (value_of text ≡ Some whole)
    × (string_bytes c.in_ok-line_of.field-0 ≡ text ++ codes "\n") =
    rw c.in_ok-whole.ensures.value at c.in_ok-line_of.ensures in
    let claimed =
    claims task planned.plan planned.flow c.in_ok-whole.ensures.plan c.in_ok-whole.ensures.flow d c.requires.read in
    (planned, c.requires.planned, (said.0, ap (option_map claim_in) said.1 ∙ ap Some claimed, ap Ok said.2))
