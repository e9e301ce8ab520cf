-- The JSON values of replies, numbers, plans and flows.
use Rattle.std.specs.Prelude.{◌≡◌, ℕ, ◌<◌, codes, ℤ, List, length, map, slice_get, Some}
use Rattle.serde_json.specs.Data.{Data, number, unsigned, string, array, object, no_items, item, no_members, member}
use Rattle.serde_json.specs.Find.{of_integer}
use Rattle.serde_json.specs.View.{items_of}
use Rattle.grove_tree.specs.Trees.{Rows}
use Rattle.grove_tree.specs.Paths.{path_of}
use Rattle.grove_access.specs.declared.reply.Reply.{Reply}
use Rattle.grove_access.specs.declared.reply.Reply.TheVariants.{Value, Done, Range, Short}
use Rattle.grove_plan.specs.declared.step.Step.{Step}
use Rattle.grove_plan.specs.declared.step.Step.TheVariants.{Lock, Unlock, Access}
use Rattle.grove_proof.specs.declared.flow.FlowRow.{FlowRow}

abbrev pub number_data : ℤ → Data
number_data n = number (of_integer n)

abbrev pub count_data : ℕ → Data
count_data n = number (unsigned n)

abbrev pub reply_data : Reply → Data
reply_data (Value n) = number_data n
reply_data Done = string (codes "ok")
reply_data Range = string (codes "range")
reply_data Short = string (codes "short")

-- an array of what is made of each item
abbrev pub array_of : {A : Type 0} → (A → Data) → List A → Data
array_of data_of xs = array (items_of (map data_of xs))

-- ---- plans

-- a step's node is a node of the tree
abbrev pub StepFits : Rows → Step → Type 0
StepFits rows (Lock node) = node < length rows
StepFits rows (Unlock node) = node < length rows
StepFits rows (Access access) = Unit {0}

abbrev pub PlanFits : Rows → List Step → Type 0
PlanFits rows plan = (place : ℕ) (step : Step) → slice_get plan place ≡ Some step → StepFits rows step

abbrev pub pair_data : List ℕ → Data → Data
pair_data word operand = array (item (string word) (item operand no_items))

abbrev pub step_data : Rows → Step → Data
step_data rows (Lock node) = pair_data (codes "lock") (string (path_of rows node))
step_data rows (Unlock node) = pair_data (codes "unlock") (string (path_of rows node))
step_data rows (Access access) = pair_data (codes "access") (count_data access)

abbrev pub plan_data : Rows → List Step → Data
plan_data rows plan = array_of (step_data rows) plan

-- ---- flows, with members in the order of their names

abbrev pub FlowFits : Rows → List FlowRow → Type 0
FlowFits rows flow = (place : ℕ) (row : FlowRow) → slice_get flow place ≡ Some row → row.node < length rows

abbrev pub flow_row_data : Rows → FlowRow → Data
flow_row_data rows row = object
    (member (codes "above") (count_data row.above)
    (member (codes "first") (count_data row.first)
    (member (codes "held") (count_data row.held)
    (member (codes "last") (count_data row.last)
    (member (codes "node") (string (path_of rows row.node))
    (member (codes "own") (count_data row.own) no_members))))))

abbrev pub flow_data : Rows → List FlowRow → Data
flow_data rows flow = array_of (flow_row_data rows) flow
