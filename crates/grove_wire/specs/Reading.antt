-- What a text, and each part of its document, reads as: a value or the first fault.
use Rattle.std.specs.Prelude.{ℕ, codes, ℤ, List, [], ◌∷◌, length, map, nat_lt, Option, Some, None, is_some, Result, Ok}
use Rattle.std.specs.Prelude.{Err, if◌then◌else◌}
use Rattle.std.specs.Str.{is_utf8}
use Rattle.serde_json.specs.Data.{Data}
use Rattle.serde_json.specs.Find.{get, as_object, as_str}
use Rattle.serde_json.specs.Read.{read}
use Rattle.grove_tree.specs.Trees.{Rows}
use Rattle.grove_tree.specs.Paths.{node_at}
use Rattle.grove_tree.specs.Rules.{tree_fault_of}
use Rattle.grove_tree.specs.declared.fault.TreeFault.{TreeFault}
use Rattle.grove_access.specs.declared.access.Access.{Access}
use Rattle.grove_access.specs.Lists.{is_length}
use Rattle.grove_wire.specs.declared.versions.Version.{Version}
use Rattle.grove_plan.specs.declared.step.Step.{Step}
use Rattle.grove_plan.specs.declared.step.Step.TheVariants as step
use Rattle.grove_proof.specs.declared.flow.FlowRow.{FlowRow}
use Rattle.grove_wire.specs.declared.fault.WireFault.{WireFault}
use Rattle.grove_wire.specs.declared.fault.WireFault.TheVariants.{BadJson, Shape, NoPath, BadLength, Limit, Tree}
use Rattle.grove_wire.specs.declared.place.Part.{Part}
use Rattle.grove_wire.specs.declared.place.Part.TheVariants as part
use Rattle.grove_wire.specs.declared.place.Place.{Place}
use Rattle.grove_wire.specs.Outcomes.{◌>>=◌, or_fault, of_form, few_on}
use Rattle.grove_wire.specs.Places.{whole_of, part_word}
use Rattle.grove_wire.specs.Forms.{version_of, items_of, as_list, as_short, is_word, row_form, access_form, flow_form}

-- ---- the document: an object in UTF-8, of few bytes and of a version that there is

abbrev pub value_of : List ℕ → Option Data
value_of bytes = if is_utf8 bytes then read bytes else None

-- an object that stands at a place
abbrev pub object_at : Place → Data → Result Data WireFault
object_at place d = if is_some (as_object d) then Ok d else Err (Shape place)

unfoldable pub version_in : Data → Result Version WireFault
version_in d = or_fault (Shape (whole_of part.Whole)) (version_of (get (codes "version") d))

-- of at most so many bytes
abbrev pub document_within : ℕ → List ℕ → Result Data WireFault
document_within most bytes =
    if nat_lt most (length bytes) then Err (Limit (whole_of part.Whole))
    else ((or_fault BadJson (value_of bytes) >>= object_at (whole_of part.Whole))
    >>= λ d. (version_in d >>= λ version. Ok d))

unfoldable pub document_of : List ℕ → Result Data WireFault
document_of bytes = document_within 4194304 bytes

-- a document with a history may be longer
unfoldable pub history_of : List ℕ → Result Data WireFault
history_of bytes = document_within 67108864 bytes

-- the items of a member of an object, which stands at a place
abbrev pub items_at : Place → List ℕ → Data → Result (List Data) WireFault
items_at place name d = or_fault (Shape place) (items_of name d)

-- the items of a part of the document
unfoldable pub items_in : Part → Data → Result (List Data) WireFault
items_in part d = items_at (whole_of part) (part_word part) d

-- ---- the tree: no more rows than 32 bits number, each of its form, then the rules of trees

abbrev pub unless_fault : {A : Type 0} → Option TreeFault → A → Result A WireFault
unless_fault None x = Ok x
unless_fault (Some fault) x = Err (Tree fault)

-- the rows and the records of values, apart
abbrev pub columns_of : List Data → Result (Rows × List ℤ) WireFault
columns_of ds =
    few_on 4294967295 (of_form row_form) (whole_of part.Nodes) ds
    >>= λ rows. Ok (map (λ row. row.0) rows, map (λ row. row.1) rows)

unfoldable pub tree_in : Data → Result (Rows × List ℤ) WireFault
tree_in d = do
  ds ← items_in part.Nodes d
  columns ← columns_of ds
  unless_fault (tree_fault_of columns.0) columns

-- ---- a list: few accesses, each of its form, then with a path of the tree, and then of a length that there is

abbrev pub node_on : Rows → Place → List ℕ → Result ℕ WireFault
node_on tree place path = or_fault (NoPath place) (node_at tree path)

-- an access that tells no length takes one slot
abbrev pub length_on : Place → Option ℕ → Result ℕ WireFault
length_on place None = Ok 1
length_on place (Some slots) = if is_length slots then Ok slots else Err (BadLength place)

unfoldable pub access_at : Rows → Version → Place → Data → Result Access WireFault
access_at tree version place d = do
  form ← of_form (access_form version) place d
  node ← node_on tree place form.0
  slots ← length_on place form.2
  Ok (record { node = node; op = form.1; length = slots })

abbrev pub list_of : Rows → Version → Place → List Data → Result (List Access) WireFault
list_of tree version place ds = few_on 64 (access_at tree version) place ds

unfoldable pub list_in : Rows → Data → Result (List Access) WireFault
list_in tree d = do
  version ← version_in d
  ds ← items_in part.List d
  list_of tree version (whole_of part.List) ds

-- ---- lists: few of them, each an array and then a list

-- a value by itself, read as a list
unfoldable pub list_on : Rows → Version → Place → Data → Result (List Access) WireFault
list_on tree version place d = of_form as_list place d >>= list_of tree version place

abbrev pub lists_of : Rows → Version → List Data → Result (List (List Access)) WireFault
lists_of tree version ds = few_on 256 (list_on tree version) (whole_of part.Lists) ds

unfoldable pub lists_in : Rows → Data → Result (List (List Access)) WireFault
lists_in tree d = do
  version ← version_in d
  ds ← items_in part.Lists d
  lists_of tree version ds

-- ---- a plan: no more steps than 32 bits number, each of its form and then with a path of the tree

abbrev pub path_at : Rows → Place → Data → Result ℕ WireFault
path_at tree place d = of_form as_str place d >>= node_on tree place

unfoldable pub step_of : Rows → Place → Data → Data → Result Step WireFault
step_of tree place word operand =
    if is_word (codes "lock") word then (path_at tree place operand >>= λ node. Ok (step.Lock node))
    else if is_word (codes "unlock") word then (path_at tree place operand >>= λ node. Ok (step.Unlock node))
    else if is_word (codes "access") word then (of_form as_short place operand >>= λ access. Ok (step.Access access))
    else Err (Shape place)

-- a step has a word and what it is done to, and no further items
abbrev pub step_on : Rows → Place → List Data → Result Step WireFault
step_on tree place (word ∷ operand ∷ []) = step_of tree place word operand
step_on tree place _ = Err (Shape place)

unfoldable pub step_at : Rows → Place → Data → Result Step WireFault
step_at tree place d = of_form as_list place d >>= step_on tree place

unfoldable pub plan_in : Rows → Data → Result (List Step) WireFault
plan_in tree d = items_in part.Plan d >>= few_on 4294967295 (step_at tree) (whole_of part.Plan)

-- ---- a flow: no more rows than 32 bits number, each of its form and then with a path of the tree

unfoldable pub flow_row_at : Rows → Place → Data → Result FlowRow WireFault
flow_row_at tree place d = do
  form ← of_form flow_form place d
  node ← node_on tree place form.0
  Ok (record form.1 { node = node })

unfoldable pub flow_in : Rows → Data → Result (List FlowRow) WireFault
flow_in tree d = items_in part.Flow d >>= few_on 4294967295 (flow_row_at tree) (whole_of part.Flow)

-- a plan, and then a flow
abbrev pub plan_and_flow_in : Rows → Data → Result (List Step × List FlowRow) WireFault
plan_and_flow_in tree d = plan_in tree d >>= λ plan. flow_in tree d >>= λ flow. Ok (plan, flow)
