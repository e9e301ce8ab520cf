-- For the proofs alone: values of which numbers and texts alone are looked at, and arrays of few of them.
use Rattle.std.specs.Prelude.{◌≡◌, ℕ, codes, List, map, [], ◌∷◌, Option, Some, None, option_map, option_and_then}
use Rattle.std.specs.Prelude.{Result, Ok, Err}
use Rattle.serde_json.specs.Data.{Data, null, boolean, number, string, array, object}
use Rattle.serde_json.specs.Find.{get, as_number, as_str, as_u64}
use Rattle.serde_json.specs.View.{number_view}
use Rattle.grove_tree.specs.Trees.{Rows}
use Rattle.grove_access.specs.declared.access.Access.{Access}
use Rattle.grove_access.specs.declared.access.Op.{Op}
use Rattle.grove_plan.specs.declared.step.Step.{Step}
use Rattle.grove_proof.specs.declared.flow.FlowRow.{FlowRow}
use Rattle.grove_wire.specs.declared.fault.WireFault.{WireFault}
use Rattle.grove_wire.specs.declared.fault.WireFault.TheVariants.{Shape}
use Rattle.grove_wire.specs.declared.place.Place.{Place}
use Rattle.grove_wire.specs.declared.accesses.AccessForm.{AccessForm}
use Rattle.grove_wire.specs.declared.flows.RowMembers.{RowMembers}
use Rattle.grove_wire.specs.declared.scalars.Few.{Few}
use Rattle.grove_wire.specs.declared.scalars.Few.TheVariants.{Two, Three, Four, Other}
use Rattle.grove_wire.specs.declared.scalars.Scalar.{Scalar}
use Rattle.grove_wire.specs.declared.scalars.Scalar.TheVariants as scalar
use Rattle.grove_wire.specs.declared.versions.Version.{Version}
use Rattle.grove_wire.specs.Forms.{as_list, form_of, allowed}
use Rattle.grove_wire.specs.Outcomes.{◌>>=◌, or_fault}
use Rattle.grove_wire.specs.Reading.{node_on, length_on, step_of}
use Rattle.grove_wire.specs.RowParts.{flow_with}

-- a number or a text, and null for any other value
abbrev pub flat : Data → Data
flat null = null
flat (boolean b) = null
flat (number n) = number n
flat (string s) = string s
flat (array ds) = null
flat (object ms) = null

abbrev pub seen : Scalar → Data
seen (scalar.Number n) = number (number_view n)
seen (scalar.Text text) = string text.now
seen scalar.Other = null

-- two to four values; there is nothing to be looked at in fewer, nor in more
abbrev pub two_to_four : List Data → Option (List Data)
two_to_four (a ∷ b ∷ []) = Some (a ∷ b ∷ [])
two_to_four (a ∷ b ∷ c ∷ []) = Some (a ∷ b ∷ c ∷ [])
two_to_four (a ∷ b ∷ c ∷ d ∷ []) = Some (a ∷ b ∷ c ∷ d ∷ [])
two_to_four _ = None

abbrev pub flat_few : List Data → Option (List Data)
flat_few ds = two_to_four (map flat ds)

abbrev pub few_of : Data → Option (List Data)
few_of d = option_and_then flat_few (as_list d)

abbrev pub few_seen : Few → Option (List Data)
few_seen (Two a b) = Some (seen a ∷ seen b ∷ [])
few_seen (Three a b c) = Some (seen a ∷ seen b ∷ seen c ∷ [])
few_seen (Four a b c d) = Some (seen a ∷ seen b ∷ seen c ∷ seen d ∷ [])
few_seen Other = None

abbrev pub form_seen : AccessForm → List ℕ × Op × Option ℕ
form_seen form = (form.path.now, form.op, form.length)

-- what is read of the form of an access
abbrev pub access_with : Rows → Place → List ℕ × Op × Option ℕ → Result Access WireFault
access_with tree place form = node_on tree place form.0 >>= λ node. length_on place form.2 >>= λ slots.
    Ok (record { node = node; op = form.1; length = slots })

-- and of its items
abbrev pub access_on : Rows → Version → Place → Option (List Data) → Result Access WireFault
access_on tree version place items =
    or_fault (Shape place) (option_and_then (allowed version) (option_and_then form_of items))
    >>= access_with tree place

-- what is read of the items of a step
abbrev pub step_on : Rows → Place → Option (List Data) → Result Step WireFault
step_on tree place (Some (word ∷ operand ∷ [])) = step_of tree place word operand
step_on tree place _ = Err (Shape place)

-- what is looked at of the member of a name, if there is one
abbrev pub IsMember : Option Scalar → List ℕ → Data → Type 0
IsMember member name d = option_map seen member ≡ option_map flat (get name d)

-- what is looked at of a flow row
pub record AreRowMembers (members : RowMembers) (d : Data) : Type 0 where
  pub node : IsMember members.node (codes "node") d
  pub above : IsMember members.above (codes "above") d
  pub held : IsMember members.held (codes "held") d
  pub first : IsMember members.first (codes "first") d
  pub last : IsMember members.last (codes "last") d
  pub own : IsMember members.own (codes "own") d

abbrev pub path_seen : Option Scalar → Option (List ℕ)
path_seen member = option_and_then as_str (option_map seen member)

abbrev pub amount_seen : Option Scalar → Option ℕ
amount_seen member = option_and_then as_u64 (option_and_then as_number (option_map seen member))

-- a path, and a row with the amounts, whose node isn't known yet
abbrev pub row_seen : RowMembers → Option (List ℕ × FlowRow)
row_seen members =
    option_and_then (λ path. option_and_then (λ above. option_and_then (λ held. option_and_then (λ first.
    option_and_then (λ last. option_and_then (λ own. Some (flow_with path above held first last own))
    (amount_seen members.own)) (amount_seen members.last)) (amount_seen members.first)) (amount_seen members.held))
    (amount_seen members.above)) (path_seen members.node)

abbrev pub row_on : Rows → Place → Option (List ℕ × FlowRow) → Result FlowRow WireFault
row_on tree place form = or_fault (Shape place) form >>= λ row.
    node_on tree place row.0 >>= λ node. Ok (record row.1 { node = node })
