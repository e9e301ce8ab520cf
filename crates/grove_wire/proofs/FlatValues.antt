-- What is read of an array's items is read of them where numbers and texts alone are looked at.
use Rattle.std.proofs.Common.{◌≡◌, ℕ, Bool, true, false, cond, codes, List, [], ◌∷◌, Option, Some, None, refl, ap, ap₂}
use Rattle.std.proofs.Common.{option_map, option_and_then, sym, ◌∙◌}
use Rattle.serde_json.specs.Data.{Data, null, boolean, number, string, array, object}
use Rattle.serde_json.specs.Find.{get, as_number, as_str, as_u64}
use Rattle.grove_tree.specs.Trees.{Rows}
use Rattle.grove_wire.specs.declared.flows.RowMembers.{RowMembers}
use Rattle.grove_wire.specs.declared.place.Place.{Place}
use Rattle.grove_wire.specs.declared.scalars.Scalar.{Scalar}
use Rattle.grove_wire.specs.declared.versions.Version.{Version}
use Rattle.grove_wire.specs.Forms.{as_list, as_short, form_of, allowed, access_form, amount_of, flow_form}
use Rattle.grove_wire.specs.Reading.{access_at, step_of, step_at, flow_row_at}
use Rattle.grove_wire.specs.Reading as reading
use Rattle.grove_wire.specs.Outcomes.{◌>>=◌, or_fault}
use Rattle.grove_wire.specs.declared.fault.WireFault.TheVariants.{Shape}
use Rattle.grove_wire.specs.FlatValues.{flat, flat_few, few_of, access_on, step_on, IsMember, path_seen, amount_seen}
use Rattle.grove_wire.specs.FlatValues.{AreRowMembers, row_seen, row_on}

pub flat_text : (d : Data) → as_str (flat d) ≡ as_str d
flat_text null = refl
flat_text (boolean b) = refl
flat_text (number n) = refl
flat_text (string s) = refl
flat_text (array ds) = refl
flat_text (object ms) = refl

pub flat_number : (d : Data) → as_number (flat d) ≡ as_number d
flat_number null = refl
flat_number (boolean b) = refl
flat_number (number n) = refl
flat_number (string s) = refl
flat_number (array ds) = refl
flat_number (object ms) = refl

-- the form of an access goes by numbers and texts
form_same : (ds : List Data) → option_and_then form_of (flat_few ds) ≡ form_of ds
form_same [] = refl
form_same (a ∷ []) = refl
form_same (a ∷ b ∷ []) = rw (flat_text a, flat_text b) refl
form_same (a ∷ b ∷ c ∷ []) = rw (flat_text a, flat_text b, flat_number c) refl
form_same (a ∷ b ∷ c ∷ d ∷ []) = rw (flat_text a, flat_text b, flat_number c, flat_number d) refl
form_same (a ∷ b ∷ c ∷ d ∷ e ∷ ds) = refl

forms_same : (o : Option (List Data)) → option_and_then form_of (option_and_then flat_few o) ≡ option_and_then form_of o
forms_same None = refl
forms_same (Some ds) = form_same ds

pub access_of_few : (tree : Rows) (version : Version) (place : Place) (d : Data)
    → access_at tree version place d ≡ access_on tree version place (few_of d)
unfolding access_at access_form
access_of_few tree version place d = rw (forms_same (as_list d)) refl

-- and so does that of a step
step_same : (tree : Rows) (place : Place) (word operand : Data)
    → step_of tree place word operand ≡ step_of tree place (flat word) (flat operand)
unfolding step_of as_short
step_same tree place word operand = rw (flat_text word, flat_text operand, flat_number operand) refl

pub step_of_few : (tree : Rows) (place : Place) (d : Data) → step_at tree place d ≡ step_on tree place (few_of d)
unfolding step_at
step_of_few tree place d = by_items (as_list d)
  where
    by_items : (o : Option (List Data))
        → (or_fault (Shape place) o >>= reading.step_on tree place) ≡ step_on tree place (option_and_then flat_few o)
    by_items None = refl
    by_items (Some []) = refl
    by_items (Some (a ∷ [])) = refl
    by_items (Some (a ∷ b ∷ [])) = step_same tree place a b
    by_items (Some (a ∷ b ∷ c ∷ [])) = refl
    by_items (Some (a ∷ b ∷ c ∷ d ∷ [])) = refl
    by_items (Some (a ∷ b ∷ c ∷ d ∷ e ∷ ds)) = refl

-- and that of a flow row

path_same : (o : Option Data) → option_and_then as_str (option_map flat o) ≡ option_and_then as_str o
path_same None = refl
path_same (Some d) = flat_text d

amount_same : (o : Option Data)
    → option_and_then as_u64 (option_and_then as_number (option_map flat o))
    ≡ option_and_then as_u64 (option_and_then as_number o)
amount_same None = refl
amount_same (Some d) = ap (option_and_then as_u64) (flat_number d)

module _ (member : Option Scalar) (name : List ℕ) (d : Data) (is : IsMember member name d) where
  member_path : path_seen member ≡ option_and_then as_str (get name d)
  member_path = ap (option_and_then as_str) is ∙ path_same (get name d)

  member_amount : amount_seen member ≡ amount_of name d
  unfolding amount_of
  member_amount = ap (λ o. option_and_then as_u64 (option_and_then as_number o)) is ∙ amount_same (get name d)

form_of_members : (members : RowMembers) (d : Data) → AreRowMembers members d → flow_form d ≡ row_seen members
unfolding flow_form
form_of_members members d are = rw (
  member_path members.node (codes "node") d are.node,
  member_amount members.above (codes "above") d are.above,
  member_amount members.held (codes "held") d are.held,
  member_amount members.first (codes "first") d are.first,
  member_amount members.last (codes "last") d are.last,
  member_amount members.own (codes "own") d are.own,
) refl

pub row_of_members : (tree : Rows) (place : Place) (members : RowMembers) (d : Data) → AreRowMembers members d
    → flow_row_at tree place d ≡ row_on tree place (row_seen members)
unfolding flow_row_at
row_of_members tree place members d are = ap (row_on tree place) (form_of_members members d are)
