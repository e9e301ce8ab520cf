-- What is looked at of a member of an object, with one more member.
use Rattle.std.proofs.Common.{◌≡◌, ℕ, Bool, true, false, List, Option, Some, option_map, refl, sym, ap, ◌∙◌, bytes_eq}
use Rattle.std.proofs.Common.{true≢false}
use Rattle.std.proofs.lemmas.Slice.Eq.{bytes_eq-Decides}
use Rattle.std.specs.Prelude.{None, Err}
use Rattle.serde_json.specs.Data.{Data, null, boolean, number, string, array, Members, object, put}
use Rattle.serde_json.specs.Find.{get_member, as_object}
use Rattle.serde_json.proofs.Views.{get_member-put, get_member-put_other}
use Rattle.grove_tree.specs.Trees.{Rows}
use Rattle.grove_wire.specs.declared.fault.WireFault.TheVariants.{Shape}
use Rattle.grove_wire.specs.declared.place.Place.{Place}
use Rattle.grove_wire.specs.Forms.{flow_form}
use Rattle.grove_wire.specs.Reading.{flow_row_at}
use Rattle.grove_wire.specs.declared.scalars.Scalar.{Scalar}
use Rattle.grove_wire.specs.FlatValues.{seen, flat, IsMember}

pub unlike : (name wanted : List ℕ) → (name ≡ wanted → ⊥) → bytes_eq name wanted ≡ false
unlike name wanted apart = by_test (bytes_eq name wanted) refl
  where
    by_test : (test : Bool) → bytes_eq name wanted ≡ test → bytes_eq name wanted ≡ false
    by_test true is = absurd (apart ((bytes_eq-Decides name wanted).0 is))
    by_test false is = is

module _ (name wanted : List ℕ) (ms : Members) (d : Data) where
  pub put_wanted : bytes_eq name wanted ≡ true → get_member wanted (put name d ms) ≡ Some d
  put_wanted is = rw ((bytes_eq-Decides name wanted).0 is) (get_member-put wanted d ms)

  pub put_other : bytes_eq name wanted ≡ false → get_member wanted (put name d ms) ≡ get_member wanted ms
  put_other other = get_member-put_other wanted name d ms
      (λ same. true≢false (sym ((bytes_eq-Decides name wanted).1 (sym same)) ∙ other))

  pub latest_wanted : (member : Scalar) → bytes_eq name wanted ≡ true → seen member ≡ flat d
      → IsMember (Some member) wanted (object (put name d ms))
  latest_wanted member is seen_so = ap Some seen_so ∙ ap (option_map flat) (sym (put_wanted is))

  pub latest_other : (before : Option Scalar) → bytes_eq name wanted ≡ false → IsMember before wanted (object ms)
      → IsMember before wanted (object (put name d ms))
  latest_other before other is = is ∙ ap (option_map flat) (sym (put_other other))

-- what is no object is no row
pub no_row : (tree : Rows) (place : Place) (d : Data) → as_object d ≡ None
    → Err (Shape place) ≡ flow_row_at tree place d
unfolding flow_row_at flow_form
no_row tree place null none = refl
no_row tree place (boolean b) none = refl
no_row tree place (number n) none = refl
no_row tree place (string s) none = refl
no_row tree place (array ds) none = refl
no_row tree place (object ms) none = absurd (cc)
