-- The items of an array of values.
use Rattle.std.proofs.Common.{◌≡◌, List, [], ◌∷◌, refl, ap}
use Rattle.std.specs.Prelude.{map}
use Rattle.serde_json.specs.View.{view, items_view}
use Rattle.serde_json.specs.declared.value.Value.{Value}
use Rattle.grove_wire.specs.Forms.{list_items}

-- the items of an array of values are those values, each seen as its data
pub items_are_views : (values : List Value) → list_items (items_view values) ≡ map view values
items_are_views [] = refl
items_are_views (value ∷ values) = ap (λ rest. view value ∷ rest) (items_are_views values)
