-- For the proofs alone: the values that tokens begin with.
use Rattle.std.specs.Prelude.{◌≡◌, ℕ, suc, ◌≤◌, length, List, [], ◌∷◌, ◌++◌, Option, Some, None}
use Rattle.json.specs.Json as json
use Rattle.json.specs.Token.{Token}
use Rattle.serde_json.specs.Data.{Data, null, Items, no_items, item, Members, no_members}
use Rattle.serde_json.specs.Find.{as_array, as_object}
use Rattle.serde_json.specs.Read.{converted, of_json, of_items, of_members}
use Rattle.grove_wire.specs.FlatValues.{flat, seen}
use Rattle.grove_wire.specs.declared.scalars.Scalar as scalar
use Rattle.grove_line.specs.declared.values.Opened.{Opened}
use Rattle.grove_line.specs.declared.values.Opened.TheVariants.{Array, Object, Scalar}

-- the value that tokens begin with, and what is left behind it; nothing where they begin with none that can be read
unfoldable pub value_at : ℕ → List Token → Option (Data × List Token)
value_at depth ts = converted of_json (json.value depth ts)

-- the items of an array up to its end, which come within so many turns
unfoldable pub items_at : ℕ → ℕ → List Token → Option (Items × List Token)
items_at depth turns ts = converted of_items (json.items (json.value depth) turns ts)

-- the members of an object up to its end, put to those that were found before
unfoldable pub members_at : ℕ → ℕ → Members → List Token → Option (Members × List Token)
members_at depth turns found ts = converted (λ ms. of_members ms found) (json.members (json.value depth) turns ts)

-- tokens begin with a value of which this holds, after which these are left
pub record Starts (depth : ℕ) (ts rest : List Token) (Holds : Data → Type 0) : Type 0 where
  pub whole : Data
  pub is : value_at depth ts ≡ Some (whole, rest)
  pub holds : Holds whole

-- what is known of a value by what it begins with
abbrev pub IsOpenedBy : Opened → Data → Type 0
IsOpenedBy (Array inside) d = (as_object d ≡ None) × (flat d ≡ null)
IsOpenedBy (Object inside) d = (as_array d ≡ None) × (flat d ≡ null)
IsOpenedBy (Scalar s) d = (as_array d ≡ None) × (as_object d ≡ None) × (seen s ≡ flat d)

-- tokens begin with a value that begins so, after which beginning these are left: inside of it, or behind it
abbrev pub Opens : Opened → ℕ → List Token → List Token → Type 0
Opens (Array inside) depth ts rest = (suc inside ≡ depth) × (ts ≡ Token.begin_array ∷ rest)
Opens (Object inside) depth ts rest = (suc inside ≡ depth) × (ts ≡ Token.begin_object ∷ rest)
Opens (Scalar s) depth ts rest = Starts depth ts rest (IsOpenedBy (Scalar s))

-- items, and then others
abbrev pub behind : List Data → Items → Items
behind [] ds = ds
behind (d ∷ front) ds = item d (behind front ds)

-- of the items of an array these are read, and then come these tokens
pub record ItemsSoFar (depth : ℕ) (start ts : List Token) (front : List Data) : Type 0 where
  pub turns : ℕ
  pub enough : length ts ≤ turns
  pub is : items_at depth (length start) start ≡ json.parse_map (behind front) (items_at depth turns ts)

-- these are the items of an array, behind whose end these tokens are left
abbrev pub AreItems : ℕ → List Token → List Token → List Data → Type 0
AreItems depth start rest ds = items_at depth (length start) start ≡ Some (behind ds no_items, rest)

-- an item that is seen so is read after those before, or they are all
abbrev pub IsNext : Option scalar.Scalar → ℕ → List Token → List Token → List Data → Type 0
IsNext None depth start rest front = AreItems depth start rest front
IsNext (Some s) depth start rest front =
    (d : Data) × ItemsSoFar depth start rest (front ++ d ∷ []) × (seen s ≡ flat d)

-- these are the members of an object, behind whose end these tokens are left
abbrev pub AreMembers : ℕ → List Token → List Token → Members → Type 0
AreMembers depth start rest ms = members_at depth (length start) no_members start ≡ Some (ms, rest)
