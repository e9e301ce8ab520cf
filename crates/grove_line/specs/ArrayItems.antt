-- For the proofs alone: the items of an array, each read at its place.
use Rattle.std.specs.Prelude.{◌≡◌, ℕ, ◌+◌, ◌≤◌, ◌<◌, length, List, [], ◌∷◌, ◌++◌, Option, Some, None, Result, Ok, Err}
use Rattle.std.specs.Prelude.{Vec}
use Rattle.std.specs.declared.alloc.Global.{Global}
use Rattle.serde_json.specs.Data.{Data}
use Rattle.grove_wire.specs.declared.fault.WireFault.{WireFault}
use Rattle.grove_wire.specs.declared.place.Place.{Place}
use Rattle.grove_wire.specs.Outcomes.{◌>>=◌, of_form, each_on, few_on}
use Rattle.grove_wire.specs.Forms.{as_list}

-- all that is read, or the fault
abbrev pub outcome_of : {A : Type 0} → List A → Option WireFault → Result (List A) WireFault
outcome_of all None = Ok all
outcome_of all (Some fault) = Err fault

-- items are read as this, at most so many
abbrev pub AreReadAs : {A : Type 0} → (Place → Data → Result A WireFault) → ℕ → Place
    → Result (Vec A Global) WireFault → List Data → Type 0
AreReadAs read most place outcome ds = (outcome >>= λ all. Ok all.items) ≡ few_on most read place ds

-- a value is an array whose items are read as this
abbrev pub IsReadAs : {A : Type 0} → (Place → Data → Result A WireFault) → ℕ → Place
    → Result (Vec A Global) WireFault → Data → Type 0
IsReadAs read most place outcome d =
    (outcome >>= λ all. Ok all.items) ≡ (of_form as_list place d >>= few_on most read place)

-- one more item after what was read
abbrev pub with_next : {A : Type 0} → Result (List A) WireFault → Result A WireFault → Result (List A) WireFault
with_next before next = before >>= λ xs. next >>= λ x. Ok (xs ++ x ∷ [])

-- so many items of an array, and one more than may be at most, are read as this
pub record Tally {A : Type 0} (read : Place → Data → Result A WireFault) (most : ℕ) (place : Place)
    (front : List Data) (count : ℕ) (outcome : Result (List A) WireFault) : Type 0 where
  pub bound : count ≤ most + 1
  pub counted : count ≤ most → count ≡ length front
  pub told : count ≤ most → each_on read place front ≡ outcome
  pub many : most < count → most < length front
