-- What a reader answers, out of memory aside.
use Rattle.std.specs.Prelude.{◌≡◌, ℕ, suc, List, [], ◌∷◌, length, nat_lt, Option, Some, None, Result, Ok, Err}
use Rattle.std.specs.Prelude.{if◌then◌else◌}
use Rattle.serde_json.specs.Data.{Data}
use Rattle.grove_wire.specs.declared.fault.WireFault.{WireFault}
use Rattle.grove_wire.specs.declared.fault.WireFault.TheVariants.{Shape, Limit, Memory}
use Rattle.grove_wire.specs.declared.place.Place.{Place}
use Rattle.grove_wire.specs.Places.{item_on}

-- one reading after another, up to the first fault
infixl 10 ◌>>=◌
abbrev pub ◌>>=◌ : {A B : Type 0} → Result A WireFault → (A → Result B WireFault) → Result B WireFault
(Ok x) >>= next = next x
(Err fault) >>= next = Err fault

-- what is there, or else a fault
abbrev pub or_fault : {A : Type 0} → WireFault → Option A → Result A WireFault
or_fault fault None = Err fault
or_fault fault (Some x) = Ok x

-- what stands at a place, of some form
abbrev pub of_form : {A : Type 0} → (Data → Option A) → Place → Data → Result A WireFault
of_form form place d = or_fault (Shape place) (form d)

-- what is read of a member, where there is one
abbrev pub if_there : {A : Type 0} → (Data → Result A WireFault) → Option Data → Result (Option A) WireFault
if_there read None = Ok None
if_there read (Some d) = read d >>= λ x. Ok (Some x)

-- the items of a list, each read at its number, up to the first fault
abbrev pub each_from : {A : Type 0} → (ℕ → Data → Result A WireFault) → ℕ → List Data → Result (List A) WireFault
each_from read at [] = Ok []
each_from read at (d ∷ ds) = do
  first ← read at d
  others ← each_from read (suc at) ds
  Ok (first ∷ others)

-- and each at its place within the list's
abbrev pub each_on : {A : Type 0} → (Place → Data → Result A WireFault) → Place → List Data → Result (List A) WireFault
each_on read place ds = each_from (λ at. read (item_on place at)) 0 ds

-- of which there are at most so many
abbrev pub few_on : {A : Type 0} → ℕ → (Place → Data → Result A WireFault) → Place → List Data
    → Result (List A) WireFault
few_on most read place ds = if nat_lt most (length ds) then Err (Limit place) else each_on read place ds

-- a call fails as a definition says, or runs out of memory
abbrev pub Fails : {A : Type 0} → WireFault → Result A WireFault → Type 0
Fails Memory read = Unit {0}
Fails fault read = read ≡ Err fault

-- what a call answers, seen by a function, is what a definition gives
abbrev pub Gives : {T A : Type 0} → (T → A) → Result T WireFault → Result A WireFault → Type 0
Gives seen (Ok x) read = read ≡ Ok (seen x)
Gives seen (Err fault) read = Fails fault read
