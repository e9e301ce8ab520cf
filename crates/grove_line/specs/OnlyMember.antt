-- For the proofs alone: the one member of an object, and what it asks for, read a member at a time.
use Rattle.std.specs.Prelude.{◌≡◌, ◌⊎◌, ℕ, suc, ◌≤◌, codes, List, Result, Err}
use Rattle.serde_json.specs.Data.{Data, Members, no_members, member}
use Rattle.grove_tree.specs.Trees.{Rows}
use Rattle.grove_wire.specs.declared.fault.WireFault.{WireFault}
use Rattle.grove_wire.specs.declared.fault.WireFault.TheVariants.{Shape}
use Rattle.grove_wire.specs.declared.place.Part.TheVariants as part
use Rattle.grove_wire.specs.Outcomes.{◌>>=◌, of_form}
use Rattle.grove_wire.specs.Places.{whole_of}
use Rattle.grove_wire.specs.Requests.{Asked, named_of, only_member}
use Rattle.grove_line.specs.declared.only.Name.{Name}
use Rattle.grove_line.specs.declared.only.Name.TheVariants as name
use Rattle.grove_line.specs.declared.only.Only.{Only}
use Rattle.grove_line.specs.declared.only.Only.TheVariants.{Nothing, One, Other}
use Rattle.grove_line.specs.CheckReading.{asked}

abbrev pub text_of : Name → List ℕ
text_of name.Plan = codes "plan"
text_of name.Check = codes "check"
text_of name.Batch = codes "batch"
text_of name.Weights = codes "weights"
text_of name.Reweigh = codes "reweigh"

-- what a value asks for
abbrev pub asks : Rows → Data → Result Asked WireFault
asks tree d = of_form only_member (whole_of part.Whole) d >>= λ only. named_of tree only.0 only.1

-- a member of the name asks for nothing
abbrev pub IsUnknown : List ℕ → Type 0
IsUnknown text = (tree : Rows) (d : Data) → named_of tree text d ≡ Err (Shape (whole_of part.Whole))

abbrev pub count : Members → ℕ
count no_members = 0
count (member name d ms) = suc (count ms)

-- several members, or one that asks for nothing
abbrev pub IsShapeless : Members → Type 0
IsShapeless ms = (2 ≤ count ms)
    ⊎ ((text : List ℕ) × (d : Data) × (ms ≡ member text d no_members) × IsUnknown text)

-- these members of an object are read so
abbrev pub IsOnly : Rows → Only → Members → Type 0
IsOnly tree Nothing ms = ms ≡ no_members
IsOnly tree (One name outcome) ms =
    (d : Data) × (ms ≡ member (text_of name) d no_members) × (asked outcome ≡ named_of tree (text_of name) d)
IsOnly tree Other ms = IsShapeless ms
