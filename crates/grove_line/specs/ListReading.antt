-- For the proofs alone: lists that are read before it is known which version they have.
use Rattle.std.specs.Prelude.{◌≡◌, List, Option, Some, None, Result, Err}
use Rattle.serde_json.specs.Data.{Data}
use Rattle.grove_tree.specs.Trees.{Rows}
use Rattle.grove_access.specs.declared.access.Access.{Access}
use Rattle.grove_wire.specs.declared.fault.WireFault.{WireFault}
use Rattle.grove_wire.specs.declared.fault.WireFault.TheVariants.{Shape}
use Rattle.grove_wire.specs.declared.place.Place.{Place}
use Rattle.grove_wire.specs.declared.versions.Version.{Version}
use Rattle.grove_wire.specs.declared.versions.Version.TheVariants.{First, Second}
use Rattle.grove_wire.specs.Outcomes.{few_on}
use Rattle.grove_wire.specs.Reading.{access_at, list_on}
use Rattle.grove_line.specs.declared.accesses.Accesses.{Accesses}
use Rattle.grove_line.specs.declared.list_read.ListRead.{ListRead}
use Rattle.grove_line.specs.ArrayItems.{outcome_of, Tally}

-- in the first version an access that tells a length is none
abbrev pub unless_told : {A : Type 0} → Option Place → Result A WireFault → Result A WireFault
unless_told None read = read
unless_told (Some place) read = Err (Shape place)

abbrev pub second_of : Accesses → Result (List Access) WireFault
second_of accesses = outcome_of accesses.all.items accesses.fault

abbrev pub first_of : Accesses → Result (List Access) WireFault
first_of accesses = unless_told accesses.told (second_of accesses)

-- these items of a list that stands at a place are read so
pub record IsReading (tree : Rows) (place : Place) (front : List Data) (accesses : Accesses) : Type 0 where
  pub first : Tally (access_at tree First) 64 place front accesses.count (first_of accesses)
  pub second : Tally (access_at tree Second) 64 place front accesses.count (second_of accesses)

-- what a list is in a version
abbrev pub read_in : Version → ListRead → Result (List Access) WireFault
read_in First read = unless_told read.told read.list
read_in Second read = read.list

-- in each version the items of a list that stands at a place are read so
abbrev pub AreListed : Rows → Place → ListRead → List Data → Type 0
AreListed tree place read ds =
    (version : Version) → read_in version read ≡ few_on 64 (access_at tree version) place ds

-- and a value so
abbrev pub IsListRead : Rows → Place → ListRead → Data → Type 0
IsListRead tree place read d = (version : Version) → read_in version read ≡ list_on tree version place d
