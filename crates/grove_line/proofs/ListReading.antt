-- A list that is read before it is known which version it has, as a value.
use Rattle.std.proofs.Common.{◌≡◌, List, Some, None, option_map, ap, sym, ◌∙◌}
use Rattle.serde_json.specs.Data.{Data}
use Rattle.serde_json.specs.Find.{as_array}
use Rattle.grove_tree.specs.Trees.{Rows}
use Rattle.grove_wire.specs.declared.fault.WireFault.TheVariants.{Shape}
use Rattle.grove_wire.specs.declared.place.Place.{Place}
use Rattle.grove_wire.specs.declared.versions.Version.{Version}
use Rattle.grove_wire.specs.declared.versions.Version.TheVariants.{First, Second}
use Rattle.grove_wire.specs.Forms.{as_list, list_items}
use Rattle.grove_wire.specs.Outcomes.{◌>>=◌, or_fault}
use Rattle.grove_wire.specs.Reading.{list_of, list_on}
use Rattle.std.specs.Prelude.{Err}
use Rattle.grove_line.specs.declared.list_read.ListRead.{ListRead}
use Rattle.grove_line.specs.ListReading.{read_in, AreListed, IsListRead}

pub list_of_items : (tree : Rows) (place : Place) (read : ListRead) (ds : List Data) (d : Data) → as_list d ≡ Some ds
    → AreListed tree place read ds → IsListRead tree place read d
unfolding list_on
list_of_items tree place read ds d listed are version =
    are version ∙ ap (λ o. or_fault (Shape place) o >>= list_of tree version place) (sym listed)

shapeless : (tree : Rows) (version : Version) (place : Place) (d : Data) → as_array d ≡ None
    → Err (Shape place) ≡ list_on tree version place d
unfolding list_on
shapeless tree version place d none =
    ap (λ o. or_fault (Shape place) (option_map list_items o) >>= list_of tree version place) (sym none)

-- what is no array is no list
pub no_list_read : (tree : Rows) (version : Version) (place : Place) (d : Data) → as_array d ≡ None
    → read_in version (record { list = Err (Shape place); told = None }) ≡ list_on tree version place d
unfolding list_on
no_list_read tree First place d none = shapeless tree First place d none
no_list_read tree Second place d none = shapeless tree Second place d none
