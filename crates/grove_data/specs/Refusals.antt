-- Why no store is read from a file.
use Rattle.std.specs.Prelude.{◌≡◌, ℕ, List, Some}
use Rattle.grove_log.specs.Files.{fault_of}
use Rattle.grove_store.specs.StoreStates.{StoreState}
use Rattle.grove_data.specs.Files.{OpensAs}
use Rattle.grove_data.specs.declared.reading.NoStoreThere.{NoStoreThere}
use Rattle.grove_data.specs.declared.reading.NoStoreThere.TheVariants.{Memory, Unreadable, Unfit}

-- what is wrong with the file is said by name, and one that is unfit opens as no store
abbrev pub IsRefused : List ℕ → NoStoreThere → Type 0
IsRefused file Memory = Unit {0}
IsRefused file (Unreadable fault) = fault_of file ≡ Some fault
IsRefused file Unfit = (store : StoreState) → ¬ OpensAs file store
