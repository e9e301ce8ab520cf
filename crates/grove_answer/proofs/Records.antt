-- Accesses keep the number of records.
use Rattle.std.proofs.Common.{◌≡◌, ℤ, List, [], ◌∷◌, length, refl, ◌∙◌, length-set}
use Rattle.grove_access.specs.declared.access.Access.{Access}
use Rattle.grove_access.specs.Effects.{changed_by, records_after}

pub records_keep_number : (accesses : List Access) (records : List ℤ) → length (records_after accesses records) ≡ length records
records_keep_number [] records = refl
records_keep_number (access ∷ accesses) records =
    records_keep_number accesses (changed_by access records) ∙ length-set records access.node _
