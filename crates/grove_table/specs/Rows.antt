-- For the proofs alone: faults of one row, and of rows that are looked at in turn.
use Rattle.std.specs.Prelude.{◌≡◌, ⊤, ℕ, List, [], ◌∷◌, codes, slice_get, Some, string_bytes}
use Rattle.grove_table.specs.declared.fault.Reason.{Reason}
use Rattle.grove_table.specs.declared.fault.Reason.TheVariants.{BadHeader}
use Rattle.grove_table.specs.declared.fault.TableFault.{TableFault}
use Rattle.grove_table.specs.declared.fault.TableFault.TheVariants.{Empty, Line, Unlike, Memory}
use Rattle.grove_table.specs.Tables.{field_of}
use Rattle.grove_table.specs.Refusals.{IsNoLine, IsRowRefused, IsWellNamed}

-- a fault tells a line's number, a reason and what it is about, unless memory ran out
abbrev pub Tells : ℕ → Reason → List ℕ → TableFault → Type 0
Tells number reason about Memory = ⊤
Tells number reason about (Line fault) =
    (fault.number ≡ number) × (fault.reason ≡ reason) × (string_bytes fault.about ≡ about)
Tells number reason about Empty = ⊥
Tells number reason about Unlike = ⊥

-- a header's field has the name of its place
abbrev pub IsNamedAt : List (List ℕ) → ℕ → Type 0
IsNamedAt fields place =
    slice_get (codes "path" ∷ codes "weight" ∷ codes "value" ∷ []) place ≡ Some (field_of fields place)

-- the fault of a header, of a row and of rows, unless memory ran out
abbrev pub IsHeaderFault : List (List ℕ) → TableFault → Type 0
IsHeaderFault fields Memory = ⊤
IsHeaderFault fields (Line fault) = ¬ IsWellNamed fields × (fault.reason ≡ BadHeader) × (string_bytes fault.about ≡ [])
IsHeaderFault fields Empty = ⊥
IsHeaderFault fields Unlike = ⊥

abbrev pub IsRowFault : List (List ℕ) → TableFault → Type 0
IsRowFault fields Memory = ⊤
IsRowFault fields (Line fault) = IsNoLine fields fault
IsRowFault fields Empty = ⊥
IsRowFault fields Unlike = ⊥

abbrev pub AreRowsRefused : List (List (List ℕ)) → TableFault → Type 0
AreRowsRefused rows Memory = ⊤
AreRowsRefused rows (Line fault) = IsRowRefused rows fault
AreRowsRefused rows Empty = ⊥
AreRowsRefused rows Unlike = ⊥
