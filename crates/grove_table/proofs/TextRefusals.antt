-- Why a text is refused, from its rows.
use Rattle.std.proofs.Common.{◌≡◌, ◌<◌, ◌≤◌, ℕ, List, [], ◌∷◌, Some, refl, inl, inr, arith}
use Rattle.std.proofs.Common.{length, slice_get, Result, Ok, Err, OnOk, IfErr}
use Rattle.std.proofs.lemmas.Option.{none-some, same_Some}
use Rattle.grove_table.proofs.LookedAt.{kept_all}
use Rattle.grove_table.specs.declared.fault.TableFault.{TableFault}
use Rattle.grove_table.specs.declared.fault.TableFault.TheVariants.{Empty, Line, Unlike, Memory}
use Rattle.grove_table.specs.Tables.{AreRowsOf}
use Rattle.grove_table.specs.Refusals.{AreBelow, AreFaultless, IsFaultless, IsHeader, IsTextRefused}
use Rattle.grove_table.specs.Rows.{AreRowsRefused, IsHeaderFault, IsRowFault}

-- the first row that breaks one
pub row_refuses : (rows : List (List (List ℕ))) (place : ℕ) (row : List (List ℕ)) (fault : TableFault)
    → ((before : ℕ) (fields : List (List ℕ)) → before < place → slice_get rows before ≡ Some fields
    → IsFaultless fields) → slice_get rows place ≡ Some row → IsRowFault row fault → AreRowsRefused rows fault
row_refuses rows place row Memory kept at why = tt
row_refuses rows place row (Line fault) kept at why =
    (place, row, at, why, λ before other less is. kept before other less is)
row_refuses rows place row Empty kept at why = why
row_refuses rows place row Unlike kept at why = why

-- or for a row below
pub below_refuses : (text : List ℕ) (rows below : List (List (List ℕ))) (fault : TableFault) → AreRowsOf text rows
    → AreBelow rows below → AreRowsRefused below fault → IsTextRefused text fault
below_refuses text rows below Memory are is why = tt
below_refuses text rows below (Line fault) are is why = (rows, are, inr (below, is, why))
below_refuses text rows below Empty are is why = why
below_refuses text rows below Unlike are is why = why

-- or for its header
pub header_refuses : (text : List ℕ) (header : List (List ℕ)) (below : List (List (List ℕ))) (fault : TableFault)
    → AreRowsOf text (header ∷ below) → IsHeader header → IsHeaderFault header fault → IsTextRefused text fault
header_refuses text header below Memory are is why = tt
header_refuses text header below (Line fault) are is why =
    (header ∷ below, are, inl (header, refl, is, why.0, why.1, why.2))
header_refuses text header below Empty are is why = why
header_refuses text header below Unlike are is why = why

-- the rows of a text whose first is no header
pub headless : (rows : List (List (List ℕ))) (first : List (List ℕ)) (more : List (List (List ℕ)))
    → rows ≡ first ∷ more → ¬ IsHeader first → AreBelow rows rows
headless rows first more is none = grind (arith, same_Some)

-- or of one that has none
pub rowless : (rows : List (List (List ℕ))) → length rows ≡ 0 → AreBelow rows rows
rowless [] is = inr (refl, λ other at head. none-some other at)
rowless (row ∷ rows) is = absurd (omega arith)

-- what follows where a result is right, or where it is an error
pub on_ok : {T E : Type 0} (result : Result T E) (P Q : Type 0) → OnOk result P → (P → Q) → OnOk result Q
on_ok (Ok value) P Q is goes = goes is
on_ok (Err error) P Q is goes = tt

pub if_err : {T E : Type 0} (result : Result T E) (P Q : E → Type 0) → IfErr result P
    → ((error : E) → P error → Q error) → IfErr result Q
if_err (Ok value) P Q is goes = tt
if_err (Err error) P Q is goes = goes error is

-- rows that were all looked at
pub all_faultless : (rows : List (List (List ℕ))) (place : ℕ)
    → ((before : ℕ) (fields : List (List ℕ)) → before < place → slice_get rows before ≡ Some fields
    → IsFaultless fields) → length rows ≤ place → AreFaultless rows
all_faultless rows place kept all at fields is = kept_all IsFaultless rows place kept all at fields is
