-- For the proofs alone: what a line is answered at a desk.
use Rattle.std.specs.Prelude.{◌≡◌, ℕ, false, List, Option}
use Rattle.grove_store.specs.StoreStates.{StoreState}
use Rattle.grove_desk.specs.Desks.{DeskState}
use Rattle.grove_desk.specs.declared.fault.DeskFault.{DeskFault}
use Rattle.grove_desk.specs.declared.fault.DeskFault.TheVariants as fault
use Rattle.grove_desk.specs.declared.fault.NoReceipt.{NoReceipt}
use Rattle.grove_desk.specs.declared.fault.NoReceipt.TheVariants.{Memory, Unkept}
use Rattle.grove_desk.specs.Receipts.{ReceiptState, ComesAfter, IsForeignReceipt}
use Rattle.grove_desk.specs.Histories.{IsKeptReceipt, IsDeskReceipt}

-- a receipt of this line that the desk allows, after one that was seen
pub record IsReceiptFor {K : Type 0} (stands_for : K → StoreState → Type 0) (desk : DeskState) (asked : List ℕ)
    (seen : Option ReceiptState) (receipt : ReceiptState) : Type 0 where
  pub line : receipt.line ≡ asked
  pub answered : IsKeptReceipt stands_for desk.opening receipt
  pub follows : ComesAfter desk.kept seen receipt
  pub unnumbered : desk.kept ≡ false → receipt.number ≡ 0

-- what the desk answered is another line's, or doesn't come after the one that was seen
abbrev pub AnswersAnother : {K : Type 0} → (K → StoreState → Type 0) → DeskState → List ℕ → Option ReceiptState → Type 0
AnswersAnother stands_for desk line seen = (receipt : ReceiptState)
    × IsDeskReceipt stands_for desk.opening desk.kept receipt × IsForeignReceipt desk.kept line seen receipt

-- what the caller of a line is told where its round gives no receipts
abbrev pub fault_of : NoReceipt → DeskFault
fault_of Memory = fault.Memory
fault_of Unkept = fault.Unkept
