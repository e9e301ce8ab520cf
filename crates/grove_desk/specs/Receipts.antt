-- Receipts: what a desk tells of a line that it answered.
use Rattle.std.specs.Prelude.{◌≡◌, ℕ, ◌+◌, ◌-◌, ◌^◌, ◌<◌, ◌≤◌, min, Bool, true, List, Option, Some, None, length}
use Rattle.std.specs.Prelude.{get_or, slice_get, IfSome}
use Rattle.grove_tree.specs.Weights.{unweighed}
use Rattle.grove_store.specs.StoreStates.{StoreState}
use Rattle.grove_store.specs.Rounds.{IsLawfulRound}

-- the names of a tree: the parent and the name of each node
abbrev pub Names : Type 0
Names = List (Option ℕ × List ℕ)

-- a line, its reply, its place among all lines that were answered, and the store's count of rounds afterwards
pub record ReceiptState : Type 0 where
  pub number : ℕ
  pub line : List ℕ
  pub reply : List ℕ
  pub rounds : ℕ

-- some lawful round over a store with these names answers the line so, alone or among others, and leaves this count
pub record Allows (names : Names) (line reply : List ℕ) (rounds : ℕ) : Type 0 where
  pub before : StoreState
  pub after : StoreState
  pub lines : List (List ℕ)
  pub replies : List (List ℕ)
  pub place : ℕ
  pub over : unweighed before.rows ≡ names
  pub round : IsLawfulRound before lines replies after
  pub asked : slice_get lines place ≡ Some line
  pub replied : slice_get replies place ≡ Some reply
  pub counted : after.rounds ≡ rounds

abbrev pub IsAllowed : Names → ReceiptState → Type 0
IsAllowed names receipt = Allows names receipt.line receipt.reply receipt.rounds

-- a receipt after one that was seen: its count of rounds isn't lower, and where a journal is kept its number is higher
pub record ComesAfter (kept : Bool) (seen : Option ReceiptState) (receipt : ReceiptState) : Type 0 where
  pub rounds : IfSome seen (λ earlier. earlier.rounds ≤ receipt.rounds)
  pub number : kept ≡ true → IfSome seen (λ earlier. earlier.number < receipt.number)

-- a receipt of another line, or one that doesn't come after the one that was seen
abbrev pub IsForeignReceipt : Bool → List ℕ → Option ReceiptState → ReceiptState → Type 0
IsForeignReceipt kept line seen receipt = receipt.line ≡ line → ComesAfter kept seen receipt → ⊥

-- the number of a line, counted from that of the first one and held at the greatest; 0 where nothing is counted
abbrev pub number_at : Option ℕ → ℕ → ℕ
number_at None place = 0
number_at (Some first) place = min (first + place) (2 ^ 64 - 1)

-- the receipts have the numbers from the first one on
abbrev pub AreNumberedFrom : Option ℕ → List ReceiptState → Type 0
AreNumberedFrom first receipts = (place : ℕ) (other : ReceiptState) → place < length receipts
    → (get_or receipts place other).number ≡ number_at first place
