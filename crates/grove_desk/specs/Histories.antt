-- Histories: the rounds that a desk had answered, and the receipts that stand in them.
use Rattle.std.specs.Prelude.{◌≡◌, ℕ, ◌+◌, ◌<◌, Bool, false, List, [], ◌∷◌, ◌++◌, Some, length, map, get_or}
use Rattle.std.specs.Prelude.{slice_get, All}
use Rattle.grove_tree.specs.Weights.{unweighed}
use Rattle.grove_store.specs.StoreStates.{StoreState}
use Rattle.grove_store.specs.Rounds.{IsLawfulRound}
use Rattle.grove_desk.specs.Receipts.{ReceiptState, Allows, AreNumberedFrom}

-- a round that was answered: the store before it, and the receipts of its lines in order
pub record RoundState : Type 0 where
  pub before : StoreState
  pub receipts : List ReceiptState

-- a lawful round over the receipts' lines, with their replies and their count of rounds
pub record IsRound (before : StoreState) (receipts : List ReceiptState) (after : StoreState) : Type 0 where
  pub round : IsLawfulRound before (map (λ receipt. receipt.line) receipts) (map (λ receipt. receipt.reply) receipts)
      after
  pub counted : All (λ receipt. receipt.rounds ≡ after.rounds) receipts

-- the store before the first of the rounds, which is the last one where there are none
abbrev pub store_before : List RoundState → StoreState → StoreState
store_before [] last = last
store_before (round ∷ rounds) last = round.before

-- each round leads from its store to that of the next, and the last one to the last store
abbrev pub Leads : List RoundState → StoreState → Type 0
Leads [] last = Unit {0}
Leads (round ∷ rounds) last = IsRound round.before round.receipts (store_before rounds last) × Leads rounds last

-- some lawful rounds lead from an opening store to the last one
pub record Led (opening last : StoreState) : Type 0 where
  pub rounds : List RoundState
  pub leads : Leads rounds last
  pub begins : store_before rounds last ≡ opening

-- a lawful round over a store to which lawful rounds lead from the opening one answers the line so
pub record Reaches (opening : StoreState) (line reply : List ℕ) (rounds : ℕ) : Type 0 where
  pub allowed : Allows (unweighed opening.rows) line reply rounds
  pub led : Led opening allowed.before

abbrev pub IsReached : StoreState → ReceiptState → Type 0
IsReached opening receipt = Reaches opening receipt.line receipt.reply receipt.rounds

-- something that keeps stores stands for this one
pub record IsKept {K : Type 0} (stands_for : K → StoreState → Type 0) (store : StoreState) : Type 0 where
  pub keeper : K
  pub stands : stands_for keeper store

-- such a round answers the line, and before the receipt was given a store was kept to which lawful rounds lead from the
-- one that it left
pub record IsKeptReceipt {K : Type 0} (stands_for : K → StoreState → Type 0) (opening : StoreState)
    (receipt : ReceiptState) : Type 0 where
  pub reached : IsReached opening receipt
  pub last : StoreState
  pub led : Led reached.allowed.after last
  pub stands : IsKept stands_for last

-- what a desk with this opening store answers: such a receipt, with the number 0 where no journal is kept
pub record IsDeskReceipt {K : Type 0} (stands_for : K → StoreState → Type 0) (opening : StoreState) (kept : Bool)
    (receipt : ReceiptState) : Type 0 where
  pub answered : IsKeptReceipt stands_for opening receipt
  pub unnumbered : kept ≡ false → receipt.number ≡ 0

-- the receipts of all rounds, in order
abbrev pub receipts_in : List RoundState → List ReceiptState
receipts_in [] = []
receipts_in (round ∷ rounds) = round.receipts ++ receipts_in rounds

-- the receipt is that of its number
abbrev pub StandsIn : List RoundState → ReceiptState → Type 0
StandsIn rounds receipt = slice_get (receipts_in rounds) receipt.number ≡ Some receipt

-- the numbers rise from receipt to receipt
abbrev pub Ascend : List ReceiptState → Type 0
Ascend receipts = (place : ℕ) (other : ReceiptState) → place + 1 < length receipts
    → (get_or receipts place other).number < (get_or receipts (place + 1) other).number

-- what led from an opening store to the last one, and how receipts stand in it: each once, and all if they are as many
pub record IsHistory (opening : StoreState) (receipts : List ReceiptState) (rounds : List RoundState)
    (last : StoreState) : Type 0 where
  pub leads : Leads rounds last
  pub begins : store_before rounds last ≡ opening
  pub numbered : AreNumberedFrom (Some 0) (receipts_in rounds)
  pub stand : All (StandsIn rounds) receipts
  pub once : Ascend receipts
  pub whole : length receipts ≡ length (receipts_in rounds) → receipts ≡ receipts_in rounds
