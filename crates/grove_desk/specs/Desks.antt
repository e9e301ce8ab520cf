-- A desk and a visit to it, as their callers see them.
use Rattle.std.specs.Prelude.{◌≡◌, ℕ, ◌<◌, ◌≤◌, Bool, true, false, List, Option, Some, None}
use Rattle.grove_store.specs.StoreStates.{StoreState}
use Rattle.grove_store.specs.Refusals.{TellsRefusal}
use Rattle.grove_desk.specs.declared.told.Told.{Told}
use Rattle.grove_desk.specs.declared.told.Told.TheVariants.{Nothing, Accepted, Refused}
use Rattle.grove_desk.specs.declared.awaited.Awaited.{Awaited}
use Rattle.grove_desk.specs.declared.awaited.Awaited.TheVariants.{Later, Unchanged}
use Rattle.grove_desk.specs.Receipts.{Names, ReceiptState, Allows}
use Rattle.grove_desk.specs.Histories.{Led}

-- the store that a desk was opened with, and whether it keeps a journal
pub record DeskState : Type 0 where
  pub opening : StoreState
  pub kept : Bool

-- the names of a desk's tree, the highest count of rounds that a visitor has seen, and what it was told last
pub record VisitState : Type 0 where
  pub names : Names
  pub rounds : ℕ
  pub told : Told

-- lawful rounds lead from the opening store to this one, which has run more of them than were waited at, or no more
abbrev pub TellsLater : StoreState → ℕ → Awaited → Type 0
TellsLater opening after (Later store) = Led opening store × (after < store.rounds)
TellsLater opening after (Unchanged store) = Led opening store × (store.rounds ≤ after)

-- the store of which a copy was waited for
abbrev pub store_told : Awaited → StoreState
store_told (Later store) = store
store_told (Unchanged store) = store

-- the count of rounds of a last receipt, 0 before the first
abbrev pub rounds_seen : Option ReceiptState → ℕ
rounds_seen None = 0
rounds_seen (Some receipt) = receipt.rounds

abbrev pub is_accepted : Told → Bool
is_accepted Accepted = true
is_accepted _ = false

-- a reply tells so much of its line
abbrev pub Tells : Told → List ℕ → Type 0
Tells Nothing reply = ⊥
Tells Accepted reply = TellsRefusal None reply
Tells (Refused refusal) reply = TellsRefusal (Some refusal) reply

-- a lawful reply to one line of many: some round over these names allows it, and the count of rounds never falls
pub record IsShared (old : VisitState) (line reply : List ℕ) (new : VisitState) : Type 0 where
  pub names : new.names ≡ old.names
  pub rises : old.rounds ≤ new.rounds
  pub allowed : Allows old.names line reply new.rounds
  pub told : Tells new.told reply
