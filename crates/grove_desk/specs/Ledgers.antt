-- For the proofs alone: a store, its journal and what keeps it, which change together.
use Rattle.std.specs.Prelude.{◌≡◌, ℕ, ◌+◌, ◌-◌, ◌<◌, ◌^◌, ◌↔◌, min, Bool, true, false, List, [], ◌∷◌, ◌++◌}
use Rattle.std.specs.Prelude.{Option, Some, None, length, map, take, drop, All, IsSome}
use Rattle.std.specs.Option.{option_map}
use Rattle.grove_store.specs.StoreStates.{StoreState}
use Rattle.grove_desk.specs.Receipts.{ReceiptState, AreNumberedFrom}
use Rattle.grove_desk.specs.Histories.{RoundState, IsRound, Leads, Led, store_before, receipts_in}
use Rattle.grove_line.specs.declared.asked.Asked.{Asked}

-- every round since the opening, and the number of their lines, held at the greatest
pub record JournalState : Type 0 where
  pub rounds : List RoundState
  pub lines : ℕ

-- a store, what keeps it, its journal, and whether a round couldn't be kept
pub record LedgerState (K : Type 0) : Type 0 where
  pub store : StoreState
  pub keeper : K
  pub journal : Option JournalState
  pub failed : Bool

-- a round more
abbrev pub noted_in : RoundState → JournalState → JournalState
noted_in round journal = record {
  rounds = journal.rounds ++ round ∷ [];
  lines = min (journal.lines + length round.receipts) (2 ^ 64 - 1);
}

-- all of these rounds more
abbrev pub noted_all : List RoundState → JournalState → JournalState
noted_all [] journal = journal
noted_all (round ∷ rounds) journal = noted_all rounds (noted_in round journal)

-- the number of the next line
abbrev pub next_number : Option JournalState → Option ℕ
next_number None = None
next_number (Some journal) = Some journal.lines

-- the rounds lead from the opening store to the last one, and their receipts are numbered
pub record IsJournal (opening : StoreState) (journal : JournalState) (last : StoreState) : Type 0 where
  pub leads : Leads journal.rounds last
  pub begins : store_before journal.rounds last ≡ opening
  pub counted : journal.lines ≡ min (length (receipts_in journal.rounds)) (2 ^ 64 - 1)
  pub numbered : AreNumberedFrom (Some 0) (receipts_in journal.rounds)

abbrev pub IsJournalOf : StoreState → Option JournalState → StoreState → Type 0
IsJournalOf opening None last = Unit {0}
IsJournalOf opening (Some journal) last = IsJournal opening journal last

-- lawful rounds lead from the opening store to this one, whether or not they were noted, and a journal has them all
pub record IsAccount (opening : StoreState) (kept : Bool) (store : StoreState) (journal : Option JournalState) : Type 0
  where
    pub led : Led opening store
    pub account : IsJournalOf opening journal store
    pub keeps : IsSome journal ↔ (kept ≡ true)

-- and the keeper stands for the store, unless it has failed
pub record IsLedger {K : Type 0} (stands_for : K → StoreState → Type 0) (opening : StoreState) (kept : Bool)
    (ledger : LedgerState K) : Type 0 where
  pub account : IsAccount opening kept ledger.store ledger.journal
  pub stands : ledger.failed ≡ false → stands_for ledger.keeper ledger.store

-- the receipts of the first of the lines, with these replies and this count of rounds, numbered from the first on
pub record AreReceiptsOf (first : Option ℕ) (lines replies : List (List ℕ)) (rounds : ℕ)
    (receipts : List ReceiptState) : Type 0 where
  pub asked : map (λ receipt. receipt.line) receipts ≡ take (length replies) lines
  pub replied : map (λ receipt. receipt.reply) receipts ≡ replies
  pub counted : All (λ receipt. receipt.rounds ≡ rounds) receipts
  pub numbered : AreNumberedFrom first receipts

-- the first of the lines that were taken have these receipts, by one round, and the lines behind them are as they were
pub record AreAnswered {T : Type 0} (before after : StoreState) (old new : List (Asked T))
    (receipts : List ReceiptState) : Type 0 where
  pub lines : map (λ receipt. receipt.line) receipts ≡ take (length receipts) (map (λ asked. asked.line) old)
  pub round : IsRound before receipts after
  pub left : drop (length receipts) new ≡ drop (length receipts) old

-- rounds, one after the other, answer the first of the lines that were taken, and a journal has each
pub record AreAnsweredInTurn {T : Type 0} (before after : StoreState) (journal later : Option JournalState)
    (old new : List (Asked T)) (receipts : List ReceiptState) : Type 0 where
  pub rounds : List RoundState
  pub leads : Leads rounds after
  pub begins : store_before rounds after ≡ before
  pub some : 0 < length receipts
  pub told : receipts ≡ receipts_in rounds
  pub lines : map (λ receipt. receipt.line) receipts ≡ take (length receipts) (map (λ asked. asked.line) old)
  pub noted : later ≡ option_map (noted_all rounds) journal
  pub left : drop (length receipts) new ≡ drop (length receipts) old
