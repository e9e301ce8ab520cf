-- What a handle owns and holds, and how a call by one ends.
use Rattle.std.specs.Prelude.{◌≡◌, ◌≢◌, ℕ, ℤ, List, [], Option, Some, None, Result, Ok}
use base.Fml.{Fml, feq}
use denote.RawPtr.{Ptr, null_ptr}
use Rattle.std.specs.declared.alloc.Global.{Global}
use Rattle.std.specs.contracts.impls.GlobalAllocator.TheImpl.{ghosts}
use Rattle.std_alloc.specs.Box.Ownership.{box_owns}
use Rattle.grove_tree.specs.Trees.{Rows}
use Rattle.grove_wire.specs.declared.fault.WireFault.{WireFault}
use Rattle.grove_wire.specs.Outcomes.{◌>>=◌}
use Rattle.grove_wire.specs.Reading.{document_of, tree_in}
use Rattle.grove_answer.specs.Outcomes.{Outcome, ThenSays}
use Rattle.grove_session.specs.Sessions.{IsReplied}
use Rattle.grove_store.specs.StoreStates.{opened}
use Rattle.grove_store.specs.Rounds.{IsAnswerAlone}
use Rattle.grove_c.specs.declared.kept.Kept.{Kept}
use Rattle.grove_c.specs.declared.kept.Kept.TheVariants.{Tree, Store}
use Rattle.grove_c.specs.declared.kept_store.KeptStore.{KeptStore}
use Rattle.grove_c.specs.contracts.kept.Kept.{the_row}
use Rattle.grove_c.specs.declared.telling.Told.{Told}
use Rattle.grove_c.specs.Tellings.{Tells}

-- the box at the pointer, or nothing where that is null
abbrev pub handle_owns : Global → Ptr → Option Kept → Fml
handle_owns alloc at None = feq Ptr at null_ptr
handle_owns alloc at (Some kept) = box_owns (ghosts.dealloc_token alloc) the_row at kept

-- ---- a handle is opened

-- the tree of the document that the bytes are, with a record for each node
abbrev pub stored_in : List ℕ → Result (Rows × List ℤ) WireFault
stored_in bytes = document_of bytes >>= tree_in

-- what is kept is the tree
abbrev pub IsTreeOf : Rows × List ℤ → Kept → Type 0
IsTreeOf stored kept = kept ≡ Tree stored.0

-- what is kept is a store of the tree and the records, of one worker, which has replied nothing
abbrev pub IsStoreOf : Rows × List ℤ → Kept → Type 0
IsStoreOf stored (Tree rows) = ⊥
IsStoreOf stored (Store kept) = (kept.store ≡ opened stored.0 stored.1 1) × (kept.reply.items ≡ [])

-- the handle holds what is made of the document, and nothing is said; or what it held before
pub record Opens (IsOf : Rows × List ℤ → Kept → Type 0) (bytes : List ℕ) (old new : Option Kept) (before after : List ℕ)
    (told : Told) : Type 0 where
  pub tells : Tells (ThenSays (stored_in bytes) (λ stored outcome. outcome ≡ Ok [])) before after told
  pub opened : told.status ≡ 0
      → (stored : Rows × List ℤ) × (kept : Kept) × (stored_in bytes ≡ Ok stored) × IsOf stored kept × (new ≡ Some kept)
  pub refused : told.status ≢ 0 → new ≡ old

-- ---- a call asks what is held

-- there is nothing that the call is about
abbrev pub IsClosed : List ℕ → List ℕ → Told → Type 0
IsClosed before after told = (told.status ≡ 4) × (told.length ≡ 0) × (after ≡ before)

-- what may be said of the tree is told
abbrev pub OfTree : (Rows → Outcome → Type 0) → Kept → List ℕ → List ℕ → Told → Type 0
OfTree MaySay (Tree rows) before after told = Tells (MaySay rows) before after told
OfTree MaySay (Store kept) before after told = IsClosed before after told

-- the store's last reply is told
abbrev pub OfStore : Kept → List ℕ → List ℕ → Told → Type 0
OfStore (Tree rows) before after told = IsClosed before after told
OfStore (Store kept) before after told = Tells (λ said. said ≡ Ok kept.reply.items) before after told

-- so much is told of what is held, if anything is, and what is held stays
abbrev pub Asks : (Kept → List ℕ → List ℕ → Told → Type 0) → Option Kept → Option Kept → List ℕ → List ℕ → Told → Type 0
Asks TellsOf None new before after told = (new ≡ None) × IsClosed before after told
Asks TellsOf (Some kept) new before after told = (new ≡ Some kept) × TellsOf kept before after told

-- ---- a store that is held answers a line

-- the reply is lawful, is told, and is kept with the store that it leaves; only out of memory all is as it was
pub record Replies (line : List ℕ) (old new : KeptStore) (before after : List ℕ) (told : Told) : Type 0 where
  pub tells : Tells (λ said. (said ≡ Ok new.reply.items)
      × IsReplied IsAnswerAlone old.store line new.reply.items new.store) before after told
  pub stays : told.status ≡ 3 → new ≡ old

abbrev pub AnswersBy : List ℕ → Kept → Kept → List ℕ → List ℕ → Told → Type 0
AnswersBy line (Tree rows) new before after told = (new ≡ Tree rows) × IsClosed before after told
AnswersBy line (Store old) new before after told =
    (kept : KeptStore) × (new ≡ Store kept) × Replies line old kept before after told

abbrev pub Answers : List ℕ → Option Kept → Option Kept → List ℕ → List ℕ → Told → Type 0
Answers line None new before after told = (new ≡ None) × IsClosed before after told
Answers line (Some old) new before after told =
    (kept : Kept) × (new ≡ Some kept) × AnswersBy line old kept before after told
