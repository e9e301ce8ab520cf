-- The store that a file opens as, whatever a crash made of its end.
use Rattle.std.specs.Prelude.{◌≡◌, ◌⊎◌, ℕ, List, None}
use Rattle.grove_log.specs.Files.{fault_of, recovered}
use Rattle.grove_store.specs.StoreStates.{StoreState, IsStore}
use Rattle.grove_data.specs.Numbers.{IsStoreIn}

-- a file opens as a store
pub record OpensAs (file : List ℕ) (store : StoreState) : Type 0 where
  pub readable : fault_of file ≡ None
  pub is_store : IsStore store
  pub stands : IsStoreIn (recovered file) store

-- a file opens as a store with this property
abbrev pub OpensWith : (StoreState → Type 0) → List ℕ → Type 0
OpensWith P file = (store : StoreState) × OpensAs file store × P store

-- a file is as it was, or opens as a store
abbrev pub IsOldOrOpens : List ℕ → StoreState → List ℕ → Type 0
IsOldOrOpens old store file = (file ≡ old) ⊎ OpensAs file store
