-- A store as a list of numbers, and as what payloads stand for.
use Rattle.std.specs.Prelude.{◌≡◌, ℕ, ℤ, List, [], ◌∷◌, ◌++◌, map, All, FitsSigned}
use Rattle.std.specs.Int.{w64, cast_unsigned}
use Rattle.grove_tree.specs.Weights.{unweighed, weights_of}
use Rattle.grove_effects.specs.Effects.{AreWords, LeadsTo}
use Rattle.grove_effects.specs.Snapshots.{Names, snapshot}
use Rattle.grove_store.specs.StoreStates.{StoreState}

-- the 64 bits of each record
abbrev pub bits_of : List ℤ → List ℕ
bits_of records = map (cast_unsigned w64) records

-- the numbers of a store
unfoldable pub numbers_of : StoreState → List ℕ
numbers_of store = weights_of store.rows ++ bits_of store.records ++ store.waits ++ store.rounds ∷ []

-- payloads stand for names and numbers: they are a snapshot of the names, and effects that lead to the numbers
pub record Hold (payloads : List (List ℕ)) (names : Names) (numbers : List ℕ) : Type 0 where
  pub first : List ℕ
  pub effects : List (List ℕ)
  pub begins : payloads ≡ snapshot names first ∷ effects
  pub words : AreWords first
  pub leads : LeadsTo first effects numbers

-- payloads stand for a store: for its names and its numbers, and each of its records is one of 64 bits
pub record IsStoreIn (payloads : List (List ℕ)) (store : StoreState) : Type 0 where
  pub numbers : Hold payloads (unweighed store.rows) (numbers_of store)
  pub records : All (FitsSigned w64) store.records
