-- Plans that are kept, each for the lists with some targets.
use Rattle.std.specs.Prelude.{◌≡◌, ℕ, List, slice_get, Some}
use Rattle.grove_tree.specs.Trees.{Rows}
use Rattle.grove_access.specs.declared.access.Access.{Access}
use Rattle.grove_access.specs.Lists.{nodes_of, lengths_of}
use Rattle.grove_build.specs.declared.planning.Planned.{Planned}
use Rattle.grove_build.specs.Batches.{IsPlanned}

-- what is planned for the lists that name these nodes, with these lengths
pub record Kept : Type 0 where
  pub nodes : List ℕ
  pub lengths : List ℕ
  pub planned : Planned

-- it is kept for this list
pub record IsKeptFor (list : List Access) (kept : Kept) : Type 0 where
  pub nodes : kept.nodes ≡ nodes_of list
  pub lengths : kept.lengths ≡ lengths_of list

-- what is kept at this place is kept for this list
abbrev pub IsKeptAt : List Kept → List Access → ℕ → Type 0
IsKeptAt plans list place = (kept : Kept) × (slice_get plans place ≡ Some kept) × IsKeptFor list kept

-- something is kept for this list
abbrev pub IsKeptIn : List Kept → List Access → Type 0
IsKeptIn plans list = (place : ℕ) × IsKeptAt plans list place

-- each is the settled plan, over a tree, of the lists for which it is kept, with its cost and a certificate of it
abbrev pub AreSettledFor : Rows → List Kept → Type 0
AreSettledFor rows plans = (place : ℕ) (kept : Kept) → slice_get plans place ≡ Some kept
    → (list : List Access) → IsKeptFor list kept → IsPlanned rows list kept.planned
