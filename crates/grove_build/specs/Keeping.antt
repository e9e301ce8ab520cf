-- For the proofs alone: what a plan is kept for, and what a step of keeping plans may change.
use Rattle.std.specs.Prelude.{◌≡◌, ℕ, ◌≤◌, ◌⊎◌, List, length, map, slice_get, Some, All}
use Rattle.std.specs.Borrow.{Bor}
use Rattle.grove_access.specs.declared.access.Access.{Access}
use Rattle.grove_access.specs.Lists.{nodes_of, lengths_of}
use Rattle.grove_build.specs.declared.targets.Target.{Target}
use Rattle.grove_build.specs.Batches.{HaveSameTargets}
use Rattle.grove_build.specs.KeptPlans.{Kept, IsKeptAt, IsKeptIn}
use Rattle.grove_build.specs.declared.planning.Planned.{Planned}

-- the targets of a list
pub record AreTargetsOf (list : List Access) (targets : List Target) : Type 0 where
  pub nodes : map (λ (target : Target). target.node) targets ≡ nodes_of list
  pub lengths : map (λ (target : Target). target.length) targets ≡ lengths_of list

-- what is kept for the lists with these targets
abbrev pub kept_of : List Target → Planned → Kept
kept_of targets planned = record {
  nodes = map (λ (target : Target). target.node) targets;
  lengths = map (λ (target : Target). target.length) targets;
  planned = planned;
}

-- what is kept then was kept before, or is new
abbrev pub AddsAtMost : List Kept → Kept → List Kept → Type 0
AddsAtMost before new after = (place : ℕ) (kept : Kept) → slice_get after place ≡ Some kept
    → (kept ≡ new) ⊎ ((earlier : ℕ) × (slice_get before earlier ≡ Some kept))

-- for each list for which something was kept, something is kept still
abbrev pub StayKept : List Kept → List Kept → Type 0
StayKept before after = (list : List Access) → IsKeptIn before list → IsKeptIn after list

-- the first place at which something is kept for this list
pub record IsFirstFor (plans : List Kept) (list : List Access) (place : ℕ) : Type 0 where
  pub stands : IsKeptAt plans list place
  pub first : (other : ℕ) → IsKeptAt plans list other → place ≤ other

-- what is planned stands at this place
abbrev pub HoldsAt : List Kept → ℕ → Planned → Type 0
HoldsAt plans place planned = (kept : Kept) × (slice_get plans place ≡ Some kept) × (kept.planned ≡ planned)

-- a copy of what is kept for this list, at the first place
abbrev pub IsCopyFor : List Kept → List Access → Planned → Type 0
IsCopyFor plans list copy = (place : ℕ) × IsFirstFor plans list place × HoldsAt plans place copy

-- one of these lists has a list's targets
abbrev pub StandFor : List (Bor (List Access)) → List Access → Type 0
StandFor parts list = (place : ℕ) × (part : Bor (List Access)) × (slice_get parts place ≡ Some part)
    × HaveSameTargets part.now list

-- the lists of a batch that have to be planned: some of them, no two with the same targets, and none for which
-- something is kept; for each other list something is kept, or one of these has its targets
pub record AreMissing (plans : List Kept) (lists : List (List Access)) (parts : List (Bor (List Access))) : Type 0 where
  pub few : length parts ≤ length lists
  pub among : (place : ℕ) (part : Bor (List Access)) → slice_get parts place ≡ Some part → (k : ℕ)
      × (slice_get lists k ≡ Some part.now)
  pub unlike : (place other : ℕ) (part twin : Bor (List Access)) → slice_get parts place ≡ Some part
      → slice_get parts other ≡ Some twin → HaveSameTargets part.now twin.now → place ≡ other
  pub lacked : (place : ℕ) (part : Bor (List Access)) → slice_get parts place ≡ Some part → IsKeptIn plans part.now → ⊥
  pub complete : All (λ list. IsKeptIn plans list ⊎ StandFor parts list) lists

-- something is kept for each of these lists from this place on
abbrev pub AreKeptFrom : List Kept → List (Bor (List Access)) → ℕ → Type 0
AreKeptFrom plans parts from = (place : ℕ) (part : Bor (List Access)) → from ≤ place
    → slice_get parts place ≡ Some part → IsKeptIn plans part.now
