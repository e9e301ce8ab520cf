-- Snapshots: the names of a tree's nodes and a store's numbers, as bytes.
use Rattle.std.specs.Prelude.{◌≡◌, ℕ, suc, ◌<◌, ◌^◌, List, ◌∷◌, ◌++◌, length, map, All, Option, Some, None}
use Rattle.std.specs.List.{flat_map}
use Rattle.grove_effects.specs.Effects.{word, half, AreWords}
use Rattle.grove_effects.specs.declared.snapshot.NodeName.{NodeName}

-- each node's parent and its name
abbrev pub Names : Type 0
Names = List (Option ℕ × List ℕ)

-- a parent as one number: one more than its own, and 0 for none
abbrev pub parent_number : Option ℕ → ℕ
parent_number None = 0
parent_number (Some parent) = suc parent

-- a node's parent, and its name behind its length
abbrev pub named_bytes : Option ℕ × List ℕ → List ℕ
named_bytes named = half (parent_number named.0) ++ length named.1 ∷ named.1

unfoldable pub snapshot : Names → List ℕ → List ℕ
snapshot names numbers = half (length names) ++ flat_map named_bytes names ++ flat_map word numbers

-- 4 bytes hold the parent's number, and one the name's length
abbrev pub IsNamed : Option ℕ × List ℕ → Type 0
IsNamed named = (parent_number named.0 < 2 ^ 32) × (length named.1 < 256)

-- the bytes are the snapshot of names and numbers that a snapshot can hold
pub record IsSnapshot (names : Names) (numbers bytes : List ℕ) : Type 0 where
  pub few : length names < 2 ^ 32
  pub named : All IsNamed names
  pub words : AreWords numbers
  pub stands : bytes ≡ snapshot names numbers

-- names as definitions see them
abbrev pub named_of : NodeName → Option ℕ × List ℕ
named_of node = (node.parent, node.name.items)

abbrev pub names_of : List NodeName → Names
names_of nodes = map named_of nodes
