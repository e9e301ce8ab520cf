-- For the proofs alone: why accesses are no list over a tree.
use Rattle.std.specs.Prelude.{◌≡◌, ℕ, suc, ◌≤◌, nat_lt, List, [], ◌∷◌, length, slice_get, Option, Some, None}
use Rattle.std.specs.Prelude.{if◌then◌else◌, option_map}
use Rattle.std.specs.Option.{option_or}
use Rattle.grove_tree.specs.Trees.{Rows}
use Rattle.grove_access.specs.declared.access.Access.{Access}
use Rattle.grove_access.specs.declared.fault.ListFault.{ListFault}
use Rattle.grove_access.specs.declared.fault.ListFault.TheVariants.{TooLong, NoNode, BadLength}
use Rattle.grove_access.specs.Lists.{nodes_of, lengths_of, AreNodes, longest, is_length}

-- the first place of a list whose node is not below n, counted on from a number
abbrev pub first_beyond : ℕ → ℕ → List ℕ → Option ℕ
first_beyond n place [] = None
first_beyond n place (node ∷ nodes) = if nat_lt node n then first_beyond n (suc place) nodes else Some place

-- how many accesses a list has at most, and how many slots an access takes at most
abbrev pub most_accesses : ℕ
most_accesses = 64

abbrev pub AreLengths : List ℕ → Type 0
AreLengths lengths = (access slots : ℕ) → slice_get lengths access ≡ Some slots → (1 ≤ slots) × (slots ≤ longest)

-- the first place of a list whose length is none, counted on from a number
abbrev pub first_bad_length : ℕ → List ℕ → Option ℕ
first_bad_length place [] = None
first_bad_length place (slots ∷ lengths) = if is_length slots then first_bad_length (suc place) lengths else Some place

-- why accesses are no list over a tree, out of memory aside: a node beyond the tree comes before a bad length
abbrev pub list_fault_of : Rows → List Access → Option ListFault
list_fault_of rows accesses =
    if nat_lt most_accesses (length accesses) then Some TooLong
    else option_or (option_map NoNode (first_beyond (length rows) 0 (nodes_of accesses)))
    (option_map BadLength (first_bad_length 0 (lengths_of accesses)))

-- accesses that make a list over a tree
abbrev pub AreListed : Rows → List Access → Type 0
AreListed rows accesses =
    (length accesses ≤ most_accesses) × AreNodes rows (nodes_of accesses) × AreLengths (lengths_of accesses)
