-- Why nodes and lengths are no list over a tree.
use Rattle.std.proofs.Common.{◌≡◌, ℕ, suc, ◌+◌, ◌<◌, ◌≤◌, ◌⊎◌, nat_lt, false, List, [], ◌∷◌, length, slice_get, Option}
use Rattle.std.proofs.Common.{Some, None, refl, sym, ◌∙◌, subst, inl, inr, arith, option_map}
use Rattle.std.specs.Prelude.{Result, Ok, Err, IfErr}
use Rattle.std.specs.Option.{option_or}
use Rattle.std.proofs.lemmas.Option.{none-some, same_Some, slice_get_within}
use Rattle.std.proofs.lemmas.Bool.{cond-true, cond-false, lt-ltb, le-ltb, cases_lt, cases_Bool, and_from, le-leb}
use Rattle.grove_tree.specs.Trees.{Rows}
use Rattle.grove_access.specs.declared.access.Access.{Access}
use Rattle.grove_access.specs.declared.fault.ListFault.{ListFault}
use Rattle.grove_access.specs.declared.fault.ListFault.TheVariants.{TooLong, NoNode, BadLength}
use Rattle.grove_access.specs.Lists.{nodes_of, lengths_of, is_length}
use Rattle.grove_access.specs.ListFaults.{first_beyond, first_bad_length, list_fault_of}
use Rattle.grove_access.proofs.Lists.{nodes_length}
use Rattle.grove_nodes.specs.Lists.{IsListFault}

-- at the place that is found stands a node beyond the bound
beyond_at : (n place found : ℕ) (nodes : List ℕ) → first_beyond n place nodes ≡ Some found
    → (i : ℕ) × (node : ℕ) × (found ≡ place + i) × (slice_get nodes i ≡ Some node) × (n ≤ node)
beyond_at n place found [] is = absurd (none-some found is)
beyond_at n place found (node ∷ nodes) is = elim (cases_lt node n) [
  | inl lt ↦
      let rest = sym (cond-true (nat_lt node n) (first_beyond n (suc place) nodes) (Some place) (lt-ltb node n lt))
      ∙ is in
      let (i, other, at, there, far) = beyond_at n (suc place) found nodes rest in
      (suc i, other, omega (arith, at), there, far)
  | inr ge ↦
      let here = sym (cond-false (nat_lt node n) (first_beyond n (suc place) nodes) (Some place) (le-ltb node n ge))
      ∙ is in
      (0, node, omega (arith, same_Some place found here), refl, ge)
]

not_length : (slots : ℕ) → is_length slots ≡ false → (slots < 1) ⊎ (1000 < slots)
not_length slots bad = grind (arith, and_from, cases_lt, le-leb)

-- at the place that is found stands a length that is none
bad_at : (place found : ℕ) (lengths : List ℕ) → first_bad_length place lengths ≡ Some found
    → (i : ℕ) × (slots : ℕ) × (found ≡ place + i) × (slice_get lengths i ≡ Some slots) × ((slots < 1) ⊎ (1000 < slots))
bad_at place found [] is = absurd (none-some found is)
bad_at place found (slots ∷ lengths) is = elim (cases_Bool (is_length slots)) [
  | inl fine ↦
      let rest = sym (cond-true (is_length slots) (first_bad_length (suc place) lengths) (Some place) fine) ∙ is in
      let (i, other, at, there, bad) = bad_at (suc place) found lengths rest in
      (suc i, other, omega (arith, at), there, bad)
  | inr bad ↦
      let here = sym (cond-false (is_length slots) (first_bad_length (suc place) lengths) (Some place) bad) ∙ is in
      (0, slots, omega (arith, same_Some place found here), refl, not_length slots bad)
]

no_node : (rows : Rows) (nodes lengths : List ℕ) (place : ℕ) → first_beyond (length rows) 0 nodes ≡ Some place
    → IsListFault rows nodes lengths (NoNode place)
no_node rows nodes lengths place is = grind (arith, beyond_at, same_Some, slice_get_within)

bad_length : (rows : Rows) (nodes lengths : List ℕ) (place : ℕ) → first_bad_length 0 lengths ≡ Some place
    → IsListFault rows nodes lengths (BadLength place)
bad_length rows nodes lengths place is = grind (arith, bad_at, same_Some, slice_get_within)

by_places : (rows : Rows) (nodes lengths : List ℕ) (beyond bad : Option ℕ) (fault : ListFault)
    → first_beyond (length rows) 0 nodes ≡ beyond → first_bad_length 0 lengths ≡ bad
    → option_or (option_map NoNode beyond) (option_map BadLength bad) ≡ Some fault
    → IsListFault rows nodes lengths fault
by_places rows nodes lengths (Some place) bad fault beyond_is bad_is is = grind (arith, no_node, same_Some)
by_places rows nodes lengths None (Some place) fault beyond_is bad_is is =
    subst (λ (f : ListFault). IsListFault rows nodes lengths f) (same_Some (BadLength place) fault is)
    (bad_length rows nodes lengths place bad_is)
by_places rows nodes lengths None None fault beyond_is bad_is is = absurd (cc)

-- the first fault of accesses is one of their nodes and lengths
fault_told : (rows : Rows) (accesses : List Access) (fault : ListFault) → length accesses ≤ 64
    → list_fault_of rows accesses ≡ Some fault → IsListFault rows (nodes_of accesses) (lengths_of accesses) fault
fault_told rows accesses fault few is = grind (arith, by_places, cond-false, le-ltb)

-- so of what is answered
pub refused : {T : Type 0} (rows : Rows) (accesses : List Access) (nodes lengths : List ℕ) (result : Result T ListFault)
    → nodes_of accesses ≡ nodes → lengths_of accesses ≡ lengths → length nodes ≤ 64
    → IfErr result (λ fault. list_fault_of rows accesses ≡ Some fault) → IfErr result (IsListFault rows nodes lengths)
refused rows accesses nodes lengths (Ok list) by_node by_length few is = tt
refused rows accesses nodes lengths (Err fault) by_node by_length few is =
    rw (← by_node, ← by_length) (fault_told rows accesses fault
    (subst (λ (n : ℕ). n ≤ 64) (nodes_length accesses) (subst (λ (xs : List ℕ). length xs ≤ 64) (sym by_node) few)) is)
