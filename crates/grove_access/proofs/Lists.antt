-- Accesses seen by their nodes.
use Rattle.std.proofs.Common.{◌≡◌, ℕ, zero, suc, ◌<◌, ◌≤◌, nat_lt, Bool, true, false, List, [], ◌∷◌, length, drop}
use Rattle.std.proofs.Common.{slice_get, Option, Some, None, refl, ap, sym, ◌∙◌, subst, inl, inr, option_map, is_some}
use Rattle.std.proofs.Common.{not, IsTrue, ◌↔◌, arith}
use Rattle.std.proofs.Math.Seq.{drop-cons}
use Rattle.std.proofs.lemmas.Option.{slice_get_within, get_or_from_slice_get, none-some, same_Some}
use Rattle.std.proofs.lemmas.Bool.{cond-true, cond-false, lt-ltb, le-ltb, cases_lt, cases_Bool, and_parts, and_from, leb-true, le-leb}
use Rattle.grove_access.specs.declared.access.Access.{Access}
use Rattle.grove_access.specs.Lists.{nodes_of, lengths_of, AreBelow, is_length}
use Rattle.grove_access.specs.ListFaults.{AreLengths, first_beyond, first_bad_length}
use Rattle.grove_base.proofs.Lists.{none_there}

-- what stands at a place stands first in what is left from there
pub drop_next : {A : Type 0} (xs : List A) (i : ℕ) (x : A) → slice_get xs i ≡ Some x → drop i xs ≡ x ∷ drop (suc i) xs
drop_next xs i x at = drop-cons xs i x (slice_get_within xs i x at) ∙ ap (λ y. y ∷ drop (suc i) xs) (get_or_from_slice_get xs i x x at)

-- the node of an access stands at the access's place
pub node_at : (list : List Access) (place : ℕ) (access : Access) → slice_get list place ≡ Some access → slice_get (nodes_of list) place ≡ Some access.node
node_at [] place access at = absurd (none-some access at)
node_at (first ∷ rest) zero access at = ap (λ (o : Option Access). option_map (λ (a : Access). a.node) o) at
node_at (first ∷ rest) (suc place) access at = node_at rest place access at

-- no place beyond n was found exactly where all nodes are below n
pub none_beyond : (n place : ℕ) (nodes : List ℕ) → AreBelow n nodes → first_beyond n place nodes ≡ None
none_beyond n place [] below = refl
none_beyond n place (node ∷ nodes) below =
    let lt : node < n = below 0 node refl in
    cond-true (nat_lt node n) (first_beyond n (suc place) nodes) (Some place) (lt-ltb node n lt)
    ∙ none_beyond n (suc place) nodes (λ access other. below (suc access) other)

below_rest : (n node : ℕ) (nodes : List ℕ) → node < n → AreBelow n nodes → AreBelow n (node ∷ nodes)
below_rest n node nodes lt below zero other at = subst (λ (k : ℕ). k < n) (same_Some node other at) lt
below_rest n node nodes lt below (suc access) other at = below access other at

-- where no place was found all nodes are below n
pub below_none : (n place : ℕ) (nodes : List ℕ) → first_beyond n place nodes ≡ None → AreBelow n nodes
below_none n place [] found access node at = absurd (none-some node at)
below_none n place (node ∷ nodes) found access other at = elim (cases_lt node n) [
  | inl lt ↦ below_rest n node nodes lt
      (below_none n (suc place) nodes (sym (cond-true (nat_lt node n) (first_beyond n (suc place) nodes) (Some place) (lt-ltb node n lt)) ∙ found)) access other at
  | inr ge ↦ absurd (none-some place (sym found ∙ cond-false (nat_lt node n) (first_beyond n (suc place) nodes) (Some place) (le-ltb node n ge)))
]

-- a place beyond n was found only where some node is not below n
pub beyond_refused : (n m place : ℕ) (nodes : List ℕ) → m ≡ n → Some place ≡ first_beyond m 0 nodes → ¬ AreBelow n nodes
beyond_refused n m place nodes size found = grind (arith, none-some, none_beyond)

-- the answer that no place was found beyond n tells whether all nodes are below n
pub found_tells : (n m : ℕ) (list seen : List Access) (found : Option ℕ) (answer : Bool) → found ≡ first_beyond m 0 (nodes_of seen) → m ≡ n → seen ≡ list
    → is_some found ≡ not answer → IsTrue answer ↔ AreBelow n (nodes_of list)
found_tells n m list seen found true is size same test = grind (arith, below_none, none_there)
found_tells n m list seen found false is size same test = (
  λ truth. absurd (cc),
  λ below. let none : first_beyond n 0 (nodes_of list) ≡ None = none_beyond n 0 (nodes_of list) below in
      grind (arith),
)

-- there are as many nodes as accesses
pub nodes_length : (list : List Access) → length (nodes_of list) ≡ length list
nodes_length [] = refl
nodes_length (access ∷ list) = ap suc (nodes_length list)

-- there are as many lengths as accesses
pub lengths_length : (list : List Access) → length (lengths_of list) ≡ length list
lengths_length [] = refl
lengths_length (access ∷ list) = ap suc (lengths_length list)

-- the length of an access stands at the access's place
pub length_at : (list : List Access) (place : ℕ) (access : Access) → slice_get list place ≡ Some access → slice_get (lengths_of list) place ≡ Some access.length
length_at [] place access at = absurd (none-some access at)
length_at (first ∷ rest) zero access at = ap (λ (o : Option Access). option_map (λ (a : Access). a.length) o) at
length_at (first ∷ rest) (suc place) access at = length_at rest place access at

-- where none was found that is too short or too long, all are as they are to be
pub none_bad : (place : ℕ) (lengths : List ℕ) → first_bad_length place lengths ≡ None → AreLengths lengths
none_bad place [] found access slots at = absurd (none-some slots at)
none_bad place (first ∷ lengths) found access slots at = elim (cases_Bool (is_length first)) [
  | inl fine ↦ right access at
      (none_bad (suc place) lengths (sym (cond-true (is_length first) (first_bad_length (suc place) lengths) (Some place) fine) ∙ found))
      (is_long fine)
  | inr bad ↦ absurd (none-some place (sym found ∙ cond-false (is_length first) (first_bad_length (suc place) lengths) (Some place) bad))
]
  where
    is_long : is_length first ≡ true → (1 ≤ first) × (first ≤ 1000)
    is_long fine = let parts = and_parts _ _ fine in (leb-true 1 first parts.0, leb-true first 1000 parts.1)

    right : (access : ℕ) → slice_get (first ∷ lengths) access ≡ Some slots → AreLengths lengths → (1 ≤ first) × (first ≤ 1000) → (1 ≤ slots) × (slots ≤ 1000)
    right zero at rest here = subst (λ (k : ℕ). (1 ≤ k) × (k ≤ 1000)) (same_Some first slots at) here
    right (suc access) at rest here = rest access slots at

-- where all are as they are to be, none is found
none_found : (place : ℕ) (lengths : List ℕ) → AreLengths lengths → first_bad_length place lengths ≡ None
none_found place [] are = refl
none_found place (first ∷ lengths) are =
    let here : (1 ≤ first) × (first ≤ 1000) = are 0 first refl in
    cond-true (is_length first) (first_bad_length (suc place) lengths) (Some place) (and_from _ _ (le-leb 1 first here.0) (le-leb first 1000 here.1))
    ∙ none_found (suc place) lengths (λ access slots at. are (suc access) slots at)

-- a place was found only where some length is too short or too long
pub bad_refused : (place : ℕ) (lengths : List ℕ) → Some place ≡ first_bad_length 0 lengths → ¬ AreLengths lengths
bad_refused place lengths found = λ are. none-some place (sym (none_found 0 lengths are) ∙ sym found)
