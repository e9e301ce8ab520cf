-- The targets of lists: their nodes and their lengths, and when two lists of targets are the same.
use Rattle.std.proofs.Common.{◌≡◌, ℕ, Bool, true, ◌&&◌, nat_eq, List, [], ◌∷◌, map, refl, arith}
use Rattle.std.specs.Bool.{Decides}
use Rattle.std.specs.Cmp.Lexicographic.{pointwise}
use Rattle.std.proofs.lemmas.Bool.{and_parts, and_from}
use Rattle.std.proofs.lemmas.Bool.Decides.{Decides-eqb}
use Rattle.std.proofs.lemmas.Slice.Eq.{slice_eq-Decides}
use Rattle.grove_access.specs.declared.access.Access.{Access}
use Rattle.grove_access.specs.Lists.{nodes_of, lengths_of}
use Rattle.grove_build.specs.declared.targets.Target.{Target}

-- nodes, and lengths
abbrev pub Targets : Type 0
Targets = List ℕ × List ℕ

abbrev pub as_targets : List ℕ → List ℕ → Targets
as_targets nodes lengths = (nodes, lengths)

abbrev pub targets_in : List Access → Targets
targets_in list = (nodes_of list, lengths_of list)

abbrev pub targets_from : List Target → Targets
targets_from targets = (map (λ (target : Target). target.node) targets, map (λ (target : Target). target.length) targets)

abbrev pub is_same : Target → Target → Bool
is_same a b = nat_eq a.node b.node && nat_eq a.length b.length

decides : (a b : Target) → Decides (is_same a b) (a ≡ b)
decides a b = grind (arith, Decides-eqb, and_from, and_parts)

-- lists of targets that compare as equal are the same
pub same_targets : (xs ys : List Target) → pointwise is_same xs ys ≡ true → xs ≡ ys
same_targets xs ys same = (slice_eq-Decides decides xs ys _ refl).0 same

-- and the same lists of targets compare as equal
pub compare_same : (xs ys : List Target) → xs ≡ ys → pointwise is_same xs ys ≡ true
compare_same xs ys same = (slice_eq-Decides decides xs ys _ refl).1 same

-- targets with the same nodes and the same lengths are the same
pub targets_alike : (xs ys : List Target) → map (λ (t : Target). t.node) xs ≡ map (λ (t : Target). t.node) ys
    → map (λ (t : Target). t.length) xs ≡ map (λ (t : Target). t.length) ys → xs ≡ ys
targets_alike [] [] nodes lengths = refl
targets_alike [] (y ∷ ys) nodes lengths = cc
targets_alike (x ∷ xs) [] nodes lengths = cc
targets_alike (x ∷ xs) (y ∷ ys) nodes lengths = grind (arith, targets_alike xs ys (cc) (cc))
