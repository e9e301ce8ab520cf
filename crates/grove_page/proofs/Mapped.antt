-- A test of the items that a list is mapped to.
use Rattle.std.proofs.Common.{◌≡◌, List, [], ◌∷◌, map, Bool, ◌||◌, ap, refl}
use Rattle.std.specs.List.{list_any}

pub any_of_them : {A B : Type 0} (f : A → B) (test : B → Bool) (xs : List A)
    → list_any test (map f xs) ≡ list_any (λ x. test (f x)) xs
any_of_them f test [] = refl
any_of_them f test (x ∷ xs) = ap (λ rest. test (f x) || rest) (any_of_them f test xs)
