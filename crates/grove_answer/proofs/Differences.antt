-- Where two lists differ first.
use Rattle.std.proofs.Common.{below_more, ◌+◌, map, ◌≡◌, ℕ, zero, suc, ◌<◌, ◌≤◌, List, [], ◌∷◌, length, get_or, Some, refl, sym, ◌∙◌, ap, arith}
use Rattle.std.specs.List.{slice_get}
use Rattle.std.proofs.lemmas.Option.{none-some, same_Some, slice_get-get_or, slice_get-map, slice_get_past}
use Rattle.std.specs.Prelude.{option_map}
use Rattle.grove_answer.specs.Outcomes.{DifferFirstAt}

-- the first items of two lists are alike
abbrev pub AreAlike : {A : Type 0} → List A → List A → ℕ → Type 0
AreAlike xs ys n = (i : ℕ) → i < n → slice_get xs i ≡ slice_get ys i

-- lists that are alike to their common end are the same
pub same_lists : {A : Type 0} (xs ys : List A) → length xs ≡ length ys → AreAlike xs ys (length ys) → xs ≡ ys
same_lists [] [] long alike = refl
same_lists [] (y ∷ ys) long alike = absurd (omega arith)
same_lists (x ∷ xs) [] long alike = absurd (omega arith)
same_lists (x ∷ xs) (y ∷ ys) long alike =
    let first : x ≡ y = same_Some x y (alike zero (omega arith)) in
    let others : xs ≡ ys = same_lists xs ys (omega arith) (λ i lt. alike (suc i) (omega arith)) in cc

-- they differ where one ends before the other
pub differ_beyond : {A : Type 0} (xs ys : List A) (d : A) (at : ℕ) → at < length xs → length ys ≤ at → AreAlike xs ys at → DifferFirstAt xs ys at
differ_beyond xs ys d at there past alike = (λ same. none-some (get_or xs at d) (sym (slice_get_past ys at past) ∙ sym same ∙ slice_get-get_or xs at d there), alike)

-- one more item is alike
pub alike_more : {A : Type 0} (xs ys : List A) (x : A) (at : ℕ) → slice_get xs at ≡ Some x → slice_get ys at ≡ Some x → AreAlike xs ys at → AreAlike xs ys (at + 1)
alike_more xs ys x at here there alike = below_more (λ (i : ℕ). slice_get xs i ≡ slice_get ys i) at alike (here ∙ sym there)

-- what a function makes of the item at a place
pub made_at : {A B : Type 0} (f : A → B) (xs : List A) (at : ℕ) (x : A) → slice_get xs at ≡ Some x → slice_get (map f xs) at ≡ Some (f x)
made_at f xs at x here = slice_get-map f xs at ∙ ap (option_map f) here
