-- What is left of a list of which the first elements were moved out, one after the other.
use Rattle.std.proofs.Common.{◌≡◌, ℕ, ◌+◌, ◌<◌, List, [], ◌∷◌, length, drop, get_or, sym, ap, ◌∙◌, inl, inr, arith}
use Rattle.std.proofs.lemmas.Bool.{cases_lt}
use Rattle.std.proofs.lemmas.List.{drop_more, drop_all, get_or-drop}

-- the next element, and what is left after it
pub drop_step : {X : Type 0} (xs : List X) (i : ℕ) (x : X) (rest : List X) → x ∷ rest ≡ drop i xs
    → (i < length xs) × (x ≡ get_or xs i x) × (rest ≡ drop (i + 1) xs)
drop_step {X} xs i x rest is = elim (cases_lt i (length xs)) [
  | inl within ↦ let both : x ∷ rest ≡ get_or xs i x ∷ drop (i + 1) xs = is
      ∙ drop_more xs i x within in (within, ap (λ (l : List X). get_or l 0 x) both, ap (λ (l : List X). drop 1 l) both)
  | inr past ↦ let none : x ∷ rest ≡ [] = is ∙ drop_all i xs past in absurd (cc)
]

-- where the same is left of two lists, the next element is the same
pub same_next : {X : Type 0} (xs ys : List X) (i place : ℕ) (d : X) → place ≡ i → drop i xs ≡ drop i ys
    → get_or xs place d ≡ get_or ys place d
same_next {X} xs ys i place d at same =
    let here : place ≡ i + 0 = omega arith in
    ap (λ (n : ℕ). get_or xs n d) here ∙ sym (get_or-drop i xs 0 d) ∙ ap (λ (l : List X). get_or l 0 d) same
    ∙ get_or-drop i ys 0 d ∙ sym (ap (λ (n : ℕ). get_or ys n d) here)

-- and after it the same is left
pub drop_on : {X : Type 0} (xs ys : List X) (i : ℕ) (d : X) → i < length xs → i < length ys → drop i xs ≡ drop i ys
    → drop (i + 1) xs ≡ drop (i + 1) ys
drop_on {X} xs ys i d within within_too same =
    ap (λ (l : List X). drop 1 l) (sym (drop_more xs i d within) ∙ same ∙ drop_more ys i d within_too)
