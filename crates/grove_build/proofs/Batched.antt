-- Batches of lists: what holds of each place, as places are added.
use Rattle.std.proofs.Common.{◌≡◌, ℕ, zero, suc, ◌+◌, ◌<◌, List, [], ◌∷◌, ◌++◌, length, get_or, take, drop, map, Some, refl, sym, ◌∙◌, ap, ap₂, subst}
use Rattle.std.specs.List.{AllZip, slice_get}
use Rattle.std.proofs.lemmas.List.{take_more, take-append-drop, map-append}
use Rattle.std.proofs.lemmas.Option.{get_or_from_slice_get, slice_get_within, same_Some, none-some}

-- two lists whose items go together, after two others
pub AllZip-append : {A B : Type 0} (R : A → B → Type 0) (xs : List A) (ys : List B) (vs : List A) (ws : List B) → AllZip R xs ys → AllZip R vs ws → AllZip R (xs ++ vs) (ys ++ ws)
AllZip-append R [] [] vs ws all more = more
AllZip-append R [] (y ∷ ys) vs ws all more = absurd all
AllZip-append R (x ∷ xs) [] vs ws all more = absurd all
AllZip-append R (x ∷ xs) (y ∷ ys) vs ws all more = (all.0, AllZip-append R xs ys vs ws all.1 more)

-- the next item of a list, and what goes with it
pub AllZip-next : {A B : Type 0} (R : A → B → Type 0) (xs : List A) (ys : List B) (i : ℕ) (x : A) (y : B) → i < length xs → x ≡ get_or xs i x
    → AllZip R (take i xs) ys → R x y → AllZip R (take (i + 1) xs) (ys ++ y ∷ [])
AllZip-next R xs ys i x y lt is all one =
    subst (λ front. AllZip R front (ys ++ y ∷ [])) (ap (λ item. take i xs ++ item ∷ []) is ∙ sym (take_more xs i x lt))
    (AllZip-append R (take i xs) ys (x ∷ []) (y ∷ []) all (one, tt))

-- one more item, of which a function gives the next number of a list
pub next_mapped : {A : Type 0} (f : A → ℕ) (items : List A) (wanted : List ℕ) (i : ℕ) (item : A) → slice_get wanted i ≡ Some (f item) → map f items ≡ take i wanted
    → map f (items ++ item ∷ []) ≡ take (i + 1) wanted
next_mapped f items wanted i item at so_far =
    map-append f items (item ∷ []) ∙ ap (λ front. front ++ f item ∷ []) so_far
    ∙ ap (λ (n : ℕ). take i wanted ++ n ∷ []) (sym (get_or_from_slice_get wanted i (f item) 0 at))
    ∙ sym (take_more wanted i 0 (slice_get_within wanted i (f item) at))

-- two halves of a list, and what goes with each
pub AllZip-halves : {A B : Type 0} (R : A → B → Type 0) (xs first second : List A) (i : ℕ) (ys zs all : List B) → first ≡ take i xs → second ≡ drop i xs
    → AllZip R first ys → AllZip R second zs → all ≡ ys ++ zs → AllZip R xs all
AllZip-halves R xs first second i ys zs all front back early late joined =
    let e : first ++ second ≡ xs = ap₂ (λ a b. a ++ b) front back ∙ take-append-drop i xs in
    subst (λ items. AllZip R xs items) (sym joined) (subst (λ items. AllZip R items (ys ++ zs)) e (AllZip-append R first ys second zs early late))

pub AllZip-weaker : {A B : Type 0} (R Q : A → B → Type 0) → ((x : A) (y : B) → R x y → Q x y) → (xs : List A) (ys : List B) → AllZip R xs ys → AllZip Q xs ys
AllZip-weaker R Q weaker [] [] all = tt
AllZip-weaker R Q weaker [] (y ∷ ys) all = absurd all
AllZip-weaker R Q weaker (x ∷ xs) [] all = absurd all
AllZip-weaker R Q weaker (x ∷ xs) (y ∷ ys) all = (weaker x y all.0, AllZip-weaker R Q weaker xs ys all.1)

-- what goes with the item at a place of the second list, and of the first
pub some_right : {A B : Type 0} (R : A → B → Type 0) (xs : List A) (ys : List B) (i : ℕ) (y : B) → AllZip R xs ys → slice_get ys i ≡ Some y → (x : A) × (slice_get xs i ≡ Some x) × R x y
some_right R [] [] i y all at = absurd (none-some y at)
some_right R [] (z ∷ ys) i y all at = absurd all
some_right R (x ∷ xs) [] i y all at = absurd all
some_right R (x ∷ xs) (z ∷ ys) zero y all at = (x, refl, subst (λ w. R x w) (same_Some _ _ at) all.0)
some_right R (x ∷ xs) (z ∷ ys) (suc i) y all at = some_right R xs ys i y all.1 at

pub some_left : {A B : Type 0} (R : A → B → Type 0) (xs : List A) (ys : List B) (i : ℕ) (x : A) → AllZip R xs ys → slice_get xs i ≡ Some x → (y : B) × (slice_get ys i ≡ Some y) × R x y
some_left R [] [] i x all at = absurd (none-some x at)
some_left R [] (y ∷ ys) i x all at = absurd all
some_left R (z ∷ xs) [] i x all at = absurd all
some_left R (z ∷ xs) (y ∷ ys) zero x all at = (y, refl, subst (λ w. R w y) (same_Some _ _ at) all.0)
some_left R (z ∷ xs) (y ∷ ys) (suc i) x all at = some_left R xs ys i x all.1 at
