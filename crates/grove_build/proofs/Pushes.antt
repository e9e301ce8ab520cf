-- What is pushed for the items of a list, one after the other, where what is still to come follows from those left.
use Rattle.std.proofs.Common.{◌≡◌, ℕ, suc, ◌+◌, ◌<◌, ◌≤◌, List, [], ◌∷◌, ◌++◌, length, get_or, drop, sym, ◌∙◌, ap, arith, append_assoc}
use Rattle.std.proofs.lemmas.List.{append-nil, at_drop_more, at_drop_all}

-- what one more item gives
pub pieces_more : {A B : Type 0} (rest : ℕ → List A → List B) (piece : ℕ → A → List B)
    → ((k : ℕ) (x : A) (xs : List A) → rest k (x ∷ xs) ≡ piece k x ++ rest (suc k) xs)
    → (items : List A) (i : ℕ) (x d : A) (pushed more whole : List B) → i < length items → x ≡ get_or items i d
    → pushed ++ rest i (drop i items) ≡ whole → more ≡ pushed ++ piece i x → more ++ rest (i + 1) (drop (i + 1) items) ≡ whole
pieces_more rest piece next items i x d pushed more whole lt is so_far added =
    ap (λ front. front ++ rest (i + 1) (drop (i + 1) items)) added
    ∙ (append_assoc pushed (piece i x) (rest (i + 1) (drop (i + 1) items))
    ∙ (ap (λ n. pushed ++ (piece i x ++ rest n (drop (i + 1) items))) (let one : i + 1 ≡ suc i = omega arith in one)
    ∙ (ap (λ back. pushed ++ back) (sym (next i x (drop (i + 1) items)))
    ∙ (ap (λ y. pushed ++ rest i (y ∷ drop (i + 1) items)) is
    ∙ (ap (λ back. pushed ++ back) (sym (at_drop_more (rest i) items i d lt)) ∙ so_far)))))

-- no item is left
pub rest_pushed : {A B : Type 0} (rest : List A → List B)
    → (items : List A) (i : ℕ) (pushed whole : List B) → length items ≤ i
    → pushed ++ rest (drop i items) ≡ whole → pushed ++ rest [] ≡ whole
rest_pushed rest items i pushed whole le so_far =
    ap (λ back. pushed ++ back) (sym (at_drop_all rest items i le)) ∙ so_far

-- and nothing is still to come
pub all_pushed : {A B : Type 0} (rest : List A → List B) → rest [] ≡ []
    → (items : List A) (i : ℕ) (pushed whole : List B) → length items ≤ i
    → pushed ++ rest (drop i items) ≡ whole → pushed ≡ whole
all_pushed rest none items i pushed whole le so_far =
    sym (append-nil pushed) ∙ (ap (λ back. pushed ++ back) (sym none) ∙ rest_pushed rest items i pushed whole le so_far)
