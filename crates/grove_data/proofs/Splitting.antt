-- Lists that are parted at the same places.
use Rattle.std.proofs.Common.{◌≡◌, ℕ, List, [], ◌∷◌, ◌++◌, length, refl, ap₂, arith}
use Rattle.std.proofs.lemmas.List.{length-append}

-- fronts of one length are equal where the wholes are, and so are the rests
pub same_parts : {A : Type 0} (a b c d : List A) → length a ≡ length c → a ++ b ≡ c ++ d → (a ≡ c) × (b ≡ d)
same_parts [] b [] d long same = (refl, same)
same_parts [] b (x ∷ c) d long same = absurd (omega arith)
same_parts (x ∷ a) b [] d long same = absurd (omega arith)
same_parts {A} (x ∷ a) b (y ∷ c) d long same =
    let rest : (a ≡ c) × (b ≡ d) = same_parts a b c d (omega arith) (cc) in
    (ap₂ (λ (z : A) (zs : List A). z ∷ zs) (cc) rest.0, rest.1)

-- four parts, of which the last is one number
pub record AreSame (w r h : List ℕ) (k : ℕ) (w' r' h' : List ℕ) (k' : ℕ) : Type 0 where
  pub first : w ≡ w'
  pub second : r ≡ r'
  pub third : h ≡ h'
  pub last : k ≡ k'

pub same_numbers : (w r h : List ℕ) (k : ℕ) (w' r' h' : List ℕ) (k' : ℕ) → length w ≡ length w' → length r ≡ length r'
    → length h ≡ length h' → w ++ r ++ h ++ k ∷ [] ≡ w' ++ r' ++ h' ++ k' ∷ [] → AreSame w r h k w' r' h' k'
same_numbers w r h k w' r' h' k' wl rl hl same =
    let two : length (w ++ r) ≡ length (w' ++ r') = omega (arith, length-append w r, length-append w' r') in
    let three : length (w ++ r ++ h) ≡ length (w' ++ r' ++ h') =
    omega (arith, two, length-append (w ++ r) h, length-append (w' ++ r') h') in
    let last = same_parts (w ++ r ++ h) (k ∷ []) (w' ++ r' ++ h') (k' ∷ []) three same in
    let third = same_parts (w ++ r) h (w' ++ r') h' two last.0 in
    let second = same_parts w r w' r' wl third.0 in
    record { first = second.0; second = second.1; third = third.1; last = one k k' last.1 }
  where
    one : (k k' : ℕ) → k ∷ [] ≡ k' ∷ [] → k ≡ k'
    one k k' e = cc
