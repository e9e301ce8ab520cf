-- What a map keeps of its entries, and of what stands at an index, as a pair is inserted: where keys have targets, and
-- equal keys have the same.
use Rattle.std.proofs.Common.{◌≡◌, ℕ, zero, suc, ◌+◌, Bool, true, false, cond, not, List, [], ◌∷◌, Some, refl, sym}
use Rattle.std.proofs.Common.{subst, arith}
use Rattle.std.specs.List.{slice_get, position_or_len}
use Rattle.std.specs.Map.{keys_of}
use Rattle.std.proofs.lemmas.Option.{same_Some, none-some}
use Rattle.indexmap.specs.IndexMap.{insert_entry}

module _ {K V T : Type 0} (targets : K → T) where
  -- this holds of each key and its value
  abbrev pub HoldsOfEach : (K → V → Type 0) → List (K × V) → Type 0
  HoldsOfEach P entries = (place : ℕ) (entry : K × V) → slice_get entries place ≡ Some entry → P entry.0 entry.1

  -- the key at a place has these targets
  abbrev pub HasKey : List (K × V) → T → ℕ → Type 0
  HasKey entries wanted place = (entry : K × V) × (slice_get entries place ≡ Some entry) × (targets entry.0 ≡ wanted)

  module _ (eq : K → K → Bool) (same : (a b : K) → eq a b ≡ true → targets a ≡ targets b) (key : K) (value : V) where
    -- what holds of each key and its value, and of the value with each key that has the key's targets, holds of each
    -- then
    pub each_inserted : (P : K → V → Type 0) → ((own : K) → targets own ≡ targets key → P own value)
        → (entries : List (K × V)) → HoldsOfEach P entries → HoldsOfEach P (insert_entry eq entries key value)
    each_inserted P new [] all zero entry at = subst (λ (e : K × V). P e.0 e.1) (same_Some _ _ at) (new key refl)
    each_inserted P new [] all (suc place) entry at = absurd (none-some entry at)
    each_inserted P new (first ∷ entries) all place entry at =
        by (eq key first.0) refl (each_inserted P new entries (λ p e a. all (suc p) e a)) place entry at
      where
        by : (b : Bool) → eq key first.0 ≡ b → HoldsOfEach P (insert_entry eq entries key value)
            → HoldsOfEach P (cond b ((first.0, value) ∷ entries) (first ∷ insert_entry eq entries key value))
        by true is rest zero e a = subst (λ (x : K × V). P x.0 x.1) (same_Some _ _ a)
            (new first.0 (sym (same key first.0 is)))
        by true is rest (suc p) e a = all (suc p) e a
        by false is rest zero e a = all zero e a
        by false is rest (suc p) e a = rest p e a

    -- the keys stay where they are
    pub key_stays : (entries : List (K × V)) (wanted : T) (place : ℕ) → HasKey entries wanted place → HasKey (insert_entry eq entries key value) wanted place
    key_stays [] wanted place has = absurd (none-some has.0 has.1)
    key_stays (first ∷ entries) wanted zero has = by (eq key first.0)
      where
        by : (b : Bool) → HasKey (cond b ((first.0, value) ∷ entries) (first ∷ insert_entry eq entries key value)) wanted zero
        by true = ((first.0, value), refl, subst (λ (e : K × V). targets e.0 ≡ wanted) (sym (same_Some _ _ has.1)) has.2)
        by false = (first, refl, subst (λ (e : K × V). targets e.0 ≡ wanted) (sym (same_Some _ _ has.1)) has.2)
    key_stays (first ∷ entries) wanted (suc place) has = by (eq key first.0) (key_stays entries wanted place has)
      where
        by : (b : Bool) → HasKey (insert_entry eq entries key value) wanted place
            → HasKey (cond b ((first.0, value) ∷ entries) (first ∷ insert_entry eq entries key value)) wanted
            (suc place)
        by true rest = has
        by false rest = rest

    -- the key that is inserted is found at its index
    pub key_inserted : (entries : List (K × V)) → HasKey (insert_entry eq entries key value) (targets key) (position_or_len (eq key) (keys_of entries))
    key_inserted [] = ((key, value), refl, refl)
    key_inserted (first ∷ entries) = by (eq key first.0) refl (key_inserted entries)
      where
        by : (b : Bool) → eq key first.0 ≡ b → HasKey (insert_entry eq entries key value) (targets key) (position_or_len (eq key) (keys_of entries))
            → HasKey (cond b ((first.0, value) ∷ entries) (first ∷ insert_entry eq entries key value)) (targets key) (cond (not b) (1 + position_or_len (eq key) (keys_of entries)) 0)
        by true e rest = ((first.0, value), refl, sym (same key first.0 e))
        by false e rest = let next : 1 + position_or_len (eq key) (keys_of entries) ≡ suc (position_or_len (eq key) (keys_of entries)) = omega arith in
            subst (λ (p : ℕ). HasKey (first ∷ insert_entry eq entries key value) (targets key) p) (sym next) rest
