-- The numbers of a store are words, and there are few of them.
use Rattle.std.proofs.Common.{◌≡◌, ℕ, ◌^◌, ◌<◌, ◌≤◌, ℤ, [], ◌∷◌, ◌++◌, length, arith, Fits}
use Rattle.std.specs.Prelude.{All, FitsSigned}
use Rattle.std.specs.Int.{w64, cast_unsigned}
use Rattle.std.proofs.lemmas.List.Elements.{All-append, All-weaker, All-map, All-cons, All-nil}
use Rattle.std.proofs.Math.Facts.{Fits-of_z}
use Rattle.grove_tree.specs.Weights.{weights_of}
use Rattle.grove_effects.specs.Effects.{AreWords}
use Rattle.grove_store.specs.StoreStates.{StoreState, IsStore, IsSuccessor}
use Rattle.grove_data.specs.Numbers.{bits_of, numbers_of}
use Rattle.grove_data.proofs.Named.{weights_small}
use Rattle.grove_data.proofs.Stores.{numbers_long, same_length}

abbrev IsWord : ℕ → Type 0
IsWord n = n < 2 ^ 64

fit_word : (n : ℕ) → Fits w64 n → IsWord n
fit_word n fit = omega arith

small_word : (n : ℕ) → n < 2 ^ 32 → IsWord n
small_word n small = omega arith

few_word : (n : ℕ) → n ≤ 1000 → IsWord n
few_word n few = omega arith

record_word : (z : ℤ) → FitsSigned w64 z → IsWord (cast_unsigned w64 z)
record_word z fits = fit_word (cast_unsigned w64 z) (Fits-of_z fits)

pub store_words : (store : StoreState) → IsStore store → All (FitsSigned w64) store.records
    → AreWords (numbers_of store)
unfolding numbers_of
store_words store is fit =
    let w = weights_of store.rows in
    let b = bits_of store.records in
    All-append IsWord (w ++ b ++ store.waits) (store.rounds ∷ [])
    (All-append IsWord (w ++ b) store.waits
    (All-append IsWord w b
    (All-weaker (λ n. n < 2 ^ 32) IsWord small_word w (weights_small store.rows is.tree is.limits))
    (All-map IsWord (cast_unsigned w64) store.records
    (All-weaker (FitsSigned w64) (λ z. IsWord (cast_unsigned w64 z)) record_word store.records fit)))
    (All-weaker (λ n. n ≤ 1000) IsWord few_word store.waits is.few))
    (All-cons IsWord store.rounds [] is.counted (All-nil IsWord))

-- a store has few numbers, and its successors have as many
pub few_numbers : (store : StoreState) → IsStore store → length (numbers_of store) ≤ 12289
few_numbers store is = omega (arith, numbers_long store is, is.limits.few)

pub as_many : (before after : StoreState) → IsSuccessor before after
    → length (numbers_of after) ≡ length (numbers_of before)
as_many before after next =
    omega (
      arith,
      numbers_long before next.old,
      numbers_long after next.new,
      same_length after.rows before.rows next.names,
    )
