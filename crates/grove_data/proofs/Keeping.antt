-- The numbers of a store, kept in four parts.
use Rattle.std.proofs.Common.{◌≡◌, ◌<◌, ◌*◌, ℕ, zero, suc, ℤ, pos, List, [], ◌∷◌, ◌++◌, length, get_or}
use Rattle.std.proofs.Common.{refl, sym, ap, ◌∙◌, arith}
use Rattle.std.specs.List.{flat_map}
use Rattle.std.specs.Int.{w64, cast_unsigned}
use Rattle.std.proofs.lemmas.Grind.{same_number_lists}
use Rattle.std.proofs.lemmas.List.{length-append, length-map}
use Rattle.std.proofs.Math.ListN.{get_or-map}
use Rattle.grove_tree.specs.Trees.{Rows, weight_of}
use Rattle.grove_tree.specs.Weights.{weights_of}
use Rattle.grove_effects.specs.Effects.{change_bytes, changes_from, effect}
use Rattle.grove_effects.proofs.Putting.{kept_behind}
use Rattle.grove_data.specs.Numbers.{bits_of}

weight_there : (rows : Rows) (node : ℕ) → get_or (weights_of rows) node 0 ≡ weight_of rows node
weight_there [] node = refl
weight_there (row ∷ rows) zero = refl
weight_there (row ∷ rows) (suc node) = weight_there rows node

-- numbers are the weights where each of them is one
pub same_weights : (numbers : List ℕ) (rows : Rows) → length numbers ≡ length rows
    → ((node : ℕ) → node < length numbers → get_or numbers node 0 ≡ weight_of rows node) → numbers ≡ weights_of rows
same_weights numbers rows long are =
    same_number_lists numbers (weights_of rows) (long ∙ sym (length-map rows _))
    (λ node lt. are node lt ∙ sym (weight_there rows node))

-- and the bits of records
pub same_bits : (numbers : List ℕ) (records : List ℤ) → length numbers ≡ length records
    → ((node : ℕ) → node < length numbers → get_or numbers node 0 ≡ cast_unsigned w64 (get_or records node (pos 0)))
    → numbers ≡ bits_of records
same_bits numbers records long are =
    same_number_lists numbers (bits_of records) (long ∙ sym (length-map records _))
    (λ node lt. are node lt ∙ sym (get_or-map (cast_unsigned w64) records node (pos 0)))

pub same_last : (numbers : List ℕ) (last : ℕ) → length numbers ≡ 1
    → ((place : ℕ) → place < length numbers → get_or numbers place 0 ≡ last) → numbers ≡ last ∷ []
same_last [] last long are = absurd (omega arith)
same_last (n ∷ []) last long are = ap (λ (m : ℕ). m ∷ []) (are 0 (omega arith))
same_last (n ∷ m ∷ numbers) last long are = absurd (omega arith)

-- what changed in each of four parts is what changed in all of them
pub all_put : (base a b c d : List ℕ) (w r h k w' r' h' k' : List ℕ) (nodes : ℕ) → length w ≡ nodes → length r ≡ nodes
    → length h ≡ nodes → length w' ≡ length w → length r' ≡ length r → length h' ≡ length h
    → a ≡ base ++ flat_map change_bytes (changes_from 0 w w') → b ≡ a ++ flat_map change_bytes (changes_from nodes r r')
    → c ≡ b ++ flat_map change_bytes (changes_from (2 * nodes) h h')
    → d ≡ c ++ flat_map change_bytes (changes_from (3 * nodes) k k')
    → d ≡ base ++ effect (w ++ r ++ h ++ k) (w' ++ r' ++ h' ++ k')
unfolding effect
all_put base a b c d w r h k w' r' h' k' nodes wl rl hl same same' same'' is_a is_b is_c is_d =
    let two = length-append w r in
    let two' = length-append w' r' in
    let three = length-append (w ++ r) h in
    let three' = length-append (w' ++ r') h' in
    kept_behind base c d 0 (3 * nodes) (w ++ r ++ h) (w' ++ r' ++ h') k k' (omega arith) (omega arith)
    (kept_behind base b c 0 (2 * nodes) (w ++ r) (w' ++ r') h h' (omega arith) (omega arith)
    (kept_behind base a b 0 nodes w w' r r' (omega arith) (omega arith) is_a is_b) is_c) is_d
