-- Setting the bit of a mark, and what a bit that isn't set says of a row.
use Rattle.std.proofs.Common.{◌≡◌, ℕ, ◌*◌, ◌/◌, ◌%◌, ◌^◌, ◌<◌, true, false, List, length, ◌∙◌, ap}
use Rattle.std.proofs.Common.{inl, inr, arith, get_or, set, get_or-set_same, get_or-set_other}
use Rattle.std.specs.Int.{bit_at, w64}
use Rattle.std.specs.Int.RustNames.{bit_or}
use Rattle.std.proofs.lemmas.Bool.{cases_eq, and_parts, false_from_ne_true}
use Rattle.std.proofs.lemmas.Nat.{mod_below}
use Rattle.std.proofs.lemmas.Nat.Bits.{bit_at_set_same, bit_at_set_other}
use Rattle.std.proofs.lemmas.Slice.Eq.{bytes_eq-Decides}
use Rattle.grove_base.specs.Numbers.{any_below}
use Rattle.grove_base.proofs.Counting.{any_none}
use Rattle.grove_tree.specs.Trees.{Rows}
use Rattle.grove_tree.specs.Rules.{is_twin}
use Rattle.grove_tree.specs.RowMarks.{row_mark, IsSet, AreNoted}
use Rattle.grove_tree.proofs.FaultlessRows.{shared_parent}

-- a word with the bit of a mark set
abbrev pub word_with : ℕ → ℕ → ℕ
word_with word mark = bit_or word (1 * 2 ^ (mark % 64) % 2 ^ 64)

-- words with the bit of a mark set
abbrev pub words_with : List ℕ → ℕ → List ℕ
words_with words mark = set words (mark / 64) (word_with (get_or words (mark / 64) 0) mark)

-- the word in which it is
own_word : (words : List ℕ) (mark : ℕ) → mark / 64 < length words
    → get_or (words_with words mark) (mark / 64) 0 ≡ word_with (get_or words (mark / 64) 0) mark
own_word words mark lt = get_or-set_same words (mark / 64) (word_with (get_or words (mark / 64) 0) mark) 0 lt

within_word : (mark : ℕ) → mark % 64 < 64
within_word mark = mod_below mark 64 (omega arith)

stays_in_word : (word mark bit : ℕ) → bit_at word bit ≡ 1 → bit_at (word_with word mark) bit ≡ 1
stays_in_word word mark bit is = elim (cases_eq bit (mark % 64)) [
  | inl e ↦ rw e (bit_at_set_same w64 word (mark % 64) (within_word mark))
  | inr ne ↦ bit_at_set_other w64 word (mark % 64) (within_word mark) bit ne ∙ is
]

-- the mark is there
pub set_own : (words : List ℕ) (mark : ℕ) → mark / 64 < length words → IsSet (words_with words mark) mark
set_own words mark lt =
    ap (λ (word : ℕ). bit_at word (mark % 64)) (own_word words mark lt)
    ∙ bit_at_set_same w64 (get_or words (mark / 64) 0) (mark % 64) (within_word mark)

-- and those that were there stay
pub set_others : (words : List ℕ) (mark other : ℕ) → mark / 64 < length words → IsSet words other
    → IsSet (words_with words mark) other
set_others words mark other lt is = grind (arith, cases_eq, get_or-set_other, own_word, stays_in_word)

-- twins have the same mark
twin_marks : (rows : Rows) (row other : ℕ) → is_twin rows row other ≡ true → row_mark rows other ≡ row_mark rows row
twin_marks rows row other twin = grind (arith, and_parts, bytes_eq-Decides, shared_parent)

-- so a row whose mark isn't there has no twin before it
pub unset_alone : (words : List ℕ) (rows : Rows) (row : ℕ) → AreNoted words rows row
    → (IsSet words (row_mark rows row) → ⊥) → any_below row (is_twin rows row) ≡ false
unset_alone words rows row noted unset = grind (arith, any_none, false_from_ne_true, twin_marks)
