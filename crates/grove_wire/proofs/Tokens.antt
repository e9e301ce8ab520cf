-- The tokens of an array's items, written one after the other, are the array's, and a value's tokens print as its text.
use Rattle.std.proofs.Common.{◌≡◌, ℕ, ◌+◌, ◌<◌, ◌≤◌, List, [], ◌∷◌, ◌++◌, length, get_or, take, map}
use Rattle.std.proofs.Common.{refl, sym, ap, ◌∙◌, append_assoc}
use Rattle.std.proofs.lemmas.List.{take_more, take_all, flat_map_more}
use Rattle.json.specs.Token as token
use Rattle.json.specs.Token.{Token}
use Rattle.json.specs.Tree.{json_tokens, items_tokens}
use Rattle.json.specs.Print.{print}
use Rattle.serde_json.specs.Data.{Data}
use Rattle.serde_json.specs.View.{items_of}
use Rattle.serde_json.specs.Written.{outline, items_outline, compact_text}
use Rattle.serde_json.proofs.Texts.{print-outline}
use Rattle.grove_wire.specs.Writing.{array_of}
use Rattle.grove_wire.specs.Tokens.{tokens_of}

-- tokens more behind those that were written
pub then_more : (old front before after next : List Token) → before ≡ old ++ front → after ≡ before ++ next
    → after ≡ old ++ (front ++ next)
then_more old front before after next is more = more ∙ ap (λ ts. ts ++ next) is ∙ append_assoc old front next

-- five lists joined from the left are joined from the right
pub joined : {A : Type 0} (a b c d e : List A) → (((a ++ b) ++ c) ++ d) ++ e ≡ a ++ (b ++ (c ++ (d ++ e)))
joined a b c d e =
    append_assoc ((a ++ b) ++ c) d e ∙ append_assoc (a ++ b) c (d ++ e) ∙ append_assoc a b (c ++ (d ++ e))

-- the text of a value, if nothing was written before
pub value_written : (d : Data) (before all : List Token) → before ≡ [] → all ≡ before ++ json_tokens (outline d)
    → print all ≡ compact_text d
value_written d before all none written =
    ap print (written ∙ ap (λ ts. ts ++ json_tokens (outline d)) none) ∙ print-outline d

module _ {A : Type 0} (data_of : A → Data) where
  -- an item more is written
  pub one_more : (xs : List A) (at : ℕ) (x : A) (old before after : List Token) → at < length xs → x ≡ get_or xs at x
      → before ≡ old ++ tokens_of data_of (take at xs) → after ≡ before ++ json_tokens (outline (data_of x))
      → after ≡ old ++ tokens_of data_of (take (at + 1) xs)
  one_more xs at x old before after within is so_far more =
      let next = json_tokens (outline (data_of x)) in
      more ∙ ap (λ ts. ts ++ next) so_far
      ∙ flat_map_more (λ y. json_tokens (outline (data_of y))) old (take at xs) x
      ∙ ap (λ ys. old ++ tokens_of data_of ys)
      (ap (λ y. take at xs ++ y ∷ []) is ∙ sym (take_more xs at x within))

  -- all items are written
  pub all_written : (xs : List A) (at : ℕ) (old new : List Token) → length xs ≤ at
      → new ≡ old ++ tokens_of data_of (take at xs) → new ≡ old ++ tokens_of data_of xs
  all_written xs at old new beyond is = is ∙ ap (λ ys. old ++ tokens_of data_of ys) (take_all at xs beyond)

  -- the items of an array, and what closes it
  items_written : (xs : List A) → items_tokens (items_outline (items_of (map data_of xs)))
      ≡ tokens_of data_of xs ++ token.end_array ∷ []
  items_written [] = refl
  items_written (x ∷ xs) =
      let first = json_tokens (outline (data_of x)) in
      ap (λ rest. first ++ rest) (items_written xs)
      ∙ sym (append_assoc first (tokens_of data_of xs) (token.end_array ∷ []))

  -- an array that was written in three parts
  pub array_told : (xs : List A) (old begun told all : List Token) → begun ≡ old ++ token.begin_array ∷ []
      → told ≡ begun ++ tokens_of data_of xs → all ≡ told ++ token.end_array ∷ []
      → all ≡ old ++ json_tokens (outline (array_of data_of xs))
  array_told xs old begun told all begins tells ends =
      let tokens = tokens_of data_of xs in
      let opening = token.begin_array ∷ [] in
      let ending = token.end_array ∷ [] in
      let filled = then_more old opening begun told tokens begins tells in
      let closed = then_more old (opening ++ tokens) told all ending filled ends in
      closed ∙ ap (λ ts. old ++ token.begin_array ∷ ts) (sym (items_written xs))
