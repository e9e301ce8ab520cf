-- A round's reply, written part after part.
use Rattle.std.proofs.Common.{◌≡◌, ℕ, List, [], ◌∷◌, ◌++◌, codes, decimal, ap, ◌∙◌}
use Rattle.json.specs.Token.{Token, begin_object, end_object, key, number}
use Rattle.json.specs.Tree.{json_tokens}
use Rattle.json.specs.Print.{print}
use Rattle.serde_json.specs.Written.{outline, compact_text}
use Rattle.serde_json.proofs.Texts.{print-outline}
use Rattle.grove_access.specs.declared.reply.Reply.{Reply}
use Rattle.grove_wire.specs.Replies.{round_data}
use Rattle.grove_wire.specs.Writing.{array_of, count_data, reply_data}
use Rattle.grove_wire.proofs.Tokens.{then_more, joined}

module _ (round : ℕ) (places : List ℕ) (lists : List (List Reply)) where
  counts : List Token
  counts = json_tokens (outline (array_of count_data places))

  replies : List Token
  replies = json_tokens (outline (array_of (array_of reply_data) lists))

  -- the text of a round's reply whose tokens were written one part after the other
  pub round_written : (none opened first placed second told third numbered all : List Token) → none ≡ []
      → opened ≡ none ++ begin_object ∷ [] → first ≡ opened ++ key (codes "places") ∷ []
      → placed ≡ first ++ json_tokens (outline (array_of count_data places))
      → second ≡ placed ++ key (codes "replies") ∷ []
      → told ≡ second ++ json_tokens (outline (array_of (array_of reply_data) lists))
      → third ≡ told ++ key (codes "round") ∷ [] → numbered ≡ third ++ number (decimal round) ∷ []
      → all ≡ numbered ++ end_object ∷ [] → print all ≡ compact_text (round_data round places lists)
  unfolding counts replies
  round_written none opened first placed second told third numbered all is opens names_one places_one names_two
      tells names_three numbers ends =
      let front = begin_object ∷ key (codes "places") ∷ [] in
      let middle = key (codes "replies") ∷ [] in
      let three = key (codes "round") ∷ [] in
      let count = number (decimal round) ∷ [] in
      let to_opened = opens ∙ ap (λ ts. ts ++ begin_object ∷ []) is in
      let to_first = names_one ∙ ap (λ ts. ts ++ key (codes "places") ∷ []) to_opened in
      let to_placed = places_one ∙ ap (λ ts. ts ++ counts) to_first in
      let to_second = names_two ∙ ap (λ ts. ts ++ middle) to_placed in
      let to_told = tells ∙ ap (λ ts. ts ++ replies) to_second in
      let to_third = then_more (((front ++ counts) ++ middle) ++ replies) three third numbered count
      (names_three ∙ ap (λ ts. ts ++ three) to_told) numbers in
      let to_all = then_more (((front ++ counts) ++ middle) ++ replies) (three ++ count) numbered all
      (end_object ∷ []) to_third ends in
      ap print (to_all ∙ joined front counts middle replies (three ++ count ++ end_object ∷ []))
      ∙ print-outline (round_data round places lists)
