-- The texts of replies, and those of a round one after the other.
use Rattle.std.proofs.Common.{◌≡◌, ℕ, ◌+◌, ◌-◌, ◌<◌, List, [], ◌∷◌, ◌++◌, length, get_or, take, drop, map, sum, refl, sym, ◌∙◌, ap, arith, append_assoc}
use Rattle.std.specs.Prelude.{Result, Ok, Err, IfOk, MatchResult}
use Rattle.std.specs.Borrow.{Bor}
use Rattle.std.proofs.lemmas.List.{at_drop_more, drop-drop, take-map, drop-map, length-map}
use Rattle.std.proofs.lemmas.List.Sums.{sum_by-cons}
use Rattle.serde_json.specs.Written.{compact_text}
use Rattle.grove_base.specs.Numbers.{numbers_below}
use Rattle.grove_base.proofs.Counting.{numbers_length}
use Rattle.grove_access.specs.declared.reply.Reply.{Reply}
use Rattle.grove_wire.specs.Replies.{round_data}
use Rattle.grove_store.specs.Rounds.{round_texts}

-- a reply that was made is that of a text that was made
pub text_made : {E : Type 0} {P : List ℕ → Type 0} (text : Result (List ℕ) E) (replies : List (List ℕ)) → IfOk text P
    → MatchResult text (λ t. replies ≡ t ∷ []) (λ _. ⊥)
    → (t : List ℕ) × P t × (replies ≡ t ∷ [])
text_made (Ok t) replies tells one = (t, tells, one)
text_made (Err e) replies tells one = absurd one

-- and it is the only one
pub one_made : {E : Type 0} (text : Result (List ℕ) E) (replies : List (List ℕ))
    → MatchResult text (λ t. replies ≡ t ∷ []) (λ _. ⊥) → length replies ≡ 1
one_made (Ok t) replies one = ap length one
one_made (Err e) replies one = absurd one

-- one more text, of the next places and replies
pub texts_more : (round : ℕ) (counts places : List ℕ) (replies : List (List Reply)) (texts all : List (List ℕ)) (i at count : ℕ) (text : List ℕ) → i < length counts → count ≡ get_or counts i 0
    → text ≡ compact_text (round_data round (take count (drop at places)) (take count (drop at replies)))
    → texts ++ round_texts round (drop i counts) (drop at places) (drop at replies) ≡ all
    → (texts ++ text ∷ []) ++ round_texts round (drop (i + 1) counts) (drop (at + count) places) (drop (at + count) replies) ≡ all
texts_more round counts places replies texts all i at count text lt read is so_far =
    append_assoc texts (text ∷ []) _
    ∙ ap (λ rest. texts ++ rest) (
    ap (λ (t : List ℕ). t ∷ round_texts round (drop (i + 1) counts) (drop (at + count) places) (drop (at + count) replies)) is
    ∙ ap (λ (ps : List ℕ). compact_text (round_data round (take count (drop at places)) (take count (drop at replies))) ∷ round_texts round (drop (i + 1) counts) ps (drop (at + count) replies)) (sym (drop-drop count at places))
    ∙ ap (λ (rs : List (List Reply)). compact_text (round_data round (take count (drop at places)) (take count (drop at replies))) ∷ round_texts round (drop (i + 1) counts) (drop count (drop at places)) rs) (sym (drop-drop count at replies))
    ∙ ap (λ (n : ℕ). round_texts round (n ∷ drop (i + 1) counts) (drop at places) (drop at replies)) read
    ∙ sym (at_drop_more (λ (ns : List ℕ). round_texts round ns (drop at places) (drop at replies)) counts i 0 lt)
    )
    ∙ so_far

-- what is left to count, once one more count is done
pub sum_more : (counts : List ℕ) (i at count all : ℕ) → i < length counts → count ≡ get_or counts i 0 → at + sum (drop i counts) ≡ all → (at + count) + sum (drop (i + 1) counts) ≡ all
sum_more counts i at count all lt read so_far =
    let next : sum (drop i counts) ≡ sum (get_or counts i 0 ∷ drop (i + 1) counts) = at_drop_more sum counts i 0 lt in
    let parts : sum (get_or counts i 0 ∷ drop (i + 1) counts) ≡ get_or counts i 0 + sum (drop (i + 1) counts) = sum_by-cons (λ x. x) (get_or counts i 0) (drop (i + 1) counts) in
    omega arith

-- each line has one
pub texts_long : (round : ℕ) (counts places : List ℕ) (replies : List (List Reply)) → length (round_texts round counts places replies) ≡ length counts
texts_long round [] places replies = refl
texts_long round (count ∷ counts) places replies =
    let rest : length (round_texts round counts (drop count places) (drop count replies)) ≡ length counts = texts_long round counts (drop count places) (drop count replies) in omega arith

-- what is made for each number below n is n long
pub mapped_long : {A : Type 0} (f : ℕ → A) (n : ℕ) → length (map f (numbers_below n)) ≡ n
mapped_long f n = length-map (numbers_below n) f ∙ numbers_length n

-- what is told of slices is told of what they stand for
pub text_told : (round count at end : ℕ) (places : List ℕ) (replies : List (Bor (List Reply))) (text : List ℕ) → end ≡ at + count
    → text ≡ compact_text (round_data round (take (end - at) (drop at places)) (map (λ list. list.now) (take (end - at) (drop at replies))))
    → text ≡ compact_text (round_data round (take count (drop at places)) (take count (drop at (map (λ list. list.now) replies))))
text_told round count at end places replies text reaches told =
    let size : end - at ≡ count = omega arith in
    told
    ∙ ap (λ (n : ℕ). compact_text (round_data round (take n (drop at places)) (map (λ list. list.now) (take n (drop at replies))))) size
    ∙ ap (λ (rs : List (List Reply)). compact_text (round_data round (take count (drop at places)) rs))
    (sym (ap (λ (rs : List (List Reply)). take count rs) (drop-map (λ list. list.now) at replies) ∙ take-map (λ list. list.now) count (drop at replies)))
