-- Receipts that are made one after the other.
use Rattle.std.proofs.Common.{◌≡◌, ℕ, ◌+◌, ◌-◌, ◌<◌, ◌≤◌, List, [], ◌∷◌, ◌++◌, length, map, take, drop, get_or, Option}
use Rattle.std.proofs.Common.{refl, sym, ap, subst, ◌∙◌, inl, inr, arith, length-drop}
use Rattle.std.proofs.lemmas.Bool.{cases_lt}
use Rattle.std.proofs.lemmas.List.{length-map, get_or-map, get_or_read, length_push, length-take-le, take_more}
use Rattle.std.proofs.lemmas.List.{map_push, get_or_append_left, get_or_push}
use Rattle.std.proofs.lemmas.List.Elements.{All-push}
use Rattle.std.proofs.Math.Seq.{take-length}
use Rattle.grove_desk.specs.Receipts.{ReceiptState, number_at, AreNumberedFrom}
use Rattle.grove_store.specs.StoreStates.{StoreState}
use Rattle.grove_store.specs.Rounds.{IsLawfulRound}
use Rattle.grove_desk.specs.Histories.{IsRound}
use Rattle.grove_desk.specs.Ledgers.{AreReceiptsOf}

-- one more receipt with the next number
pub numbered_more : (first : Option ℕ) (receipts : List ReceiptState) (receipt : ReceiptState)
    → AreNumberedFrom first receipts → receipt.number ≡ number_at first (length receipts)
    → AreNumberedFrom first (receipts ++ receipt ∷ [])
numbered_more first receipts receipt are is place other lt = elim (cases_lt place (length receipts)) [
  | inl before ↦ ap (λ (e : ReceiptState). e.number) (get_or_append_left receipts (receipt ∷ []) other place before)
      ∙ are place other before
  | inr after ↦
      let more = length_push receipts receipt in
      let here : length receipts ≡ place = omega arith in
      ap (λ (e : ReceiptState). e.number) (get_or_push receipts receipt other place here) ∙ is
      ∙ ap (number_at first) here
]

-- the receipt of the next line is one more
pub noted_more : {L : Type 0} (line_of : L → List ℕ) (first : Option ℕ) (lines : List L) (replies : List (List ℕ))
    (rounds : ℕ) (receipts after : List ReceiptState) (i place number : ℕ) (line reply : List ℕ) (asked : L)
    (item : List ℕ)
    → i < length replies → length replies ≤ length lines → length receipts ≡ i → place ≡ length receipts
    → AreReceiptsOf first (map line_of lines) (take i replies) rounds receipts
    → line ≡ line_of (get_or lines place asked) → reply ≡ item → item ≡ get_or replies i item
    → number ≡ number_at first place
    → after ≡ receipts ++ record { number = number; line = line; reply = reply; rounds = rounds } ∷ []
    → (length after ≡ i + 1) × AreReceiptsOf first (map line_of lines) (take (i + 1) replies) rounds after
noted_more line_of first lines replies rounds receipts after i place number line reply asked item within fit many here
    noted is_line is_reply is_item is_number pushed =
    let receipt : ReceiptState = record { number = number; line = line; reply = reply; rounds = rounds } in
    let all_lines = length-map lines line_of in
    let so_far : length (take i replies) ≡ i = length-take-le i replies (omega arith) in
    let with_it : length (take (i + 1) replies) ≡ i + 1 = length-take-le (i + 1) replies (omega arith) in
    let at_place : place ≡ i = here ∙ many in
    let next_line : line ≡ get_or (map line_of lines) i [] =
    is_line ∙ ap (λ (n : ℕ). line_of (get_or lines n asked)) at_place
    ∙ sym (get_or-map line_of lines i asked [] (omega arith)) in
    let next_reply : reply ≡ get_or replies i [] = is_reply ∙ get_or_read replies i item within is_item [] in
    let more : AreReceiptsOf first (map line_of lines) (take (i + 1) replies) rounds (receipts ++ receipt ∷ []) =
    record {
      asked = map_push (λ (e : ReceiptState). e.line) receipts receipt
          ∙ ap (λ (ls : List (List ℕ)). ls ++ line ∷ [])
          (noted.asked ∙ ap (λ (n : ℕ). take n (map line_of lines)) so_far)
          ∙ ap (λ (l : List ℕ). take i (map line_of lines) ++ l ∷ []) next_line
          ∙ sym (ap (λ (n : ℕ). take n (map line_of lines)) with_it ∙ take_more (map line_of lines) i [] (omega arith));
      replied = map_push (λ (e : ReceiptState). e.reply) receipts receipt
          ∙ ap (λ (rs : List (List ℕ)). rs ++ reply ∷ []) noted.replied
          ∙ ap (λ (r : List ℕ). take i replies ++ r ∷ []) next_reply
          ∙ sym (take_more replies i [] (omega arith));
      counted = All-push (λ (e : ReceiptState). e.rounds ≡ rounds) receipts receipt noted.counted refl;
      numbered = numbered_more first receipts receipt noted.numbered (is_number ∙ ap (number_at first) here);
    } in (
      ap length pushed ∙ length_push receipts receipt ∙ ap (λ (n : ℕ). n + 1) many,
      subst (λ (es : List ReceiptState). AreReceiptsOf first (map line_of lines) (take (i + 1) replies) rounds es)
          (sym pushed) more,
    )

-- once no reply of a lawful round is left, the receipts of its lines are a round
pub noted_round : {L : Type 0} (line_of : L → List ℕ) (first : Option ℕ) (lines : List L)
    (given replies rest texts : List (List ℕ)) (receipts : List ReceiptState) (before after : StoreState)
    → length rest ≡ 0 → rest ≡ drop (length receipts) replies → length receipts ≤ length replies → replies ≡ given
    → texts ≡ map line_of lines → IsLawfulRound before (take (length given) texts) given after
    → AreReceiptsOf first (map line_of lines) (take (length receipts) replies) after.rounds receipts
    → (map (λ receipt. receipt.line) receipts ≡ take (length receipts) (map line_of lines))
    × IsRound before receipts after
noted_round line_of first lines given replies rest texts receipts before after none left within same are lawful noted =
    let many : length rest ≡ length replies - length receipts = ap length left
    ∙ length-drop (length receipts) replies in
    let all : length receipts ≡ length given = let e : length replies ≡ length given = ap length same in omega arith in
    let told : take (length receipts) replies ≡ given =
    ap (λ (rs : List (List ℕ)). take (length receipts) rs) same ∙ ap (λ (n : ℕ). take n given) all
    ∙ take-length given in
    let asked : map (λ (receipt : ReceiptState). receipt.line) receipts ≡ take (length receipts) (map line_of lines) =
    noted.asked ∙ ap (λ (n : ℕ). take n (map line_of lines)) (ap length told ∙ sym all) in
    let put : take (length receipts) (map line_of lines) ≡ take (length given) texts =
    ap (λ (n : ℕ). take n (map line_of lines)) all ∙ ap (λ (ts : List (List ℕ)). take (length given) ts) (sym are) in (
      asked,
      record {
        round = subst (λ (ts : List (List ℕ)). IsLawfulRound before ts
            (map (λ (receipt : ReceiptState). receipt.reply) receipts) after) (sym (asked ∙ put))
            (subst (λ (rs : List (List ℕ)). IsLawfulRound before (take (length given) texts) rs after)
            (sym (noted.replied ∙ told)) lawful);
        counted = noted.counted;
      },
    )
