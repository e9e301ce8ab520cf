-- Receipts that stand among those of all rounds, and that are all of them where they are as many.
use Rattle.std.proofs.Common.{◌≡◌, ℕ, zero, suc, ◌+◌, ◌-◌, ◌<◌, ◌≤◌, List, ◌++◌, length, drop, get_or, Option}
use Rattle.std.proofs.Common.{Some, None, refl, sym, ap, subst, ◌∙◌, arith, Bor}
use Rattle.std.specs.Prelude.{All, slice_get, MatchOption}
use Rattle.std.specs.List.{HoldsAt}
use Rattle.std.specs.Option.{option_copied}
use Rattle.std.proofs.lemmas.List.{same_lists, drop_more}
use Rattle.std.proofs.lemmas.Option.{slice_get_within, slice_get_past, slice_get-get_or, get_or_from_slice_get}
use Rattle.grove_base.proofs.Lists.{get_append_at, get_append_left}
use Rattle.grove_store.specs.StoreStates.{StoreState}
use Rattle.grove_desk.specs.Receipts.{ReceiptState}
use Rattle.grove_desk.specs.Histories.{RoundState, receipts_in, StandsIn, Ascend, IsHistory}
use Rattle.grove_desk.specs.Ledgers.{JournalState, IsJournal}

-- ---- the receipt of a number

-- what a look-up of a place gives
pub copied_at : (found : Option (Bor ReceiptState)) (receipts : List ReceiptState) (i : ℕ)
    → MatchOption found (length receipts ≤ i)
    (λ receipt. (i < length receipts) × HoldsAt (λ other. receipt.now ≡ other) receipts i)
    → option_copied found ≡ slice_get receipts i
copied_at None receipts i past = sym (slice_get_past receipts i past)
copied_at (Some receipt) receipts i (within, is) = ap Some (is receipt.now)
    ∙ sym (slice_get-get_or receipts i receipt.now within)

-- what is left of the receipts, at the next round
rest_here : (rounds : List RoundState) (i : ℕ) (round : RoundState) → i < length rounds → round ≡ get_or rounds i round
    → receipts_in (drop i rounds) ≡ round.receipts ++ receipts_in (drop (i + 1) rounds)
rest_here rounds i round within is =
    ap receipts_in (drop_more rounds i round within)
    ∙ ap (λ (c : RoundState). c.receipts ++ receipts_in (drop (i + 1) rounds)) (sym is)

-- a number within the next round's receipts
pub found_here : (rounds : List RoundState) (i : ℕ) (round : RoundState) (rest count : ℕ) → i < length rounds
    → round ≡ get_or rounds i round → count ≡ length round.receipts → rest < count
    → slice_get round.receipts rest ≡ slice_get (receipts_in (drop i rounds)) rest
found_here rounds i round rest count within is many here =
    sym (ap (λ (es : List ReceiptState). slice_get es rest) (rest_here rounds i round within is)
    ∙ get_append_left round.receipts (receipts_in (drop (i + 1) rounds)) rest (omega arith))

-- a number behind them
pub found_later : (rounds : List RoundState) (i : ℕ) (round : RoundState) (rest count : ℕ) → i < length rounds
    → round ≡ get_or rounds i round → count ≡ length round.receipts → count ≤ rest
    → slice_get (receipts_in (drop (i + 1) rounds)) (rest - count) ≡ slice_get (receipts_in (drop i rounds)) rest
found_later rounds i round rest count within is many later =
    let others = receipts_in (drop (i + 1) rounds) in
    let at : rest ≡ length round.receipts + (rest - count) = omega arith in
    sym (ap (λ (es : List ReceiptState). slice_get es rest) (rest_here rounds i round within is)
    ∙ ap (slice_get (round.receipts ++ others)) at ∙ get_append_at round.receipts others (rest - count))

-- ---- as many receipts as there are

-- numbers that rise are as far apart as their places, at least
gap : (receipts : List ReceiptState) (other : ReceiptState) → Ascend receipts → (k j m : ℕ) → m ≡ k + j
    → m < length receipts → (get_or receipts k other).number + j ≤ (get_or receipts m other).number
gap receipts other rise k zero m at within =
    let same : (get_or receipts m other).number ≡ (get_or receipts k other).number =
    ap (λ (n : ℕ). (get_or receipts n other).number) (at ∙ omega arith) in omega arith
gap receipts other rise k (suc j) m at within =
    let before = gap receipts other rise k j (k + j) refl (omega arith) in
    let step = rise (k + j) other (omega arith) in
    let same : (get_or receipts m other).number ≡ (get_or receipts (k + j + 1) other).number =
    ap (λ (n : ℕ). (get_or receipts n other).number) (at ∙ omega arith) in
    omega arith

-- rising numbers below their count are the places
placed : (receipts : List ReceiptState) (other : ReceiptState) → Ascend receipts
    → ((k : ℕ) → k < length receipts → (get_or receipts k other).number < length receipts) → (k : ℕ)
    → k < length receipts → (get_or receipts k other).number ≡ k
placed receipts other rise below k within =
    let low = gap receipts other rise 0 k k (omega arith) within in
    let high = gap receipts other rise k (length receipts - (k + 1)) (length receipts - 1) (omega arith)
    (omega arith) in
    let last = below (length receipts - 1) (omega arith) in
    omega arith

-- receipts that stand among all, in order, and are as many, are all
all_of : (receipts all : List ReceiptState)
    → ((k : ℕ) (other : ReceiptState) → k < length receipts
    → slice_get all (get_or receipts k other).number ≡ Some (get_or receipts k other)) → Ascend receipts
    → length receipts ≡ length all → receipts ≡ all
all_of receipts all stand rise many = same_lists receipts all many
    (λ (k : ℕ) (other : ReceiptState) (within : k < length receipts).
    let below = λ (n : ℕ) (lt : n < length receipts). subst (λ (m : ℕ). (get_or receipts n other).number < m) (sym many)
    (slice_get_within all (get_or receipts n other).number (get_or receipts n other) (stand n other lt)) in
    let here : (get_or receipts k other).number ≡ k = placed receipts other rise below k within in
    sym (get_or_from_slice_get all k (get_or receipts k other) other
    (subst (λ (n : ℕ). slice_get all n ≡ Some (get_or receipts k other)) here (stand k other within))))

-- a journal in which the receipts stand in order is their history
pub history_of : (opening last : StoreState) (receipts : List ReceiptState) (journal : JournalState)
    → IsJournal opening journal last → Ascend receipts × All (StandsIn journal.rounds) receipts
    → IsHistory opening receipts journal.rounds last
history_of opening last receipts journal is (rise, stand) = record {
  leads = is.leads;
  begins = is.begins;
  numbered = is.numbered;
  stand = stand;
  once = rise;
  whole = all_of receipts (receipts_in journal.rounds) stand rise;
}
