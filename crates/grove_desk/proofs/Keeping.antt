-- A round more: rounds, noted or not, go on leading from the opening store to the last.
use Rattle.std.proofs.Common.{◌≡◌, ℕ, ◌+◌, ◌-◌, ◌<◌, ◌≤◌, List, [], ◌∷◌, ◌++◌, length, map, take, get_or, ◌↔◌}
use Rattle.std.proofs.Common.{Option, Some, None, refl, sym, ap, subst, ◌∙◌, append_assoc, append-nil, inl, inr, arith}
use Rattle.std.proofs.Common.{length-append}
use Rattle.std.specs.Prelude.{All, Bool, true, false, IsSome}
use Rattle.std.specs.Option.{option_map}
use Rattle.std.proofs.lemmas.Bool.{cases_lt}
use Rattle.std.proofs.lemmas.List.{length-map, length-take, get_or_append_left, get_or-append_right}
use Rattle.grove_store.specs.StoreStates.{StoreState, IsSuccessor}
use Rattle.grove_store.specs.Rounds.{IsLawfulRound}
use Rattle.grove_tree.specs.Weights.{unweighed}
use Rattle.grove_store.proofs.RoundsKeep.{round_keeps}
use Rattle.std.proofs.lemmas.Option.{slice_get-map, slice_get-get_or}
use Rattle.grove_desk.specs.Receipts.{ReceiptState, AreNumberedFrom, number_at}
use Rattle.grove_desk.specs.Histories.{RoundState, IsRound, store_before, Leads, Led, IsReached, IsKept}
use Rattle.grove_desk.specs.Histories.{IsDeskReceipt, receipts_in}
use Rattle.grove_desk.specs.Ledgers.{JournalState, noted_in, next_number, IsJournal, IsJournalOf, IsAccount}

-- a round more at the end has no store before the first of the others
pub before_more : (rounds : List RoundState) (round : RoundState) (last : StoreState)
    → store_before (rounds ++ round ∷ []) last ≡ store_before rounds round.before
before_more [] round last = refl
before_more (first ∷ rounds) round last = refl

-- rounds lead on through a round more
pub leads_more : (rounds : List RoundState) (round : RoundState) (last : StoreState) → Leads rounds round.before
    → IsRound round.before round.receipts last → Leads (rounds ++ round ∷ []) last
leads_more [] round last leads is = (is, tt)
leads_more (first ∷ rounds) round last leads is = (
  subst (λ (s : StoreState). IsRound first.before first.receipts s) (sym (before_more rounds round last)) leads.0,
  leads_more rounds round last leads.1 is,
)

-- the receipts of a round more stand at the end
pub receipts_more : (rounds : List RoundState) (round : RoundState)
    → receipts_in (rounds ++ round ∷ []) ≡ receipts_in rounds ++ round.receipts
receipts_more [] round = append-nil round.receipts
receipts_more (first ∷ rounds) round = ap (λ (rs : List ReceiptState). first.receipts ++ rs)
    (receipts_more rounds round) ∙ sym (append_assoc first.receipts (receipts_in rounds) round.receipts)

-- numbers that go on behind others
pub numbers_join : (first next : Option ℕ) (front back : List ReceiptState)
    → ((place : ℕ) → number_at next place ≡ number_at first (length front + place)) → AreNumberedFrom first front
    → AreNumberedFrom next back → AreNumberedFrom first (front ++ back)
numbers_join first next front back on are more place other lt = elim (cases_lt place (length front)) [
  | inl before ↦ ap (λ (e : ReceiptState). e.number) (get_or_append_left front back other place before)
      ∙ are place other before
  | inr after ↦
      let long = length-append front back in
      let here : length front + (place - length front) ≡ place = omega arith in
      ap (λ (e : ReceiptState). e.number) (get_or-append_right front back (length front) place other refl after)
      ∙ more (place - length front) other (omega arith) ∙ on (place - length front) ∙ ap (number_at first) here
]

-- a journal with a round more is that of the store after it
journal_more : (opening : StoreState) (journal : JournalState) (round : RoundState) (last : StoreState)
    → IsJournal opening journal round.before → IsRound round.before round.receipts last
    → AreNumberedFrom (Some journal.lines) round.receipts
    → IsJournal opening (noted_in round journal) last
journal_more opening journal round last is leads numbered = record {
  leads = leads_more journal.rounds round last is.leads leads;
  begins = before_more journal.rounds round last ∙ is.begins;
  counted =
      let all = ap length (receipts_more journal.rounds round)
      ∙ length-append (receipts_in journal.rounds) round.receipts in
      let so_far = is.counted in omega arith;
  numbered = subst (AreNumberedFrom (Some 0)) (sym (receipts_more journal.rounds round))
      (numbers_join (Some 0) (Some journal.lines) (receipts_in journal.rounds) round.receipts
      (λ place. omega (arith, is.counted)) is.numbered numbered);
}

-- where a journal is kept, it goes on with a round more
kept_more : (opening : StoreState) (journal : Option JournalState) (round : RoundState) (last : StoreState)
    → IsJournalOf opening journal round.before → IsRound round.before round.receipts last
    → AreNumberedFrom (next_number journal) round.receipts
    → IsJournalOf opening (option_map (noted_in round) journal) last
kept_more opening None round last kept leads numbered = tt
kept_more opening (Some journal) round last kept leads numbered =
    journal_more opening journal round last kept leads numbered

-- a journal is there after a round where it was before
some_more : (round : RoundState) (journal : Option JournalState) (kept : Bool) → IsSome journal ↔ (kept ≡ true)
    → IsSome (option_map (noted_in round) journal) ↔ (kept ≡ true)
some_more round None kept some = some
some_more round (Some journal) kept some = some

-- lawful rounds lead on through one more
led_more : (opening before after : StoreState) (receipts : List ReceiptState) → Led opening before
    → IsRound before receipts after → Led opening after
led_more opening before after receipts led round =
    let it : RoundState = record { before = before; receipts = receipts } in record {
      rounds = led.rounds ++ it ∷ [];
      leads = leads_more led.rounds it after led.leads round;
      begins = before_more led.rounds it after ∙ led.begins;
    }

-- an account goes on with a round that was answered, and noted where a journal is kept
pub account_more : (opening : StoreState) (kept : Bool) (before after : StoreState)
    (journal noted : Option JournalState) (receipts : List ReceiptState) → IsAccount opening kept before journal
    → IsRound before receipts after → AreNumberedFrom (next_number journal) receipts
    → noted ≡ option_map (noted_in (record { before = before; receipts = receipts })) journal
    → IsAccount opening kept after noted
account_more opening kept before after journal noted receipts is round numbered more =
    let it : RoundState = record { before = before; receipts = receipts } in
    subst (λ (j : Option JournalState). IsAccount opening kept after j) (sym more) (record {
      led = led_more opening before after receipts is.led round;
      account = kept_more opening journal it after is.account round numbered;
      keeps = some_more it journal kept is.keeps;
    })

-- a lawful round has at most as many replies as there are lines
pub few_replies : {L : Type 0} (line_of : L → List ℕ) (before after : StoreState) (texts : List (List ℕ))
    (lines : List L) (replies : List (List ℕ)) → texts ≡ map line_of lines
    → IsLawfulRound before (take (length replies) texts) replies after → length replies ≤ length lines
few_replies line_of before after texts lines replies are round =
    let kept = (round_keeps before (take (length replies) texts) replies after round).1 in
    let all : length texts ≡ length lines = ap length are ∙ length-map lines line_of in
    let cut = length-take (length replies) texts in
    omega arith

-- the store after a round is a successor of the one before
pub next_of : (before after : StoreState) (receipts : List ReceiptState) → IsRound before receipts after
    → IsSuccessor before after
next_of before after receipts round = (round_keeps before _ _ after round.round).0

-- rounds keep the names
names_kept : (rounds : List RoundState) (last : StoreState) → Leads rounds last
    → unweighed last.rows ≡ unweighed (store_before rounds last).rows
names_kept [] last leads = refl
names_kept (round ∷ rounds) last leads = names_kept rounds last leads.1
    ∙ (round_keeps round.before _ _ (store_before rounds last) leads.0.round).0.names

-- a store that rounds lead to has the names of the opening store
pub led_names : (opening last : StoreState) → Led opening last → unweighed last.rows ≡ unweighed opening.rows
led_names opening last led = names_kept led.rounds last led.leads ∙ ap (λ (s : StoreState). unweighed s.rows) led.begins

-- a receipt of a round is reached where lawful rounds lead to the store before it, by that round
reached_by : (opening before after : StoreState) (receipts : List ReceiptState) (place : ℕ) (other : ReceiptState)
    → place < length receipts → Led opening before → IsRound before receipts after
    → (reaches : IsReached opening (get_or receipts place other)) × (reaches.allowed.after ≡ after)
reached_by opening before after receipts place other lt led round = (
  record {
    allowed = record {
      before = before;
      after = after;
      lines = map (λ (e : ReceiptState). e.line) receipts;
      replies = map (λ (e : ReceiptState). e.reply) receipts;
      place = place;
      over = led_names opening before led;
      round = round.round;
      asked = slice_get-map (λ (e : ReceiptState). e.line) receipts place
          ∙ ap (option_map (λ (e : ReceiptState). e.line)) (slice_get-get_or receipts place other lt);
      replied = slice_get-map (λ (e : ReceiptState). e.reply) receipts place
          ∙ ap (option_map (λ (e : ReceiptState). e.reply)) (slice_get-get_or receipts place other lt);
      counted = sym (round.counted place other lt);
    };
    led = led;
  },
  refl,
)

-- without a journal the receipts have the number 0
unnumbered : (journal : Option JournalState) (kept : Bool) (receipt : ReceiptState) (place : ℕ)
    → IsSome journal ↔ (kept ≡ true) → receipt.number ≡ number_at (next_number journal) place → kept ≡ false
    → receipt.number ≡ 0
unnumbered None kept receipt place some is plain = is
unnumbered (Some journal) kept receipt place some is plain = let yes : kept ≡ true = some.0 refl in absurd (cc)

-- the receipts of a round, from which lawful rounds lead to a store that was kept, are answers of the desk
pub answered_by : {K : Type 0} (stands_for : K → StoreState → Type 0) (opening : StoreState) (kept : Bool)
    (before after last : StoreState) (journal : Option JournalState) (receipts : List ReceiptState)
    → IsAccount opening kept before journal → IsRound before receipts after
    → AreNumberedFrom (next_number journal) receipts → Led after last → IsKept stands_for last
    → All (IsDeskReceipt stands_for opening kept) receipts
answered_by stands_for opening kept before after last journal receipts is round numbered led stands place other lt =
    let reached = reached_by opening before after receipts place other lt is.led round in record {
      answered = record {
        reached = reached.0;
        last = last;
        led = subst (λ (s : StoreState). Led s last) (sym reached.1) led;
        stands = stands;
      };
      unnumbered = unnumbered journal kept (get_or receipts place other) place is.keeps (numbered place other lt);
    }
