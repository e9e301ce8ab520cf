-- Rounds that follow one another: what they answer together, what a journal has of them, and what they lead to.
use Rattle.std.proofs.Common.{◌≡◌, ℕ, suc, ◌+◌, ◌-◌, ◌<◌, ◌≤◌, List, [], ◌∷◌, ◌++◌, length, map, take, drop}
use Rattle.std.proofs.Common.{get_or, Option, Some, None, refl, sym, ap, subst, ◌∙◌, append-nil, arith, length-append}
use Rattle.std.proofs.Common.{length-drop}
use Rattle.std.specs.Prelude.{All, Bool, Result, Ok, Err, IsOk, OnOk, OnErr, IfSome, is_ok, is_err, false}
use Rattle.std.specs.Prelude.{if◌then◌else◌, option_to_list}
use Rattle.std.specs.Option.{option_map, is_some}
use Rattle.std.proofs.lemmas.Bool.{false≢true}
use Rattle.std.proofs.lemmas.List.{length-map, length-take, length-take-le, get_or_append_left, get_or-append_right}
use Rattle.std.proofs.lemmas.List.{map-append, drop_all}
use Rattle.std.proofs.lemmas.List.{drop-map, drop-drop, drop-append-le, take-append-le, take-append-drop}
use Rattle.std.proofs.lemmas.List.Elements.{All-append}
use Rattle.std.proofs.Math.Seq.{take-add, take-length, drop-append_seam}
use Rattle.grove_store.specs.StoreStates.{StoreState, IsSuccessor}
use Rattle.grove_line.specs.declared.asked.Asked.{Asked}
use Rattle.grove_desk.specs.Receipts.{ReceiptState, AreNumberedFrom, number_at}
use Rattle.grove_desk.specs.Histories.{RoundState, IsRound, store_before, Leads, IsKept, IsDeskReceipt}
use Rattle.grove_desk.specs.Histories.{receipts_in}
use Rattle.grove_desk.specs.Ledgers.{JournalState, noted_in, noted_all, next_number, IsAccount, AreAnswered}
use Rattle.grove_desk.specs.Ledgers.{AreAnsweredInTurn}
use Rattle.grove_desk.proofs.Keeping.{before_more, leads_more, receipts_more, numbers_join, account_more}
use Rattle.grove_desk.proofs.Keeping.{answered_by, next_of}

-- ---- numbers

-- the next number after a round
number_after : (round : RoundState) (journal : Option JournalState) (place : ℕ)
    → number_at (next_number (option_map (noted_in round) journal)) place
    ≡ number_at (next_number journal) (length round.receipts + place)
number_after round None place = refl
number_after round (Some journal) place = omega arith

-- and after several
number_after_all : (rounds : List RoundState) (journal : Option JournalState) (place : ℕ)
    → number_at (next_number (option_map (noted_all rounds) journal)) place
    ≡ number_at (next_number journal) (length (receipts_in rounds) + place)
number_after_all rounds None place = refl
number_after_all [] (Some journal) place = omega arith
number_after_all (round ∷ rounds) (Some journal) place =
    let long = length-append round.receipts (receipts_in rounds) in
    let later = number_after_all rounds (Some (noted_in round journal)) place in
    later ∙ number_after round (Some journal) (length (receipts_in rounds) + place)
    ∙ ap (number_at (Some journal.lines)) (omega (arith, long))

-- those of the first part
numbers_front : (first : Option ℕ) (front back : List ReceiptState) → AreNumberedFrom first (front ++ back)
    → AreNumberedFrom first front
numbers_front first front back are place other lt =
    let long = length-append front back in
    sym (ap (λ (e : ReceiptState). e.number) (get_or_append_left front back other place lt))
    ∙ are place other (omega arith)

-- and of the rest
numbers_back : (first next : Option ℕ) (front back : List ReceiptState)
    → ((place : ℕ) → number_at next place ≡ number_at first (length front + place))
    → AreNumberedFrom first (front ++ back) → AreNumberedFrom next back
numbers_back first next front back on are place other lt =
    let long = length-append front back in
    let here : length front + place - length front ≡ place = omega arith in
    sym (ap (λ (e : ReceiptState). e.number) (get_or-append_right front back (length front) (length front + place) other
    refl (omega arith) ∙ ap (λ (n : ℕ). get_or back n other) here))
    ∙ are (length front + place) other (omega arith) ∙ sym (on place)

-- ---- a journal

-- the rounds before one more
noted_more : (rounds : List RoundState) (round : RoundState) (journal : JournalState)
    → noted_all (rounds ++ round ∷ []) journal ≡ noted_in round (noted_all rounds journal)
noted_more [] round journal = refl
noted_more (first ∷ rounds) round journal = noted_more rounds round (noted_in first journal)

option_noted_more : (rounds : List RoundState) (round : RoundState) (journal : Option JournalState)
    → option_map (noted_all (rounds ++ round ∷ [])) journal
    ≡ option_map (noted_in round) (option_map (noted_all rounds) journal)
option_noted_more rounds round None = refl
option_noted_more rounds round (Some journal) = ap Some (noted_more rounds round journal)

-- no round
noted_none : (journal : Option JournalState) → option_map (noted_all []) journal ≡ journal
noted_none None = refl
noted_none (Some journal) = refl

-- one round, and the others
noted_next : (round : RoundState) (rounds : List RoundState) (journal : Option JournalState)
    → option_map (noted_all (round ∷ rounds)) journal
    ≡ option_map (noted_all rounds) (option_map (noted_in round) journal)
noted_next round rounds None = refl
noted_next round rounds (Some journal) = refl

-- ---- an account

-- one that goes on with rounds, and has noted them where a journal is kept
pub accounts_more : (opening : StoreState) (kept : Bool) (rounds : List RoundState) (before after : StoreState)
    (journal noted : Option JournalState) → IsAccount opening kept before journal → Leads rounds after
    → store_before rounds after ≡ before → AreNumberedFrom (next_number journal) (receipts_in rounds)
    → noted ≡ option_map (noted_all rounds) journal → IsAccount opening kept after noted
accounts_more opening kept [] before after journal noted is leads begins numbered more =
    subst (λ (s : StoreState). IsAccount opening kept s noted) (sym begins)
    (subst (λ (j : Option JournalState). IsAccount opening kept before j) (sym (more ∙ noted_none journal)) is)
accounts_more opening kept (round ∷ rounds) before after journal noted is leads begins numbered more =
    let here = subst (λ (s : StoreState). IsAccount opening kept s journal) (sym begins) is in
    let next = account_more opening kept round.before (store_before rounds after) journal
    (option_map (noted_in round) journal) round.receipts here leads.0
    (numbers_front (next_number journal) round.receipts (receipts_in rounds) numbered) refl in
    accounts_more opening kept rounds (store_before rounds after) after (option_map (noted_in round) journal) noted next
    leads.1 refl
    (numbers_back (next_number journal) (next_number (option_map (noted_in round) journal)) round.receipts
    (receipts_in rounds) (number_after round journal) numbered)
    (more ∙ noted_next round rounds journal)

-- the receipts of rounds are answers of the desk, once the store that the last one left is kept
pub all_answered : {K : Type 0} (stands_for : K → StoreState → Type 0) (opening : StoreState) (kept : Bool)
    (rounds : List RoundState) (before after : StoreState) (journal : Option JournalState)
    → IsAccount opening kept before journal → Leads rounds after → store_before rounds after ≡ before
    → AreNumberedFrom (next_number journal) (receipts_in rounds) → IsKept stands_for after
    → All (IsDeskReceipt stands_for opening kept) (receipts_in rounds)
all_answered stands_for opening kept [] before after journal is leads begins numbered stands =
    λ place other lt. absurd (omega arith)
all_answered stands_for opening kept (round ∷ rounds) before after journal is leads begins numbered stands =
    let here = subst (λ (s : StoreState). IsAccount opening kept s journal) (sym begins) is in
    let first = numbers_front (next_number journal) round.receipts (receipts_in rounds) numbered in
    let later = numbers_back (next_number journal) (next_number (option_map (noted_in round) journal)) round.receipts
    (receipts_in rounds) (number_after round journal) numbered in
    let next = account_more opening kept round.before (store_before rounds after) journal
    (option_map (noted_in round) journal) round.receipts here leads.0 first refl in
    All-append (IsDeskReceipt stands_for opening kept) round.receipts (receipts_in rounds)
    (answered_by stands_for opening kept round.before (store_before rounds after) after journal round.receipts here
    leads.0 first (record { rounds = rounds; leads = leads.1; begins = refl }) stands)
    (all_answered stands_for opening kept rounds (store_before rounds after) after
    (option_map (noted_in round) journal) next leads.1 refl later stands)

-- what holds of all receipts that are left holds of the next one, if there is one, and of the others
pub next_receipt : (P : ReceiptState → Type 0) (o : Option ReceiptState) (old rest : List ReceiptState)
    → old ≡ option_to_list o ++ rest → All P old → IfSome o P × All P rest
next_receipt P None old rest is all = (tt, subst (All P) is all)
next_receipt P (Some receipt) old rest is all =
    let both = subst (All P) is all in
    (both 0 receipt (omega arith), λ place other lt. both (suc place) other (omega arith))

-- ---- stores

-- a round and the others lead to a successor
leads_on : (round : RoundState) (rounds : List RoundState) (last : StoreState) → Leads (round ∷ rounds) last
    → IsSuccessor round.before last
leads_on round [] last leads = next_of round.before last round.receipts leads.0
leads_on round (other ∷ rounds) last leads =
    let one = next_of round.before other.before round.receipts leads.0 in
    let more = leads_on other rounds last leads.1 in
    record { old = one.old; new = more.new; names = more.names ∙ one.names; workers = more.workers ∙ one.workers }

-- rounds that have receipts lead to a successor
pub rounds_lead : (rounds : List RoundState) (before after : StoreState) → Leads rounds after
    → store_before rounds after ≡ before → 0 < length (receipts_in rounds) → IsSuccessor before after
rounds_lead [] before after leads begins some = absurd (omega arith)
rounds_lead (round ∷ rounds) before after leads begins some =
    subst (λ (s : StoreState). IsSuccessor s after) begins (leads_on round rounds after leads)

-- ---- lines

-- a round has receipts
pub some_receipts : (before after : StoreState) (receipts : List ReceiptState) → IsRound before receipts after
    → 0 < length receipts
some_receipts before after [] round = round.round.answered.0
some_receipts before after (receipt ∷ receipts) round = omega arith

-- a first round
pub in_turn : {T : Type 0} (before after : StoreState) (journal noted : Option JournalState) (old new : List (Asked T))
    (receipts : List ReceiptState) → AreAnswered before after old new receipts
    → noted ≡ option_map (noted_in (record { before = before; receipts = receipts })) journal
    → AreAnsweredInTurn before after journal noted old new receipts
in_turn before after journal noted old new receipts are is =
    let it : RoundState = record { before = before; receipts = receipts } in record {
      rounds = it ∷ [];
      leads = (are.round, tt);
      begins = refl;
      some = some_receipts before after receipts are.round;
      told = sym (append-nil receipts);
      lines = are.lines;
      noted = is ∙ sym (noted_next it [] journal ∙ noted_none (option_map (noted_in it) journal));
      left = are.left;
    }

-- and a round more over the lines that were left
pub in_turn_more : {T : Type 0} (before middle after : StoreState) (journal noted later : Option JournalState)
    (old now new rest : List (Asked T)) (receipts more : List ReceiptState)
    → AreAnsweredInTurn before middle journal noted old now receipts
    → AreAnswered middle after (drop (length receipts) now) rest more
    → later ≡ option_map (noted_in (record { before = middle; receipts = more })) noted
    → drop (length receipts) new ≡ rest
    → AreAnsweredInTurn before after journal later old new (receipts ++ more)
in_turn_more {T} before middle after journal noted later old now new rest receipts more turn are is back =
    let it : RoundState = record { before = middle; receipts = more } in
    let long : length (receipts ++ more) ≡ length receipts + length more = length-append receipts more in
    let line : ReceiptState → List ℕ = λ (receipt : ReceiptState). receipt.line in
    let asked : Asked T → List ℕ = λ (asked : Asked T). asked.line in
    let behind : map line more ≡ take (length more) (drop (length receipts) (map asked old)) =
    are.lines ∙ ap (λ (ls : List (Asked T)). take (length more) (map asked ls)) turn.left
    ∙ ap (take (length more)) (sym (drop-map asked (length receipts) old)) in
    record {
      rounds = turn.rounds ++ it ∷ [];
      leads = leads_more turn.rounds it after turn.leads are.round;
      begins = before_more turn.rounds it after ∙ turn.begins;
      some = let some = turn.some in omega arith;
      told = ap (λ (rs : List ReceiptState). rs ++ more) turn.told ∙ sym (receipts_more turn.rounds it);
      lines = map-append line receipts more ∙ ap (λ (ls : List (List ℕ)). ls ++ map line more) turn.lines
          ∙ ap (λ (ls : List (List ℕ)). take (length receipts) (map asked old) ++ ls) behind
          ∙ sym (ap (λ (n : ℕ). take n (map asked old)) long
          ∙ take-add (length receipts) (length more) (map asked old));
      noted = is ∙ ap (option_map (noted_in it)) turn.noted ∙ sym (option_noted_more turn.rounds it journal);
      left = ap (λ (n : ℕ). drop n new) long ∙ sym (drop-drop (length more) (length receipts) new)
          ∙ ap (drop (length more)) back ∙ are.left ∙ ap (drop (length more)) turn.left
          ∙ drop-drop (length more) (length receipts) old ∙ sym (ap (λ (n : ℕ). drop n old) long);
    }

-- the numbers of a round more go on
pub numbered_on : {T : Type 0} (before middle : StoreState) (journal noted : Option JournalState) (old now : List (Asked T))
    (receipts more : List ReceiptState) → AreAnsweredInTurn before middle journal noted old now receipts
    → AreNumberedFrom (next_number journal) receipts → AreNumberedFrom (next_number noted) more
    → AreNumberedFrom (next_number journal) (receipts ++ more)
numbered_on before middle journal noted old now receipts more turn are next =
    numbers_join (next_number journal) (next_number noted) receipts more
    (λ place. ap (λ (j : Option JournalState). number_at (next_number j) place) turn.noted
    ∙ number_after_all turn.rounds journal place
    ∙ ap (λ (rs : List ReceiptState). number_at (next_number journal) (length rs + place)) (sym turn.told))
    are next

-- a round has no more receipts than lines
pub few_receipts : {T : Type 0} (before after : StoreState) (lines new : List (Asked T)) (receipts : List ReceiptState)
    → AreAnswered before after lines new receipts → length receipts ≤ length lines
few_receipts {T} before after lines new receipts are =
    let cut = ap length are.lines ∙ length-take (length receipts) (map (λ (asked : Asked T). asked.line) lines) in
    let told = length-map receipts (λ (receipt : ReceiptState). receipt.line) in
    let asked = length-map lines (λ (asked : Asked T). asked.line) in
    omega arith

-- what is answered of a front of the lines is answered of them all
pub answered_front : {T : Type 0} (before after : StoreState) (front part back : List (Asked T)) (receipts : List ReceiptState)
    → length part ≡ length front → AreAnswered before after front part receipts
    → AreAnswered before after (front ++ back) (part ++ back) receipts
answered_front {T} before after front part back receipts same are =
    let asked : Asked T → List ℕ = λ (asked : Asked T). asked.line in
    let few = few_receipts before after front part receipts are in
    let long = length-map front asked in
    record {
      lines = are.lines ∙ sym (ap (take (length receipts)) (map-append asked front back)
          ∙ take-append-le (length receipts) (map asked front) (map asked back) (omega arith));
      round = are.round;
      left = drop-append-le (length receipts) part back (omega arith)
          ∙ ap (λ (ls : List (Asked T)). ls ++ back) are.left
          ∙ sym (drop-append-le (length receipts) front back few);
    }

-- so it is of lines of which so many were answered apart
pub answered_part : {T : Type 0} (before after : StoreState) (lines part : List (Asked T)) (count : ℕ) (receipts : List ReceiptState)
    → length part ≡ length (take count lines) → AreAnswered before after (take count lines) part receipts
    → AreAnswered before after lines (part ++ drop count lines) receipts
answered_part {T} before after lines part count receipts same are =
    subst (λ (ls : List (Asked T)). AreAnswered before after ls (part ++ drop count lines) receipts)
    (take-append-drop count lines)
    (answered_front before after (take count lines) part (drop count lines) receipts same are)

-- the same of stores, lines and receipts that are the same
pub answered_same : {T : Type 0} (before middle after : StoreState) (old now new : List (Asked T))
    (receipts all : List ReceiptState) → after ≡ middle → new ≡ now → all ≡ receipts
    → AreAnswered before middle old now receipts → AreAnswered before after old new all
answered_same {T} before middle after old now new receipts all stores lines told are =
    subst (λ (s : StoreState). AreAnswered before s old new all) (sym stores)
    (subst (λ (ls : List (Asked T)). AreAnswered before middle old ls all) (sym lines)
    (subst (λ (rs : List ReceiptState). AreAnswered before middle old now rs) (sym told) are))

-- tickets of a part that stay
pub tickets_part : {T : Type 0} (lines part : List (Asked T)) (count : ℕ)
    → map (λ asked. asked.ticket) part ≡ map (λ asked. asked.ticket) (take count lines)
    → map (λ asked. asked.ticket) (part ++ drop count lines) ≡ map (λ asked. asked.ticket) lines
tickets_part {T} lines part count same =
    let ticket : Asked T → ℕ = λ (asked : Asked T). asked.ticket in
    map-append ticket part (drop count lines) ∙ ap (λ (ts : List ℕ). ts ++ map ticket (drop count lines)) same
    ∙ sym (map-append ticket (take count lines) (drop count lines)) ∙ ap (map ticket) (take-append-drop count lines)

-- what a part of the lines holds, once it was put back behind the first ones
pub put_behind : {T : Type 0} (lines rest : List (Asked T)) (done : ℕ) → done ≤ length lines
    → drop done (take done lines ++ (rest ++ drop (length lines - done) (drop done lines))) ≡ rest
put_behind {T} lines rest done within =
    let front : length (take done lines) ≡ done = length-take-le done lines within in
    let none : drop (length lines - done) (drop done lines) ≡ [] = drop_all (length lines - done) (drop done lines)
    (let long = length-drop done lines in omega arith) in
    subst (λ (n : ℕ). drop n (take done lines ++ (rest ++ drop (length lines - done) (drop done lines))) ≡ rest) front
    (drop-append_seam (take done lines) (rest ++ drop (length lines - done) (drop done lines))
    ∙ ap (λ (ls : List (Asked T)). rest ++ ls) none ∙ append-nil rest)

-- the lines from a place on are all that are behind it
pub all_behind : {T : Type 0} (lines : List (Asked T)) (done : ℕ) → take (length lines - done) (drop done lines) ≡ drop done lines
all_behind lines done =
    ap (λ (n : ℕ). take n (drop done lines)) (sym (length-drop done lines)) ∙ take-length (drop done lines)

-- tickets of lines that stay, of which the last were put back
pub tickets_behind : {T : Type 0} (lines rest : List (Asked T)) (done : ℕ)
    → map (λ asked. asked.ticket) rest ≡ map (λ asked. asked.ticket) (drop done lines)
    → map (λ asked. asked.ticket) (take done lines ++ (rest ++ drop (length lines - done) (drop done lines)))
    ≡ map (λ asked. asked.ticket) lines
tickets_behind {T} lines rest done same =
    let ticket : Asked T → ℕ = λ (asked : Asked T). asked.ticket in
    let none : drop (length lines - done) (drop done lines) ≡ [] = drop_all (length lines - done) (drop done lines)
    (let long = length-drop done lines in omega arith) in
    ap (λ (ls : List (Asked T)). map ticket (take done lines ++ (rest ++ ls))) none
    ∙ ap (λ (ls : List (Asked T)). map ticket (take done lines ++ ls)) (append-nil rest)
    ∙ map-append ticket (take done lines) rest
    ∙ ap (λ (ts : List ℕ). map ticket (take done lines) ++ ts) same
    ∙ sym (map-append ticket (take done lines) (drop done lines)) ∙ ap (map ticket) (take-append-drop done lines)

-- lines with the same tickets are as many
pub same_long : {T : Type 0} (lines new : List (Asked T)) → map (λ asked. asked.ticket) new ≡ map (λ asked. asked.ticket) lines
    → length new ≡ length lines
same_long {T} lines new same =
    let ticket : Asked T → ℕ = λ (asked : Asked T). asked.ticket in
    sym (length-map new ticket) ∙ ap (λ (ts : List ℕ). length ts) same ∙ length-map lines ticket

-- receipts that are put behind others, for which there is room
pub put_together : {E F : Type 0} (reserved : Result (Unit {0}) E) (put : Result (Unit {0}) F)
    (old was more now : List ReceiptState) (len many capacity : ℕ) → is_err reserved ≡ false
    → OnOk reserved (len + 16 ≤ capacity) → many ≤ 16 → was ≡ old → (len + many ≤ capacity → IsOk put)
    → now ≡ (if is_ok put then was ++ more else was) → now ≡ old ++ more
put_together (Err e) put old was more now len many capacity well room few same succeeds is = absurd (cc)
put_together (Ok x) (Err e) old was more now len many capacity well room few same succeeds is =
    absurd (false≢true (succeeds (omega arith)))
put_together (Ok x) (Ok y) old was more now len many capacity well room few same succeeds is =
    is ∙ ap (λ (rs : List ReceiptState). rs ++ more) same

-- a part that is as it was leaves the lines as they were
pub part_same : {T : Type 0} (lines part : List (Asked T)) (count : ℕ) → part ≡ take count lines → part ++ drop count lines ≡ lines
part_same {T} lines part count same =
    ap (λ (ls : List (Asked T)). ls ++ drop count lines) same ∙ take-append-drop count lines

-- and so does one that was put back behind the first ones
pub behind_same : {T : Type 0} (lines rest : List (Asked T)) (done : ℕ) → rest ≡ take (length lines - done) (drop done lines)
    → take done lines ++ (rest ++ drop (length lines - done) (drop done lines)) ≡ lines
behind_same {T} lines rest done same =
    ap (λ (ls : List (Asked T)). take done lines ++ (ls ++ drop (length lines - done) (drop done lines))) same
    ∙ ap (λ (ls : List (Asked T)). take done lines ++ ls) (take-append-drop (length lines - done) (drop done lines))
    ∙ take-append-drop done lines

-- what holds on an error, where there is one
pub on_err : {T E : Type 0} (result : Result T E) (P : Type 0) → P → OnErr result P
on_err (Ok x) P is = tt
on_err (Err e) P is = is

pub was_err : {T E : Type 0} (result : Result T E) (P : Type 0) → ((x : T) → result ≡ Ok x → ⊥) → OnErr result P → P
was_err (Ok x) P other is = absurd (other x refl)
was_err (Err e) P other is = is

-- the same of stores, journals, lines and receipts that are the same
pub in_turn_same : {T : Type 0} (before middle after : StoreState) (journal noted later : Option JournalState)
    (old now new : List (Asked T)) (receipts all : List ReceiptState) → after ≡ middle → later ≡ noted → new ≡ now
    → all ≡ receipts → AreAnsweredInTurn before middle journal noted old now receipts
    → AreAnsweredInTurn before after journal later old new all
in_turn_same {T} before middle after journal noted later old now new receipts all stores journals lines told turn =
    subst (λ (s : StoreState). AreAnsweredInTurn before s journal later old new all) (sym stores)
    (subst (λ (j : Option JournalState). AreAnsweredInTurn before middle journal j old new all) (sym journals)
    (subst (λ (ls : List (Asked T)). AreAnsweredInTurn before middle journal noted old ls all) (sym lines)
    (subst (λ (rs : List ReceiptState). AreAnsweredInTurn before middle journal noted old now rs) (sym told) turn)))

-- no journal
pub is_none : (journal : Option JournalState) → is_some journal ≡ false → journal ≡ None
is_none None no_one = refl
is_none (Some journal) no_one = absurd (cc)
