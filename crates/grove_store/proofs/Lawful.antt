-- What makes a round lawful: of one line alone, or of batches together.
use Rattle.std.proofs.Common.{◌≡◌, ◌⊎◌, ℕ, suc, ◌+◌, ◌-◌, ◌^◌, ◌<◌, ◌≤◌, max, List, [], ◌∷◌, length}
use Rattle.std.proofs.Common.{take, Option, Some, None, refl, sym, ◌∙◌, ap, ap₂, subst, inl, arith}
use Rattle.std.specs.Prelude.{option_map, option_and_then, Result, Ok}
use Rattle.std.proofs.lemmas.Option.{none-some, same_Some}
use Rattle.serde_json.specs.Data.{Data}
use Rattle.serde_json.specs.Written.{compact_text}
use Rattle.grove_tree.specs.Trees.{Rows}
use Rattle.grove_access.specs.declared.access.Access.{Access}
use Rattle.grove_wire.specs.declared.fault.WireFault.{WireFault}
use Rattle.grove_wire.specs.Requests.{Asked, Batch, request_of}
use Rattle.grove_store.specs.StoreStates.{StoreState, IsStore}
use Rattle.grove_store.specs.Alone.{RepliesAlone}
use Rattle.grove_store.specs.Rounds.{lists_asked, lists_in, batches_in, joined, first_fits, fitting, round_length, RunsRound, FailsRound, AnswersLines, IsLawfulRound}
use Rattle.grove_store.specs.Parts.{IsRoundOf, AnswersRound, AnswersFirst, RunsLists, RunsFirst}
use Rattle.grove_store.proofs.Together.{counts_one}
use Rattle.grove_store.proofs.Leaving.{answered_long}

-- a first line that is no batch is a round by itself
alone_lawful : (before after : StoreState) (line : List ℕ) (others : List (List ℕ)) (asked : Result Asked WireFault) (reply : Data) (text : List ℕ) (replies : List (List ℕ)) → IsStore before
    → request_of before.rows line ≡ asked → lists_asked asked ≡ None → RepliesAlone before asked reply after → text ≡ compact_text reply → replies ≡ text ∷ []
    → (length replies ≡ round_length before.rows (line ∷ others)) × IsLawfulRound before (take (length replies) (line ∷ others)) replies after
alone_lawful before after line others asked reply text replies store read none answers told one =
    let no_lists : lists_in before.rows line ≡ None = ap lists_asked read ∙ none in
    let long : length replies ≡ 1 = ap length one in
    let fits : fitting before.rows 256 (line ∷ others) ≡ 0 = ap (λ (o : Option (List (List Access))). first_fits o 256 (λ left. fitting before.rows left others)) no_lists in
    let no_batches : batches_in before.rows (line ∷ []) ≡ None = ap (λ (o : Option (List (List Access))). option_and_then (λ lists. option_map (λ batches. lists ∷ batches) (Some [])) o) no_lists in
    let lawful : IsLawfulRound before (line ∷ []) replies after = record {
      store = store;
      answered = subst (λ (o : Option (List (List (List Access)))). AnswersLines before (line ∷ []) o replies after) (sym no_batches)
          (line, text, refl, one, (reply, subst (λ (a : Result Asked WireFault). RepliesAlone before a reply after) (sym read) answers, told));
    } in (
      long ∙ ap (λ (n : ℕ). max 1 n) (sym fits),
      subst (λ (n : ℕ). IsLawfulRound before (take n (line ∷ others)) replies after) (sym long) lawful,
    )

-- batches that are answered together
round_lawful : (before after : StoreState) (line : List ℕ) (others : List (List ℕ)) (first lists : List (List Access)) (counts : List ℕ) (replies : List (List ℕ)) → IsStore before
    → lists_in before.rows line ≡ Some first → length first ≤ 256 → IsRoundOf before.rows first others counts lists → AnswersRound before lists counts replies after
    → (length replies ≡ round_length before.rows (line ∷ others)) × IsLawfulRound before (take (length replies) (line ∷ others)) replies after
round_lawful before after line others first lists counts replies store here few round answers =
    let rest = fitting before.rows (256 - length first) others in
    let batches = round.has.batches in
    let answered : RunsRound before (first ∷ batches) replies after ⊎ FailsRound before (first ∷ batches) replies after = answers (first ∷ batches) (sym round.has.in_order) (sym round.has.counted) in
    let number : length batches ≡ rest = round.has.number in
    let long : length replies ≡ suc (length batches) = answered_long before (first ∷ batches) replies after answered in
    let all : length replies ≡ suc rest = omega arith in
    let fits : fitting before.rows 256 (line ∷ others) ≡ 1 + rest = counts_one (lists_in before.rows line) 256 first (λ left. fitting before.rows left others) (here, few) in
    let read : batches_in before.rows (line ∷ take rest others) ≡ Some (first ∷ batches) =
    ap₂ (λ (o : Option (List (List Access))) (more : Option (List (List (List Access)))). option_and_then (λ one. option_map (λ bs. one ∷ bs) more) o) here round.has.are_read in
    let joins : length (joined (first ∷ batches)) ≤ 256 = let e : length lists ≡ length (joined (first ∷ batches)) = ap length round.has.in_order in let le : length lists ≤ 256 = round.has.few in omega arith in
    let lawful : IsLawfulRound before (line ∷ take rest others) replies after = record {
      store = store;
      answered = subst (λ (o : Option (List (List (List Access)))). AnswersLines before (line ∷ take rest others) o replies after) (sym read) (omega arith, joins, answered);
    } in (
      let one : max 1 (fitting before.rows 256 (line ∷ others)) ≡ suc rest = ap (λ (n : ℕ). max 1 n) fits ∙ omega arith in all ∙ sym one,
      subst (λ (n : ℕ). IsLawfulRound before (take n (line ∷ others)) replies after) (sym all) lawful,
    )

-- what is asked first, over the rows of a store
asked_first : (before : StoreState) (rows : Rows) (line : List ℕ) (asked : Result Asked WireFault)
    → rows ≡ before.rows → request_of rows line ≡ asked → lists_in before.rows line ≡ lists_asked asked
asked_first before rows line asked same read =
    ap (λ (rs : Rows). lists_in rs line) (sym same) ∙ ap lists_asked read

-- the same of a round's lines, over the rows of the store
pub first_alone : (before after : StoreState) (rows : Rows) (lines : List (List ℕ)) (line : List ℕ)
    (others : List (List ℕ)) (asked : Result Asked WireFault) (reply : Data) (text : List ℕ) (replies : List (List ℕ))
    → IsStore before → rows ≡ before.rows → lines ≡ line ∷ others → request_of rows line ≡ asked
    → lists_asked asked ≡ None → RepliesAlone before asked reply after → text ≡ compact_text reply → replies ≡ text ∷ []
    → AnswersFirst before lines replies after
first_alone before after rows lines line others asked reply text replies store same is read none answers told one =
    let here : request_of before.rows line ≡ asked = ap (λ (rs : Rows). request_of rs line) (sym same) ∙ read in
    subst (λ (ls : List (List ℕ)). AnswersFirst before ls replies after) (sym is)
    (alone_lawful before after line others asked reply text replies store here none answers told one)

-- and where the store is as it was
pub first_kept : (before now : StoreState) (lines : List (List ℕ)) (line : List ℕ) (others : List (List ℕ))
    (asked : Result Asked WireFault) (reply : Data) (text : List ℕ) (replies : List (List ℕ)) → before ≡ now
    → IsStore before → lines ≡ line ∷ others → request_of before.rows line ≡ asked → lists_asked asked ≡ None
    → RepliesAlone before asked reply before → text ≡ compact_text reply → replies ≡ text ∷ []
    → AnswersFirst now lines replies now
first_kept before now lines line others asked reply text replies same store is read none answers told one =
    subst (λ (s : StoreState). AnswersFirst s lines replies s) same
    (first_alone before before before.rows lines line others asked reply text replies store refl is read none answers
    told one)

-- batches that are answered together, over the rows of the store
pub first_round : (before after : StoreState) (rows : Rows) (lines : List (List ℕ)) (line : List ℕ)
    (others : List (List ℕ)) (first lists : List (List Access)) (counts : List ℕ) (replies : List (List ℕ))
    → IsStore before → rows ≡ before.rows → lines ≡ line ∷ others → request_of rows line ≡ Ok (Batch first)
    → length first ≤ 256 → IsRoundOf rows first others counts lists → AnswersRound before lists counts replies after
    → AnswersFirst before lines replies after
first_round before after rows lines line others first lists counts replies store same is read few round answers =
    let here : lists_in before.rows line ≡ Some first = asked_first before rows line (Ok (Batch first)) same read in
    let own : IsRoundOf before.rows first others counts lists =
    subst (λ (rs : Rows). IsRoundOf rs first others counts lists) same round in
    subst (λ (ls : List (List ℕ)). AnswersFirst before ls replies after) (sym is)
    (round_lawful before after line others first lists counts replies store here few own answers)

-- a first line that is no batch, with its one reply, is no round of batches
pub first_other : (before after : StoreState) (rows : Rows) (lines : List (List ℕ)) (line : List ℕ)
    (others : List (List ℕ)) (asked : Result Asked WireFault) (replies : List (List ℕ))
    → rows ≡ before.rows → lines ≡ line ∷ others → request_of rows line ≡ asked
    → lists_asked asked ≡ None → length replies ≡ 1
    → RunsFirst before lines replies after
first_other before after rows lines line others asked replies same is read none one batches all room =
    let no_lists : lists_in before.rows line ≡ None = asked_first before rows line asked same read ∙ none in
    let no_batches : batches_in before.rows (take (length replies) lines) ≡ None =
    ap (λ (ls : List (List ℕ)). batches_in before.rows (take (length replies) ls)) is
    ∙ ap (λ (n : ℕ). batches_in before.rows (take n (line ∷ others))) one
    ∙ ap (λ (o : Option (List (List Access))). option_and_then (λ lists. option_map (λ bs. lists ∷ bs) (Some [])) o)
    no_lists in absurd (none-some batches (sym no_batches ∙ all))

-- batches that were run together are the batches of the round
pub first_run : (before after : StoreState) (rows : Rows) (lines : List (List ℕ)) (line : List ℕ)
    (others : List (List ℕ)) (first lists : List (List Access)) (counts : List ℕ) (replies : List (List ℕ))
    → rows ≡ before.rows → lines ≡ line ∷ others → request_of rows line ≡ Ok (Batch first)
    → IsRoundOf rows first others counts lists
    → (before.rounds < 2 ^ 64 - 1 → RunsLists before lists counts replies after)
    → RunsFirst before lines replies after
first_run before after rows lines line others first lists counts replies same is read round runs batches all room =
    let here : lists_in before.rows line ≡ Some first = asked_first before rows line (Ok (Batch first)) same read in
    let own : IsRoundOf before.rows first others counts lists =
    subst (λ (rs : Rows). IsRoundOf rs first others counts lists) same round in
    let ran : RunsRound before (first ∷ own.has.batches) replies after =
    runs room (first ∷ own.has.batches) (sym own.has.in_order) (sym own.has.counted) in
    let long : length replies ≡ suc (fitting before.rows (256 - length first) others) =
    answered_long before (first ∷ own.has.batches) replies after (inl ran) ∙ ap suc own.has.number in
    let known : batches_in before.rows (take (length replies) lines) ≡ Some (first ∷ own.has.batches) =
    ap (λ (ls : List (List ℕ)). batches_in before.rows (take (length replies) ls)) is
    ∙ ap (λ (n : ℕ). batches_in before.rows (take n (line ∷ others))) long
    ∙ ap₂ (λ (o : Option (List (List Access))) (bs : Option (List (List (List Access)))).
    option_and_then (λ one. option_map (λ rs. one ∷ rs) bs) o) here own.has.are_read in
    subst (λ (bs : List (List (List Access))). RunsRound before bs replies after)
    (same_Some (first ∷ own.has.batches) batches (sym known ∙ all)) ran
