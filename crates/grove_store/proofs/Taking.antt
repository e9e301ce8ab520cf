-- The texts that are taken out of the replies of a round.
use Rattle.std.proofs.Common.{◌≡◌, ℕ, ◌≤◌, List, [], ◌∷◌, ◌++◌, length, map, take, sym, ◌∙◌, ap, subst}
use Rattle.std.proofs.Common.{arith, length-append}
use Rattle.std.proofs.lemmas.List.{length-map, append-nil}
use Rattle.grove_store.specs.StoreStates.{StoreState}
use Rattle.grove_store.specs.Rounds.{round_length, IsLawfulRound, RunsBatches}
use Rattle.grove_store.specs.Parts.{AnswersFirst, RunsFirst}
use Rattle.grove_store.proofs.Longest.{rounds_are_within}

-- nothing is left, so all was taken
taken : {A : Type 0} (front rest all : List A) → length rest ≡ 0 → front ++ rest ≡ all → front ≡ all
taken front [] all none parts = sym (append-nil front) ∙ parts
taken front (x ∷ rest) all none parts = absurd (omega arith)

-- they are those of the round
pub taken_all : {T : Type 0} (bytes : T → List ℕ) (texts : List T) (rest all replies lines : List (List ℕ))
    (before after : StoreState)
    → length rest ≡ 0 → map bytes texts ++ rest ≡ all → all ≡ replies
    → IsLawfulRound before (take (length replies) lines) replies after
    → (length texts ≡ length replies) × IsLawfulRound before (take (length texts) lines) (map bytes texts) after
taken_all bytes texts rest all replies lines before after none parts same round =
    let is : map bytes texts ≡ replies = taken (map bytes texts) rest all none parts ∙ same in
    let long : length texts ≡ length replies = sym (length-map texts bytes) ∙ ap length is in (
      long,
      subst (λ (n : ℕ). IsLawfulRound before (take n lines) (map bytes texts) after) (sym long)
          (subst (λ (texts : List (List ℕ)). IsLawfulRound before (take (length replies) lines) texts after)
          (sym is) round),
    )

-- the one reply to one line: it is the last of the replies to it
pub taken_one : (before after : StoreState) (line reply : List ℕ) (front replies : List (List ℕ))
    → replies ≡ front ++ reply ∷ [] → AnswersFirst before (line ∷ []) replies after
    → RunsFirst before (line ∷ []) replies after → RunsBatches before (line ∷ []) (reply ∷ []) after
taken_one before after line reply [] replies last answers runs =
    subst (λ (rs : List (List ℕ)). RunsFirst before (line ∷ []) rs after) last runs
taken_one before after line reply (other ∷ front) replies last answers runs =
    let long : length replies ≡ round_length before.rows (line ∷ []) = answers.0 in
    let few : round_length before.rows (line ∷ []) ≤ 1 = (rounds_are_within before.rows (line ∷ []) (omega arith)).1 in
    let many = ap length last in
    absurd (omega (arith, length-append (other ∷ front) (reply ∷ [])))
