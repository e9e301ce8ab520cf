-- What holds of the replies of every lawful round, and of the store that it leaves.
use Rattle.std.specs.Prelude.{◌≢◌, ℕ, List, All}
use Rattle.grove_store.specs.StoreStates.{StoreState, IsSuccessor}
use Rattle.grove_store.specs.Rounds.{IsLawfulRound}

-- no byte of any reply is a line feed
abbrev pub RepliesAreFeedless : Type 0
RepliesAreFeedless = (before after : StoreState) (lines replies : List (List ℕ))
    → IsLawfulRound before lines replies after
    → All (λ reply. All (λ byte. byte ≢ 10) reply) replies

-- a lawful round leaves a successor of its store
abbrev pub RoundsLeaveSuccessors : Type 0
RoundsLeaveSuccessors = (before after : StoreState) (lines replies : List (List ℕ))
    → IsLawfulRound before lines replies after → IsSuccessor before after
