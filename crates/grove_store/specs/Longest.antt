-- For the proofs alone: a round is as long as may be: what a count of fitting lines means.
use Rattle.std.specs.Prelude.{◌≡◌, ℕ, ◌<◌, ◌≤◌, List, length, take, Some}
use Rattle.grove_tree.specs.Trees.{Rows}
use Rattle.grove_access.specs.declared.access.Access.{Access}
use Rattle.grove_store.specs.Rounds.{batches_in, joined, round_length}

-- all are batches without fault, with at most 256 lists together
abbrev pub FitOneRound : Rows → List (List ℕ) → Type 0
FitOneRound rows lines = (batches : List (List (List Access))) × (batches_in rows lines ≡ Some batches)
    × (length (joined batches) ≤ 256)

-- where the first line fits a round, so do all that are answered together
abbrev pub RoundsFit : Type 0
RoundsFit = (rows : Rows) (lines : List (List ℕ)) → FitOneRound rows (take 1 lines)
    → FitOneRound rows (take (round_length rows lines) lines)

-- no more of the first lines would fit
abbrev pub RoundsAreLongest : Type 0
RoundsAreLongest = (rows : Rows) (lines : List (List ℕ)) (more : ℕ) → more ≤ length lines
    → FitOneRound rows (take more lines) → more ≤ round_length rows lines

-- a line that fits no round is alone
abbrev pub OthersAreAlone : Type 0
OthersAreAlone = (rows : Rows) (lines : List (List ℕ)) → ¬ FitOneRound rows (take 1 lines) → round_length rows lines ≡ 1

-- a round answers at least one line, and none that isn't there
abbrev pub RoundsAreWithin : Type 0
RoundsAreWithin = (rows : Rows) (lines : List (List ℕ)) → 0 < length lines → (1 ≤ round_length rows lines)
    × (round_length rows lines ≤ length lines)
