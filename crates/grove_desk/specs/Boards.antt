-- For the proofs alone: what a caller with lines on the board does next.
use Rattle.std.specs.Prelude.{◌≡◌, ◌<◌, List, [], length}
use Rattle.grove_line.specs.declared.asked.Asked.{Asked}
use Rattle.grove_desk.specs.declared.turn.Turn.{Turn}
use Rattle.grove_desk.specs.declared.turn.Turn.TheVariants.{Leave, Lead, Wait}

-- lines were taken off the board to be led, and only for that
abbrev pub Takes : {P L T : Type 0} → Turn P L → List (Asked T) → Type 0
Takes (Leave lines) taken = taken ≡ []
Takes (Lead ledger) taken = 0 < length taken
Takes Wait taken = taken ≡ []
