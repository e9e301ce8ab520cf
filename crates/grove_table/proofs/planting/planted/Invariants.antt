use Rattle.std.proofs.Common.{◌≡◌, ◌<◌, ◌≤◌, ℕ, length, take}
use Rattle.grove_table.specs.Refusals.{IsSpare, needed}
use Rattle.grove_table.specs.Plantings.{paths_of}
use Rattle.grove_table.proofs.planting.planted.Given as goal

abbrev pub invariant-loop-place : goal.invariant-loop-place
invariant-loop-place l = record {
  few : length l.sprouts.items ≤ 4096;
  planted : paths_of l.sprouts.items ≡ needed (take l.place l.lines);
  none : (before : ℕ) → before < l.place → IsSpare l.lines before → ⊥;
}
